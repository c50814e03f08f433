-- What a bench holds.
use Rattle.std.specs.Prelude.{ℕ, ◌≤◌, List, length, take, refl}
use Rattle.std.specs.Coded.{Coded, code_by, coded×, coded_ℕ, coded_list}
use Rattle.format.specs.Words.{value_end}
use Rattle.weights.specs.Weights.{Ops}
use Rattle.stored.specs.Stored.{Holdings}
use Rattle.stored.specs.Codes.{holdings_code}
use Rattle.steps.specs.States.{State}
use Rattle.steps.specs.Sound.{Lists}

abbrev pub state_code : Coded State
state_code =
    code_by (Holdings × (List ℕ × ℕ)) (coded× holdings_code (coded× (coded_list coded_ℕ) coded_ℕ))
    (λ s. (record { stored = s.stored; rooms = s.rooms }, (s.table, s.table_room)))
    (λ p. record { stored = p.0.stored; rooms = p.0.rooms; table = p.1.0; table_room = p.1.1 }) (λ _. refl)

-- what the engine holds, and the table in the first n words of its memory
abbrev pub state_of : Holdings → List ℕ → ℕ → State
state_of h ws n = record { stored = h.stored; rooms = h.rooms; table = take n ws; table_room = length ws }

-- the table in force lists a well-formed diagram, and an end word can count as many rows as its memory has room for
pub record SoundTable (o : Ops) (ws : List ℕ) (n : ℕ) : Type 0 where
  pub lists : Lists o (take n ws)
  pub countable : length ws ≤ value_end
