-- A script read line by line.
use Rattle.std.proofs.Common.{◌≡◌, ℕ, ◌+◌, ◌≤◌, List, [], ◌∷◌, ◌++◌, length, Some, Ok, Err, Option, Result, refl, sym, ap, append_assoc, append-nil, Bor}
use Rattle.std.specs.Option.{option_map_or}
use Rattle.scripts.specs.Heard.{Holds, asked_in}
use Rattle.scripts.specs.Lines.{Asked, Meaning, nothing, call}
use Rattle.scripts.specs.Scripts.{lines, line_first, asked_from, script_said}
use Rattle.scripts.specs.declared.needs.Needs.{Needs}

-- what calls come to, behind calls that were read before
abbrev pub behind_calls : List Asked → Result (List Asked) ℕ → Result (List Asked) ℕ
behind_calls done (Ok cs) = Ok (done ++ cs)
behind_calls done (Err n) = Err n

abbrev pub lines_left : Option (Bor (List ℕ)) → List (List ℕ)
lines_left rest = option_map_or (λ text. lines text.now) rest []

abbrev pub left : Option (Bor (List ℕ)) → ℕ
left rest = option_map_or (λ text. length text.now + 1) rest 0

pub record Progress (script : List ℕ) (rest : Option (Bor (List ℕ))) (number : ℕ) (needs : Needs) (frames : List ℕ) : Type 0 where
  pub done : List Asked
  pub holds : Holds done needs frames
  pub read : script_said script ≡ behind_calls done (asked_from number (lines_left rest))
  pub counted : number + left rest ≤ length script + 2

none_done : (r : Result (List Asked) ℕ) → r ≡ behind_calls [] r
none_done (Ok cs) = refl
none_done (Err n) = refl

one_done : (done : List Asked) (m : Meaning) (n : ℕ) (r : Result (List Asked) ℕ) → behind_calls done (line_first n (Some m) r) ≡ behind_calls (done ++ asked_in m) r
one_done done nothing n r = ap (λ cs. behind_calls cs r) (sym (append-nil done))
one_done done (call c) n (Ok cs) = ap Ok (sym (append_assoc done (c ∷ []) cs))
one_done done (call c) n (Err e) = refl
