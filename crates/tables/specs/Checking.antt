-- What may still come in each state of the check, for a legal table.
use Rattle.std.specs.Prelude.{◌≡◌, ℕ, zero, suc, ◌+◌, ◌<◌, ◌≤◌, List, [], ◌∷◌, ◌++◌, map, length, take, Option, MatchOption}
use Rattle.std.specs.List.{flat_map, AllByRecursion}
use Rattle.format.specs.Fields.{fields}
use Rattle.format.specs.Words.{word, value_end}
use Rattle.weights.specs.Weights.{Ops}
use Rattle.tables.specs.declared.state.Checker.{Checker}
use Rattle.tables.specs.declared.state.State.{State}
use Rattle.tables.specs.declared.state.State.TheVariants.{Head, Matches, Emissions, Sets, End}
use Rattle.tables.specs.Rows.{Pair, Emission, Row, emission_words, row_words, LegalPairs, LegalEmission, LegalRow, LegalTable}

-- legal rows after the first n, and the end
pub record RowsRest (o : Ops) (n : ℕ) (ws : List ℕ) : Type 0 where
  pub rows : List Row
  pub legal : AllByRecursion (LegalRow o) rows
  pub countable : n + length rows < value_end
  pub is : ws ≡ flat_map row_words rows ++ (word 14 0 (n + length rows) ∷ [])

-- so many emissions, and the rest of the table
pub record EmissionsRest (o : Ops) (n due : ℕ) (ws : List ℕ) : Type 0 where
  pub emissions : List Emission
  pub tail : List ℕ
  pub count : length emissions ≡ due
  pub legal : AllByRecursion (LegalEmission o) emissions
  pub later : RowsRest o n tail
  pub is : ws ≡ flat_map emission_words emissions ++ tail

-- so many matches of fields from f on, and the rest
pub record MatchesRest (o : Ops) (n f due emissions : ℕ) (ws : List ℕ) : Type 0 where
  pub pairs : List Pair
  pub tail : List ℕ
  pub count : length pairs ≡ due
  pub legal : LegalPairs f pairs
  pub later : EmissionsRest o n emissions tail
  pub is : ws ≡ map (λ p. word 11 p.0 p.1) pairs ++ tail

-- sets of fields from f on, and the rest
pub record SetsRest (o : Ops) (n f due : ℕ) (ws : List ℕ) : Type 0 where
  pub pairs : List Pair
  pub tail : List ℕ
  pub legal : LegalPairs f pairs
  pub later : EmissionsRest o n due tail
  pub is : ws ≡ map (λ p. word 13 p.0 p.1) pairs ++ tail

-- the words complete a legal table, of which n heads were read
abbrev pub Rest : Ops → ℕ → State → List ℕ → Type 0
Rest o n Head ws = RowsRest o n ws
Rest o n (Matches f due emissions) ws = MatchesRest o n f due emissions ws
Rest o n (Emissions due) ws = EmissionsRest o n due ws
Rest o n (Sets f due) ws = SetsRest o n f due ws
Rest o n End ws = ws ≡ []

-- some words complete it
abbrev pub Open : ℕ → State → Type 0
Open n Head = n < value_end
Open n (Matches f due emissions) = (n < value_end) × (0 < due) × (f + due ≤ fields) × (emissions < value_end)
Open n (Emissions due) = (n < value_end) × (0 < due)
Open n (Sets f due) = (n < value_end) × (f ≤ fields)
Open n End = Unit {0}

-- word w leads from a state to another just if a legal table can go on so
abbrev pub Takes : Ops → ℕ → State → ℕ → Option Checker → Type 0
Takes o n s w r =
    MatchOption r ((rest : List ℕ) → Rest o n s (w ∷ rest) → ⊥)
    (λ c. Open c.rows c.state
    × ((rest : List ℕ) → Rest o n s (w ∷ rest) → Rest o c.rows c.state rest)
    × ((rest : List ℕ) → Rest o c.rows c.state rest → Rest o n s (w ∷ rest)))

-- a legal table begins with the words before place i, but none with the word there too; or they end early there
pub record Stops (o : Ops) (ws : List ℕ) (i : ℕ) : Type 0 where
  pub within : i ≤ length ws
  pub begins : (rest : List ℕ) × LegalTable o (take i ws ++ rest)
  pub stuck : i < length ws → (rest : List ℕ) → LegalTable o (take (i + 1) ws ++ rest) → ⊥
  pub early : i ≡ length ws → LegalTable o ws → ⊥

-- the state in which so many matches of fields from f on and so many emissions are due
abbrev pub next_due : ℕ → ℕ → ℕ → State
next_due f zero zero = Head
next_due f zero (suc n) = Emissions (suc n)
next_due f (suc d) n = Matches f (suc d) n
