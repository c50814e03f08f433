-- The kinds of a policy's words, by number.
use Rattle.std.specs.Prelude.{◌≡◌, ℕ, Result, MatchResult, ◌≢◌}
use Rattle.format.specs.declared.kinds.NoPolicyKind.{NoPolicyKind}
use Rattle.format.specs.declared.kinds.PolicyKind.{PolicyKind}
use Rattle.format.specs.declared.kinds.PolicyKind.TheVariants.{Drop, Pass, Test, Set, Cost, Not, Union, Sequence, Star}

-- the number of a kind, in bits 31 to 28
abbrev pub number_of : PolicyKind → ℕ
number_of Drop = 0
number_of Pass = 1
number_of Test = 2
number_of Set = 3
number_of Cost = 4
number_of Not = 5
number_of Union = 6
number_of Sequence = 7
number_of Star = 8

-- the kind with this number, or an error with a number that no kind has
abbrev pub IsKind : ℕ → Result PolicyKind NoPolicyKind → Type 0
IsKind n r = MatchResult r (λ kind. number_of kind ≡ n) (λ e. (e.0 ≡ n) × ((kind : PolicyKind) → number_of kind ≢ n))
