-- The kinds of a table's words, by number.
use Rattle.std.specs.Prelude.{◌≡◌, ℕ, Result, MatchResult, ◌≢◌}
use Rattle.tables.specs.declared.kind.TableKind.{TableKind}
use Rattle.tables.specs.declared.kind.TableKind.TheVariants.{Head, Match, Weight, Set, End}
use Rattle.tables.specs.declared.kind.NoTableKind.{NoTableKind}

-- the number of a kind, in bits 31 to 28
abbrev pub number_of : TableKind → ℕ
number_of Head = 10
number_of Match = 11
number_of Weight = 12
number_of Set = 13
number_of End = 14

-- the kind with this number, or an error with a number that no kind has
abbrev pub IsKind : ℕ → Result TableKind NoTableKind → Type 0
IsKind n r = MatchResult r (λ kind. number_of kind ≡ n) (λ e. (e.0 ≡ n) × ((kind : TableKind) → number_of kind ≢ n))
