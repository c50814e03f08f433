-- The words of a table, by their parts.
use Rattle.std.specs.Prelude.{◌≡◌, ℕ, Result, MatchResult, ◌≢◌}
use Rattle.format.specs.Words.{word, kind_of}
use Rattle.tables.specs.declared.kind.NoTableKind.{NoTableKind}
use Rattle.tables.specs.declared.kind.TableKind.{TableKind}
use Rattle.tables.specs.declared.word.TableWord.{TableWord}
use Rattle.tables.specs.Kinds.{number_of}

-- the parts of these bits, or an error with their kind's number, which no kind has
abbrev pub IsWord : ℕ → Result TableWord NoTableKind → Type 0
IsWord bits r =
    MatchResult r (λ w. bits ≡ word (number_of w.kind) w.field w.value)
    (λ e. (e.0 ≡ kind_of bits) × ((kind : TableKind) → number_of kind ≢ kind_of bits))
