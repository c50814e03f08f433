-- What is printed of a text. Only private contracts cite this.
use Rattle.std.specs.Prelude.{◌≡◌, ℕ, ◌≤◌, ◌*◌, List, Result, MatchResult, Ok, Err, length}
use Rattle.faults.specs.declared.layers.BenchFault.{BenchFault}
use Rattle.weights.specs.Weights.{Ops}
use Rattle.pages.specs.declared.page.Page.{Page}
use Rattle.pages.specs.Pages.{Says}
use Rattle.steps.specs.States.{State, opened}
use Rattle.compiler.specs.Texts.{sizes, bytes_of_words, Gives, Compiles}

-- on a bench just opened in memories of the compilers' sizes: the table in force is the text's, or the text is refused
abbrev pub PutsInForce : Ops → List ℕ → State → Result ℕ BenchFault → State → Type 0
PutsInForce o text was r is = was ≡ opened sizes → MatchResult r (λ _. Gives o text (Ok is.table)) (λ f. Gives o text (Err f))

-- the words of the table, or nothing
abbrev pub PrintsTable : Ops → List ℕ → Page → Result (Unit {0}) BenchFault → Page → Type 0
PrintsTable o text was r is =
    MatchResult r
    (λ _. (words : List ℕ) × Gives o text (Ok words) × Says was (bytes_of_words words) is)
    (λ f. Gives o text (Err f) × (is ≡ was))

-- the bytes to which the text is compiled, no more of them than those of the longest table
pub record PrintsAnswer (o : Ops) (text : List ℕ) (was is : Page) : Type 0 where
  pub bytes : List ℕ
  pub compiled : Compiles o text bytes
  pub short : length bytes ≤ 4 * sizes.table_words
  pub says : Says was bytes is
