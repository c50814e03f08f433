-- What a policy text is compiled to, and the bytes that say so.
use Rattle.std.specs.Prelude.{◌≡◌, ℕ, ◌<◌, ◌≤◌, List, Ok, Err, Result, length}
use Rattle.std.specs.List.{flat_map}
use Rattle.std.specs.Int.{to_be_bytes, w32}
use Rattle.format.specs.Policy.{Policy}
use Rattle.faults.specs.Lines.{refused_line}
use Rattle.faults.specs.Shows.{bench_shown}
use Rattle.faults.specs.declared.layers.CompileFault.{CompileFault}
use Rattle.faults.specs.declared.layers.StoreFault.TheVariants as store
use Rattle.faults.specs.declared.layers.TableFault.TheVariants as table
use Rattle.faults.specs.declared.layers.BenchFault.{BenchFault}
use Rattle.faults.specs.declared.layers.BenchFault.TheVariants.{Text, Store, Table}
use Rattle.policy.specs.Verdicts.{Reads, NoPolicy}
use Rattle.checking.specs.Checking.{Accepted}
use Rattle.weights.specs.Weights.{Ops}
use Rattle.counts.specs.declared.memory.Sizes.{Sizes}
use Rattle.meaning.specs.Diagrams.{Diagram}
use Rattle.requests.specs.Requests.{Request}
use Rattle.requests.specs.Rules.{Compiled}
use Rattle.tables.specs.Rows.{table_words}
use Rattle.listing.specs.Rows.{rows_of}
use Rattle.stored.specs.Grows.{Over, size}
use Rattle.steps.specs.States.{opened}

-- how many records and table words the compilers have room for
abbrev pub sizes : Sizes
sizes = record { actions = 256; cells = 512; nodes = 512; table_words = 1024 }

-- the text is one of a policy whose diagram is d by the rules, which request these records
pub record HasDiagram (o : Ops) (text : List ℕ) (d : Diagram) (asks : List Request) : Type 0 where
  pub words : List ℕ
  pub reads : Reads text words
  pub policy : Policy
  pub accepted : Accepted words policy
  pub compiled : Compiled o policy d asks

-- these are more records than empty stores have room for
abbrev pub Overfills : List Request → Type 0
Overfills asks = Over (size (opened sizes).rooms) (opened sizes).stored asks

-- the words of the text's table, or the fault that is judged first
pub data Gives (o : Ops) (text : List ℕ) : Result (List ℕ) BenchFault → Type 0 where
  no_policy : {f : CompileFault} → NoPolicy text f → Gives o text (Err (Text f))
  stores_full : {d : Diagram} {asks : List Request} → HasDiagram o text d asks → Overfills asks → Gives o text (Err (Store store.Full))
  table_full :
      {d : Diagram} {asks : List Request} →
      HasDiagram o text d asks →
      (Overfills asks → ⊥) →
      sizes.table_words < length (table_words (rows_of d)) →
      Gives o text (Err (Table table.Full))
  compiled :
      {d : Diagram} {asks : List Request} →
      HasDiagram o text d asks →
      (Overfills asks → ⊥) →
      length (table_words (rows_of d)) ≤ sizes.table_words →
      Gives o text (Ok (table_words (rows_of d)))

-- four bytes for each word, the most significant first
abbrev pub bytes_of_words : List ℕ → List ℕ
bytes_of_words words = flat_map (to_be_bytes w32) words

-- the bytes of a table, or the line of a refusal
abbrev pub bytes_of : Result (List ℕ) BenchFault → List ℕ
bytes_of (Ok words) = bytes_of_words words
bytes_of (Err f) = refused_line (bench_shown f)

-- the text is compiled to these bytes
abbrev pub Compiles : Ops → List ℕ → List ℕ → Type 0
Compiles o text bytes = (given : Result (List ℕ) BenchFault) × Gives o text given × (bytes ≡ bytes_of given)

-- and to no others
abbrev pub OnlyBytes : Ops → List ℕ → List ℕ → Type 0
OnlyBytes o text bytes = (also : List ℕ) → Compiles o text also → also ≡ bytes
