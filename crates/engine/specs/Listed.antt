-- What listing the table of a diagram does.
use Rattle.std.specs.Prelude.{◌≡◌, ℕ, ◌<◌, ◌≤◌, min, List, Some, None, Ok, Err, Result, length, take, drop, MatchResult}
use Rattle.format.specs.Words.{value_end}
use Rattle.faults.specs.declared.layers.TableFault.{TableFault}
use Rattle.faults.specs.declared.layers.TableFault.TheVariants as table
use Rattle.faults.specs.declared.layers.StoreFault.TheVariants.{NotHeld}
use Rattle.faults.specs.declared.layers.BenchFault.{BenchFault}
use Rattle.faults.specs.declared.layers.BenchFault.TheVariants.{Store, Table}
use Rattle.weights.specs.Weights.{Ops}
use Rattle.tables.specs.Rows.{table_words}
use Rattle.listing.specs.Rows.{rows_of}
use Rattle.meaning.specs.Diagrams.{Diagram, Formed}
use Rattle.stored.specs.Stored.{Stored, diagram}

-- the table of the diagram is in the first n words, and the words behind it are as they were
pub record AtFront (d : Diagram) (was : List ℕ) (n : ℕ) (is : List ℕ) : Type 0 where
  pub within : n ≤ length was
  pub table : take n is ≡ table_words (rows_of d)
  pub size : length is ≡ length was
  pub past : drop n is ≡ drop n was

-- or it is longer than memory, which stays
abbrev pub Listed : Diagram → List ℕ → Result ℕ TableFault → List ℕ → Type 0
Listed d was result is = MatchResult result (λ n. AtFront d was n is) (λ f. (f ≡ table.Full) × (length was < length (table_words (rows_of d))) × (is ≡ was))

-- an end word counts the rows of tables up to this length
abbrev pub list_room : List ℕ → ℕ
list_room was = min (length was) value_end

-- what listing the table of a word's diagram answers and leaves in memory; a refusal changes nothing
pub data Tabulates (o : Ops) (s : Stored) (word : ℕ) (was : List ℕ) : Result ℕ BenchFault → List ℕ → Type 0 where
  listed : {d : Diagram} {n : ℕ} {is : List ℕ} → diagram s word ≡ Some d → Formed o d → AtFront d was n is → Tabulates o s word was (Ok n) is
  not_held : diagram s word ≡ None → Tabulates o s word was (Err (Store (NotHeld 0))) was
  too_long : {d : Diagram} → diagram s word ≡ Some d → list_room was < length (table_words (rows_of d)) → Tabulates o s word was (Err (Table table.Full)) was
