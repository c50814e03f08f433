-- What putting a table in force does.
use Rattle.std.specs.Prelude.{◌≡◌, ℕ, ◌<◌, ◌≤◌, List, Some, None, Ok, Err, Result, length, take}
use Rattle.faults.specs.declared.layers.TableFault.TheVariants as table
use Rattle.faults.specs.declared.layers.StoreFault.TheVariants.{NotHeld}
use Rattle.faults.specs.declared.layers.BenchFault.{BenchFault}
use Rattle.faults.specs.declared.layers.BenchFault.TheVariants.{Store, Table}
use Rattle.weights.specs.Weights.{Ops}
use Rattle.tables.specs.Rows.{table_words}
use Rattle.listing.specs.Rows.{rows_of}
use Rattle.meaning.specs.Diagrams.{Diagram, Formed}
use Rattle.stored.specs.Stored.{Stored, diagram}

-- the first n words of memory ws are in force; afterwards it is the table of the word's diagram, or a refusal left it
pub data Installs (o : Ops) (s : Stored) (word : ℕ) (ws : List ℕ) (n : ℕ) : Result ℕ BenchFault → List ℕ → ℕ → Type 0 where
  in_force : {d : Diagram} {is : List ℕ} {k : ℕ} → diagram s word ≡ Some d → Formed o d → length is ≡ length ws → k ≤ length is → take k is ≡ table_words (rows_of d) → Installs o s word ws n (Ok k) is k
  unheld : diagram s word ≡ None → Installs o s word ws n (Err (Store (NotHeld 0))) ws n
  too_long : {d : Diagram} → diagram s word ≡ Some d → length ws < length (table_words (rows_of d)) → Installs o s word ws n (Err (Table table.Full)) ws n
