-- What holds of every state of a bench. The law does not speak of it; its proof and the bench's type do.
use Rattle.std.specs.Prelude.{◌≡◌, ℕ, ◌+◌, ◌<◌, ◌≤◌, List}
use Rattle.format.specs.Words.{value_end}
use Rattle.weights.specs.Weights.{Ops}
use Rattle.meaning.specs.Diagrams.{Diagram, Formed}
use Rattle.tables.specs.Rows.{LegalRows, table_words}
use Rattle.listing.specs.Rows.{rows_of}
use Rattle.stored.specs.Whole.{Whole, AllFormed}
use Rattle.steps.specs.States.{State}

-- the table in force lists a formed diagram
pub record Lists (o : Ops) (table : List ℕ) : Type 0 where
  pub listed : Diagram
  pub formed : Formed o listed
  pub legal : LegalRows o (rows_of listed)
  pub words : table ≡ table_words (rows_of listed)

-- the stores are whole, and hold records of formed diagrams only
pub record SoundStores (o : Ops) (s : State) : Type 0 where
  pub whole : Whole s.rooms s.stored
  pub formed : AllFormed o s.stored
  -- there is room for fewer records than a word has values
  pub few : s.rooms.actions + s.rooms.cells + s.rooms.nodes < value_end

pub record Sound (o : Ops) (s : State) : Type 0 where
  pub stores : SoundStores o s
  pub table : Lists o s.table
  pub countable : s.table_room ≤ value_end
