-- What a bench holds.
use Rattle.std.specs.Prelude.{◌≡◌, ℕ, List, []}
use Rattle.weights.specs.Weights.{Ops}
use Rattle.counts.specs.declared.memory.Sizes.{Sizes}
use Rattle.meaning.specs.Constructions.{drop_diagram}
use Rattle.tables.specs.Rows.{Row, LegalRows, table_words}
use Rattle.listing.specs.Rows.{rows_of}
use Rattle.stored.specs.Stored.{Stored, Rooms}

pub record State : Type 0 where
  pub stored : Stored
  pub rooms : Rooms
  -- the words of the table in force, and how many its memory has room for
  pub table : List ℕ
  pub table_room : ℕ

-- these words are the table of these legal rows
pub record TableOf (o : Ops) (table : List ℕ) (rows : List Row) : Type 0 where
  pub legal : LegalRows o rows
  pub words : table ≡ table_words rows

-- as a bench is opened: nothing in store, the table of drop in force
abbrev pub opened : Sizes → State
opened z =
    record {
      stored = record { actions = []; leaves = []; nodes = [] };
      rooms = record { actions = z.actions; cells = z.cells; nodes = z.nodes };
      table = table_words (rows_of drop_diagram);
      table_room = z.table_words;
    }
