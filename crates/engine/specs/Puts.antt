-- What the listing of a diagram puts on a sheet. It serves proofs alone: what the engine promises is in Views, Listed and what they cite.
use Rattle.std.specs.Prelude.{◌≡◌, ℕ, ◌+◌, ◌≤◌, List, length, take}
use Rattle.format.specs.declared.settings.Amount.{Amount}
use Rattle.meaning.specs.Leaves.{Cell}
use Rattle.meaning.specs.Diagrams.{Diagram as MDiagram}
use Rattle.records.specs.declared.kinds.Diagram.{Diagram}
use Rattle.counts.specs.declared.counts.Counts.{Counts}
use Rattle.engine.specs.declared.memory.Stores.{Stores}
use Rattle.engine.specs.Contents.{contents}
use Rattle.engine.specs.declared.sheet.Sheet.{Sheet}
use Rattle.engine.specs.declared.way.Way.{Way}
use Rattle.engine.specs.State.{state, Present, diagram_of}
use Rattle.engine.specs.Leaves.{LeafPresent, leaf_at}
use Rattle.engine.specs.Sheets.{Writes}

-- the sheet has these words more, and so many rows more, in the memory that it was lent
pub record Puts (s : Sheet) (more : List ℕ) (rows : ℕ) (s' : Sheet) : Type 0 where
  pub writes : Writes s.words.now s.count more s'.words.now s'.count
  pub rows_put : s'.rows ≡ s.rows + rows
  pub lender : s'.words.ghost_name ≡ s.words.ghost_name

abbrev pub RoomFor : Sheet → List ℕ → Type 0
RoomFor s more = s.count + length more ≤ length s.words.now

-- the cells of the leaf with this first cell
abbrev pub cells_from : Counts → Stores → Amount → List Cell
cells_from c s first = leaf_at (state (contents c s)) first.number

abbrev pub LeafInStore : Counts → Stores → Amount → Type 0
LeafInStore c s first = LeafPresent (state (contents c s)) first.number

abbrev pub diagram_in : Counts → Stores → Diagram → MDiagram
diagram_in c s w = diagram_of (state (contents c s)) w

abbrev pub InStore : Counts → Stores → Diagram → Type 0
InStore c s w = Present (state (contents c s)) w

abbrev pub way_words : Way → List ℕ
way_words way = take way.count way.words
