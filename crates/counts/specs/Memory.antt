-- The sizes that the memories of a bench may have.
use Rattle.std.specs.Prelude.{ℕ, ◌≤◌}
use Rattle.faults.specs.declared.layers.Memory.{Memory}
use Rattle.faults.specs.declared.layers.Memory.TheVariants.{Actions, Cells, Nodes, Table}
use Rattle.faults.specs.declared.layers.StoreFault.{StoreFault}
use Rattle.faults.specs.declared.layers.StoreFault.TheVariants.{Full, NotHeld, BadMemory}
use Rattle.counts.specs.declared.memory.Sizes.{Sizes}

abbrev pub actions_limit : ℕ
actions_limit = 4096

abbrev pub cells_limit : ℕ
cells_limit = 16384

abbrev pub nodes_limit : ℕ
nodes_limit = 16384

abbrev pub table_limit : ℕ
table_limit = 65536

-- from the least to the most
abbrev pub Between : ℕ → ℕ → ℕ → Type 0
Between least most n = (least ≤ n) × (n ≤ most)

abbrev pub ActionsFit : Sizes → Type 0
ActionsFit s = Between 1 actions_limit s.actions

abbrev pub CellsFit : Sizes → Type 0
CellsFit s = Between 1 cells_limit s.cells

abbrev pub NodesFit : Sizes → Type 0
NodesFit s = Between 1 nodes_limit s.nodes

-- the shortest table has two words
abbrev pub TableFits : Sizes → Type 0
TableFits s = Between 2 table_limit s.table_words

pub record AllFit (s : Sizes) : Type 0 where
  pub actions_fit : ActionsFit s
  pub cells_fit : CellsFit s
  pub nodes_fit : NodesFit s
  pub table_fits : TableFits s

-- the first memory whose size does not fit
pub data FirstWrong (s : Sizes) : Memory → Type 0 where
  actions_wrong : (ActionsFit s → ⊥) → FirstWrong s Actions
  cells_wrong : ActionsFit s → (CellsFit s → ⊥) → FirstWrong s Cells
  nodes_wrong : ActionsFit s → CellsFit s → (NodesFit s → ⊥) → FirstWrong s Nodes
  table_wrong : ActionsFit s → CellsFit s → NodesFit s → (TableFits s → ⊥) → FirstWrong s Table

-- why the sizes are refused
abbrev pub Unfit : Sizes → StoreFault → Type 0
Unfit s Full = ⊥
Unfit s (NotHeld p) = ⊥
Unfit s (BadMemory m) = FirstWrong s m
