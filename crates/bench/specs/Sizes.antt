-- The sizes of the memories that a bench is lent.
use Rattle.std.specs.Prelude.{ℕ, List, length}
use Rattle.counts.specs.declared.memory.Sizes.{Sizes}
use Rattle.bench.specs.declared.memories.Memories.{Memories}

abbrev pub sizes : {A C N : Type 0} → List A → List C → List N → List ℕ → Sizes
sizes actions cells nodes table = record { actions = length actions; cells = length cells; nodes = length nodes; table_words = length table }

abbrev pub sizes_in : Memories → Sizes
sizes_in m = sizes m.actions.now m.cells.now m.nodes.now m.table.now
