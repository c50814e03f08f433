use Rattle.std.proofs.Common.{◌≡◌, ◌+◌, length}
use Rattle.engine.specs.Puts.{LeafInStore, cells_from}
use Rattle.engine.proofs.putting.count_cells.Given as goal

abbrev pub invariant-cells : goal.invariant-cells
invariant-cells l = LeafInStore l.counts l.stores l.rest × (l.count + length (cells_from l.counts l.stores l.rest) ≡ length (cells_from l.counts l.stores l.fn.first))

abbrev pub decreases-cells : goal.decreases-cells
decreases-cells l = length (cells_from l.counts l.stores l.rest)
