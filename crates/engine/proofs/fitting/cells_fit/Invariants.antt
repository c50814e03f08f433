use Rattle.std.proofs.Common.{length}
use Rattle.engine.specs.Listing.{cells_words}
use Rattle.engine.specs.Puts.{LeafInStore, cells_from}
use Rattle.engine.proofs.InTurn.{Fitting}
use Rattle.engine.proofs.fitting.cells_fit.Given as goal

abbrev pub invariant-cells : goal.invariant-cells
invariant-cells l =
    LeafInStore l.counts l.stores l.rest × Fitting l.fn.room (cells_words (cells_from l.counts l.stores l.fn.first)) (cells_words (cells_from l.counts l.stores l.rest)) l.left

abbrev pub decreases-cells : goal.decreases-cells
decreases-cells l = length (cells_from l.counts l.stores l.rest)
