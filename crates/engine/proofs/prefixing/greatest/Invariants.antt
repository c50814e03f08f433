use Rattle.std.proofs.Common.{length}
use Rattle.engine.specs.Contents.{contents}
use Rattle.engine.specs.State.{state}
use Rattle.engine.specs.Leaves.{leaf_at}
use Rattle.engine.specs.Merging.{sets_of}
use Rattle.engine.specs.Greatest.{found_cell}
use Rattle.engine.proofs.Greatest.{Scanned}
use Rattle.engine.proofs.prefixing.greatest.Given as goal

abbrev pub invariant-cells : goal.invariant-cells
invariant-cells g l =
    Scanned g.K.WeightKind.ops l.prefix.action.sets l.prefix.weight (sets_of l.bound) (state (contents l.counts l.stores)) l.fn.first.number l.rest.number (found_cell l.found)

abbrev pub decreases-cells : goal.decreases-cells
decreases-cells g l = length (leaf_at (state (contents l.counts l.stores)) l.rest.number)
