use Rattle.std.proofs.Common.{length}
use Rattle.engine.specs.Contents.{contents}
use Rattle.engine.specs.State.{state}
use Rattle.engine.specs.Leaves.{leaf_at}
use Rattle.engine.proofs.Unchanged.{Sought}
use Rattle.engine.proofs.leaf_narrowing.leaf_changes.Given as goal

abbrev pub invariant-cells : goal.invariant-cells
invariant-cells l = Sought (state (contents l.counts l.stores)) l.test.field l.test.value l.fn.first.number l.rest.number

abbrev pub decreases-cells : goal.decreases-cells
decreases-cells l = length (leaf_at (state (contents l.counts l.stores)) l.rest.number)
