use Rattle.std.proofs.Common.{length}
use Rattle.engine.specs.Contents.{contents}
use Rattle.requests.specs.Rules.{prefix_leaf}
use Rattle.engine.specs.State.{state}
use Rattle.engine.specs.Leaves.{leaf_at}
use Rattle.engine.specs.Merging.{sets_of}
use Rattle.engine.specs.Greatest.{under}
use Rattle.engine.proofs.Prefixed.{Selected}
use Rattle.engine.proofs.prefixing.prefix_leaf.Given as goal

abbrev pub invariant-cells : goal.invariant-cells
invariant-cells g l =
    Selected g.K.WeightKind.ops l.fn.counts l.fn.stores (prefix_leaf g.K.WeightKind.ops l.prefix.action.sets l.prefix.weight (leaf_at (state (contents l.fn.counts l.fn.stores)) l.first.number)) (sets_of l.bound) l.counts l.stores l.made

abbrev pub decreases-cells : goal.decreases-cells
decreases-cells g l =
    length (under (sets_of l.bound) (prefix_leaf g.K.WeightKind.ops l.prefix.action.sets l.prefix.weight (leaf_at (state (contents l.fn.counts l.fn.stores)) l.first.number)))
