use Rattle.std.proofs.Common.{length}
use Rattle.engine.specs.Contents.{contents}
use Rattle.engine.specs.State.{state, diagram_of}
use Rattle.engine.specs.Leaves.{leaf_at}
use Rattle.engine.specs.Memo.{Remembers}
use Rattle.engine.proofs.FollowRules.{FollowMade}
use Rattle.engine.proofs.sequencing.follow.Given as goal

abbrev pub invariant-cells : goal.invariant-cells
invariant-cells g l =
    let s = state (contents l.fn.counts l.fn.stores) in
    FollowMade g.K.WeightKind.ops l.fn.counts l.fn.stores (diagram_of s l.second) (leaf_at s l.fn.first.number) l.second l.counts l.stores l.sofar l.rest × Remembers g.K.WeightKind.ops (state (contents l.counts l.stores)) l.memo.entries

abbrev pub decreases-cells : goal.decreases-cells
decreases-cells g l = length (leaf_at (state (contents l.counts l.stores)) l.rest.number)
