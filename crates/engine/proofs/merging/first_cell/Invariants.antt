use Rattle.std.proofs.Common.{◌≡◌, length}
use Rattle.engine.specs.Contents.{contents}
use Rattle.engine.specs.State.{state}
use Rattle.engine.specs.Leaves.{LeafPresent, leaf_at}
use Rattle.engine.specs.Merging.{sift, strand}
use Rattle.engine.proofs.merging.first_cell.Given as goal

abbrev pub invariant-cells : goal.invariant-cells
invariant-cells l =
    let s = state (contents l.counts l.stores) in
    LeafPresent s l.first.number × (sift l.strand.view (leaf_at s l.first.number) ≡ strand s l.strand)

abbrev pub decreases-cells : goal.decreases-cells
decreases-cells l = length (leaf_at (state (contents l.counts l.stores)) l.first.number)
