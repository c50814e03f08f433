use Rattle.std.proofs.Common.{◌+◌, length}
use Rattle.engine.specs.Contents.{contents}
use Rattle.engine.specs.State.{state}
use Rattle.engine.specs.Merging.{strand}
use Rattle.engine.proofs.merging.+merge.Given as goal

abbrev pub decreases-merge : goal.decreases-merge
decreases-merge g l =
    let s = state (contents l.counts.now l.stores.now) in
    length (strand s l.left) + length (strand s l.right)
