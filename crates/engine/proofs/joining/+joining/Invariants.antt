use Rattle.std.proofs.Common.{◌+◌, ◌*◌}
use Rattle.meaning.specs.Diagrams.{extent}
use Rattle.engine.specs.Contents.{contents}
use Rattle.engine.specs.State.{state, diagram_of}
use Rattle.engine.proofs.joining.+joining.Given as goal

abbrev pub decreases-join : goal.decreases-join
decreases-join g l =
    let s = state (contents l.counts.now l.stores.now) in
    2 * (extent (diagram_of s l.left) + extent (diagram_of s l.right)) + 1

abbrev pub decreases-join_node : goal.decreases-join_node
decreases-join_node g l =
    let s = state (contents l.counts.now l.stores.now) in
    2 * (extent (diagram_of s l.left) + extent (diagram_of s l.right))
