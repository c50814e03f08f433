use Rattle.std.proofs.Common.{◌+◌, ◌*◌}
use Rattle.meaning.specs.Diagrams.{extent}
use Rattle.engine.specs.Contents.{contents}
use Rattle.engine.specs.State.{state, diagram_of}
use Rattle.engine.proofs.narrowing.+narrowing.Given as goal

abbrev pub decreases-narrow : goal.decreases-narrow
decreases-narrow g l = 3 * extent (diagram_of (state (contents l.counts.now l.stores.now)) l.diagram) + 1

abbrev pub decreases-narrow_node : goal.decreases-narrow_node
decreases-narrow_node g l = 3 * extent (diagram_of (state (contents l.counts.now l.stores.now)) l.diagram)

abbrev pub decreases-make : goal.decreases-make
decreases-make g l =
    let s = state (contents l.counts.now l.stores.now) in
    3 * (extent (diagram_of s l.yes) + extent (diagram_of s l.no)) + 2
