use Rattle.std.proofs.Common.{◌+◌, ◌*◌}
use Rattle.meaning.specs.Diagrams.{extent}
use Rattle.engine.specs.Contents.{contents}
use Rattle.engine.specs.State.{state, diagram_of}
use Rattle.engine.proofs.prefixing.+prefixing.Given as goal

abbrev pub decreases-prefix : goal.decreases-prefix
decreases-prefix g l = let s = state (contents l.counts.now l.stores.now) in 2 * (extent (diagram_of s l.diagram)) + 1

abbrev pub decreases-prefix_node : goal.decreases-prefix_node
decreases-prefix_node g l = let s = state (contents l.counts.now l.stores.now) in 2 * (extent (diagram_of s l.diagram))
