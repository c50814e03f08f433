use Rattle.std.proofs.Common.{◌+◌, ◌*◌}
use Rattle.meaning.specs.Diagrams.{extent}
use Rattle.engine.specs.Contents.{contents}
use Rattle.engine.specs.State.{state, diagram_of}
use Rattle.engine.proofs.negating.+negating.Given as goal

abbrev pub decreases-negate : goal.decreases-negate
decreases-negate g l = let s = state (contents l.counts.now l.stores.now) in 2 * (extent (diagram_of s l.diagram)) + 1

abbrev pub decreases-negate_node : goal.decreases-negate_node
decreases-negate_node g l = let s = state (contents l.counts.now l.stores.now) in 2 * (extent (diagram_of s l.diagram))
