use Rattle.std.proofs.Common.{◌+◌, ◌*◌}
use Rattle.meaning.specs.Diagrams.{extent}
use Rattle.engine.specs.Contents.{contents}
use Rattle.engine.specs.State.{state, diagram_of}
use Rattle.engine.proofs.sequencing.+sequencing.Given as goal

abbrev pub decreases-sequence : goal.decreases-sequence
decreases-sequence g l = let s = state (contents l.counts.now l.stores.now) in 2 * (extent (diagram_of s l.first)) + 1

abbrev pub decreases-sequence_node : goal.decreases-sequence_node
decreases-sequence_node g l = let s = state (contents l.counts.now l.stores.now) in 2 * (extent (diagram_of s l.first))
