use Rattle.std.proofs.Common.{◌+◌, ◌*◌}
use Rattle.meaning.specs.Diagrams.{extent}
use Rattle.engine.specs.Contents.{contents}
use Rattle.engine.specs.State.{state, diagram_of}
use Rattle.engine.proofs.choosing.+choosing.Given as goal

abbrev pub decreases-choose : goal.decreases-choose
decreases-choose g l = let s = state (contents l.counts.now l.stores.now) in 2 * (extent (diagram_of s l.yes) + extent (diagram_of s l.no)) + 1

abbrev pub decreases-choose_node : goal.decreases-choose_node
decreases-choose_node g l = let s = state (contents l.counts.now l.stores.now) in 2 * (extent (diagram_of s l.yes) + extent (diagram_of s l.no))
