use Rattle.meaning.specs.Diagrams.{extent}
use Rattle.engine.specs.Contents.{contents}
use Rattle.engine.specs.State.{state, diagram_of}
use Rattle.engine.specs.Puts.{InStore, diagram_in, way_words}
use Rattle.engine.proofs.Rows.{RowsPut}
use Rattle.engine.proofs.putting.+put_rows.Given as goal

abbrev pub decreases-put_rows : goal.decreases-put_rows
decreases-put_rows l = extent (diagram_of (state (contents l.counts.now l.stores.now)) l.diagram)

abbrev pub invariant-tests : goal.invariant-tests
invariant-tests l = InStore l.counts l.stores l.rest × RowsPut l.fn.sheet (way_words l.way) (diagram_in l.counts l.stores l.fn.diagram) (diagram_in l.counts l.stores l.rest) l.sheet

abbrev pub decreases-tests : goal.decreases-tests
decreases-tests l = extent (diagram_in l.counts l.stores l.rest)
