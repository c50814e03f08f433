use Rattle.std.proofs.Common.{ap, ◌∙◌}
use Rattle.records.specs.declared.kinds.Diagram.{Diagram}
use Rattle.engine.specs.Puts.{diagram_in, way_words}
use Rattle.engine.proofs.NarrowRules.{leaf_word, node_counted}
use Rattle.engine.proofs.Rows.{put_started, leaf_room, put_ends, put_more}
use Rattle.engine.proofs.putting.+put_rows.Goals as goal

pub tests-init : goal.tests-init
tests-init t c = (c.requires.present, put_started (way_words c.args.way.now) (diagram_in c.args.counts.now c.args.stores.now c.args.diagram) c.requires.short c.args.sheet.now)

pub put_leaf-requires-clause-room : goal.put_leaf-requires-clause-room
put_leaf-requires-clause-room t c = leaf_room (leaf_word c.args.counts.now c.args.stores.now c.tests.rest c.in-Leaf.is) c.tests.invariant.1 c.requires.room

pub returns-in-Leaf : goal.returns-in-Leaf
returns-in-Leaf t c = put_ends (leaf_word c.args.counts.now c.args.stores.now c.tests.rest c.in-Leaf.is) c.tests.invariant.1 c.put_leaf.ensures

pub node-root-requires-clause-held : goal.node-root-requires-clause-held
node-root-requires-clause-held t c = node_counted _ _ c.requires.good _ _ c.in-Branch.is c.tests.invariant.0

pub tests-preserved : goal.tests-preserved
tests-preserved t c = (c.node-root.ensures.no_present, put_more (ap (λ (x : Diagram). diagram_in c.args.counts.now c.args.stores.now x) c.in-Branch.is ∙ c.node-root.ensures.itself) c.with-behind.ensures c.tests.invariant.1 c.put_rows.ensures)
