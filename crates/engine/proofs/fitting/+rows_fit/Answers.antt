use Rattle.std.proofs.Common.{ℕ, Option, sym, ap, ◌∙◌, subst}
use Rattle.records.specs.declared.kinds.Diagram.{Diagram}
use Rattle.engine.specs.Listing.{Fits, rows_words}
use Rattle.engine.specs.Puts.{diagram_in, way_words}
use Rattle.engine.proofs.NarrowRules.{leaf_word, node_counted}
use Rattle.engine.proofs.InTurn.{way_room}
use Rattle.engine.proofs.Rows.{fit_started, fit_ends, fit_stops, fit_more}
use Rattle.engine.proofs.fitting.+rows_fit.Goals as goal

pub tests-init : goal.tests-init
tests-init t c = (c.requires.present, fit_started (way_words c.args.way.now) (diagram_in c.args.counts.now c.args.stores.now c.args.diagram) c.requires.short c.args.room)

pub returns-in-Leaf : goal.returns-in-Leaf
returns-in-Leaf t c = fit_ends (leaf_word c.args.counts.now c.args.stores.now c.tests.rest c.in-Leaf.is) c.leaf_fits.result c.tests.invariant.1 c.leaf_fits.ensures

pub node-root-requires-clause-held : goal.node-root-requires-clause-held
node-root-requires-clause-held t c = node_counted _ _ c.requires.good _ _ c.in-Branch.is c.tests.invariant.0

pub with-behind-requires : goal.with-behind-requires
with-behind-requires t c = way_room (ap (λ (x : Diagram). diagram_in c.args.counts.now c.args.stores.now x) c.in-Branch.is ∙ c.node-root.ensures.itself) (way_words c.args.way.now) c.tests.invariant.1.rest.short

pub returns-in_err-left : goal.returns-in_err-left
returns-in_err-left t c =
    subst (λ (r : Option ℕ). Fits c.args.room (rows_words (way_words c.args.way.now) (diagram_in c.args.counts.now c.args.stores.now c.args.diagram)) r) (sym c.from_residual.ensures)
    (fit_stops (ap (λ (x : Diagram). diagram_in c.args.counts.now c.args.stores.now x) c.in-Branch.is ∙ c.node-root.ensures.itself) c.with-behind.ensures c.tests.invariant.1 c.in_err-left.ensures)

pub tests-preserved : goal.tests-preserved
tests-preserved t c = (c.node-root.ensures.no_present, fit_more (ap (λ (x : Diagram). diagram_in c.args.counts.now c.args.stores.now x) c.in-Branch.is ∙ c.node-root.ensures.itself) c.with-behind.ensures c.in_ok-left.left c.tests.invariant.1 c.in_ok-left.ensures)
