use Rattle.std.proofs.Common.{refl, sym, ap, ◌∙◌, subst}
use Rattle.faults.proofs.PassedOn.{passed_on}
use Rattle.meaning.specs.Diagrams.{Diagram as MDiagram, extent}
use Rattle.records.specs.declared.kinds.Diagram.{Diagram}
use Rattle.requests.specs.Rules.{Negates}
use Rattle.engine.specs.State.{diagram_of}
use Rattle.engine.specs.Done.{Done}
use Rattle.engine.proofs.Composing.{kept_trans, same_diagram, present_grown, names_grown}
use Rattle.engine.proofs.NarrowRules.{here, leaf_word, node_counted}
use Rattle.engine.proofs.Alike.{negates_alike, makes_alike}
use Rattle.engine.proofs.Sides.{negate_sides, stops_first, stops_second, made_of_both, yes_less2, no_less2}
use Rattle.engine.specs.declared.memo.Operation.TheVariants.{Not}
use Rattle.engine.proofs.Remembering.{recalled, noted, leaf_keeps}
use Rattle.engine.proofs.Unchanged.{negated_asks}
use Rattle.engine.proofs.negating.+negating.Goals as goal

pub negate_node-returns-in-Leaf-clause-done : goal.negate_node-returns-in-Leaf-clause-done
negate_node-returns-in-Leaf-clause-done g t c =
    subst (λ (d : MDiagram). Done (Negates g.K.WeightKind.ops d) c.args.counts.now c.args.stores.now c.negated_leaf.new.counts c.negated_leaf.new.stores c.negated_leaf.result)
    (sym (leaf_word c.args.counts.now c.args.stores.now c.args.diagram c.in-Leaf.is)) c.negated_leaf.ensures.done

pub negate_node-node-root-requires-clause-held : goal.negate_node-node-root-requires-clause-held
negate_node-node-root-requires-clause-held g t c = node_counted _ _ c.requires.good _ _ c.in-Branch.is c.requires.present

pub negate_node-negate-requires : goal.negate_node-negate-requires
negate_node-negate-requires g t c κs within =
    let r = c.node-root.ensures in
    let whole = ap (λ (x : Diagram). diagram_of (here c.args.counts.now c.args.stores.now) x) c.in-Branch.is ∙ r.itself in
    (yes_less2 _ _ _ _ t refl (ap extent whole) c.decreases, (within, (c.requires.good, (r.yes_present, c.requires.memo))))

pub negate_node-returns-in_err-yes-clause-done : goal.negate_node-returns-in_err-yes-clause-done
negate_node-returns-in_err-yes-clause-done g t c =
    let whole = ap (λ (x : Diagram). diagram_of (here c.args.counts.now c.args.stores.now) x) c.in-Branch.is ∙ c.node-root.ensures.itself in
    stops_first (negate_sides whole) c.requires.good c.in_err-yes.ensures.done (passed_on c.from_residual.ensures.1)

pub negate_node-negate-requires-2 : goal.negate_node-negate-requires-2
negate_node-negate-requires-2 g t c κs within =
    let r = c.node-root.ensures in
    let whole = ap (λ (x : Diagram). diagram_of (here c.args.counts.now c.args.stores.now) x) c.in-Branch.is ∙ r.itself in
    let d1 = c.in_ok-yes.ensures.done in
    let z = same_diagram d1.made.added.grown c.node-root.result.no r.no_present in
    (no_less2 _ _ _ _ t (ap extent z) (ap extent whole) c.decreases, (within, (d1.made.good, (present_grown d1.made.added.grown c.node-root.result.no r.no_present, c.in_ok-yes.ensures.memo))))

pub negate_node-returns-in_err-no-clause-done : goal.negate_node-returns-in_err-no-clause-done
negate_node-returns-in_err-no-clause-done g t c =
    let r = c.node-root.ensures in
    let whole = ap (λ (x : Diagram). diagram_of (here c.args.counts.now c.args.stores.now) x) c.in-Branch.is ∙ r.itself in
    let d1 = c.in_ok-yes.ensures.done in
    let z = same_diagram d1.made.added.grown c.node-root.result.no r.no_present in
    stops_second (negate_sides whole) c.requires.good d1 c.in_ok-yes.ensures.kept (negates_alike g.K.WeightKind.ops z) c.in_err-no.ensures.done (passed_on c.from_residual-in_err-no.ensures.1)

pub negate_node-returns-in_err-no-clause-kept : goal.negate_node-returns-in_err-no-clause-kept
negate_node-returns-in_err-no-clause-kept g t c = kept_trans c.negate.ensures.kept c.negate-2.ensures.kept

pub negate_node-make-requires-clause-yes : goal.negate_node-make-requires-clause-yes
negate_node-make-requires-clause-yes g t c = present_grown c.in_ok-no.ensures.done.made.added.grown _ c.in_ok-yes.ensures.done.made.names.present

pub negate_node-returns-clause-done : goal.negate_node-returns-clause-done
negate_node-returns-clause-done g t c =
    let r = c.node-root.ensures in
    let whole = ap (λ (x : Diagram). diagram_of (here c.args.counts.now c.args.stores.now) x) c.in-Branch.is ∙ r.itself in
    let d1 = c.in_ok-yes.ensures.done in
    let z = same_diagram d1.made.added.grown c.node-root.result.no r.no_present in
    let d2 = c.in_ok-no.ensures.done in
    let v = names_grown d2.made.added.grown d1.made.names in
    made_of_both (negate_sides whole) c.requires.good d1 c.in_ok-yes.ensures.kept (negates_alike g.K.WeightKind.ops z) d2 c.in_ok-no.ensures.kept
    (makes_alike g.K.WeightKind.ops c.node-root.result.test.field c.node-root.result.test.value v.stands d2.made.names.stands) c.make.ensures.done

pub negate_node-returns-clause-kept : goal.negate_node-returns-clause-kept
negate_node-returns-clause-kept g t c = kept_trans (kept_trans c.negate.ensures.kept c.negate-2.ensures.kept) c.make.ensures.kept

pub negate-returns-in-Some-clause-done : goal.negate-returns-in-Some-clause-done
negate-returns-in-Some-clause-done g t c = recalled _ Not c.args.diagram c.args.diagram c.requires.good c.requires.memo c.in-Some.ensures

pub negate-returns-clause-memo : goal.negate-returns-clause-memo
negate-returns-clause-memo g t c = noted _ _ Not c.args.diagram c.args.diagram _ tt c.requires.present c.requires.present c.in_ok-result.ensures.memo c.in_ok-result.ensures.done c.note.ensures

pub negate_node-returns-in-Leaf-clause-memo : goal.negate_node-returns-in-Leaf-clause-memo
negate_node-returns-in-Leaf-clause-memo g t c = leaf_keeps _ _ c.requires.memo c.negated_leaf.ensures.leaves c.negated_leaf.ensures.done (negated_asks _ c.negated_leaf.ensures.done.by_the_rules)
