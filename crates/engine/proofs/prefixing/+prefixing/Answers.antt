use Rattle.std.proofs.Common.{None, get_or, refl, sym, ap, ◌∙◌}
use Rattle.faults.proofs.PassedOn.{passed_on}
use Rattle.meaning.specs.Diagrams.{extent}
use Rattle.records.specs.declared.kinds.Diagram.{Diagram}
use Rattle.engine.specs.State.{diagram_of}
use Rattle.engine.proofs.Composing.{kept_trans, same_diagram, present_grown, names_grown}
use Rattle.engine.proofs.NarrowRules.{here, leaf_word, node_counted}
use Rattle.engine.proofs.PrefixRules.{prefix_at_leaf, prefix_to_yes, prefix_to_no}
use Rattle.engine.proofs.Alike.{prefixes_alike, makes_alike}
use Rattle.meaning.specs.Leaves.{Action}
use Rattle.engine.specs.Cells.{action_at}
use Rattle.engine.proofs.Reading.{action_grown, longer_still, action_counted}
use Rattle.engine.proofs.Sides.{prefix_sides, stops_first, stops_second, made_of_both, yes_less2, no_less2}
use Rattle.engine.specs.declared.memo.Operation.TheVariants.{Prefix}
use Rattle.engine.proofs.Remembering.{recalled, noted, leaf_keeps, leaf_asks}
use Rattle.engine.proofs.Unchanged.{keeps_before}
use Rattle.engine.proofs.prefixing.+prefixing.Goals as goal

pub prefix_node-returns-in-Leaf-clause-done : goal.prefix_node-returns-in-Leaf-clause-done
prefix_node-returns-in-Leaf-clause-done g t c = prefix_at_leaf c.requires.good c.action-sets.ensures (leaf_word c.args.counts.now c.args.stores.now c.args.diagram c.in-Leaf.is) c.prefixed_leaf.ensures.done

pub prefix_node-node-root-requires-clause-held : goal.prefix_node-node-root-requires-clause-held
prefix_node-node-root-requires-clause-held g t c = node_counted _ _ c.requires.good _ _ c.in-Branch.is c.requires.present

pub prefix_node-prefix-requires : goal.prefix_node-prefix-requires
prefix_node-prefix-requires g t c κs within =
    let r = c.node-root.ensures in
    let whole = ap (λ (x : Diagram). diagram_of (here c.args.counts.now c.args.stores.now) x) c.in-Branch.is ∙ r.itself in
    (yes_less2 _ _ _ _ t refl (ap extent whole) c.decreases, (within, (c.requires.good, (c.requires.action, (c.requires.weight, (r.yes_present, c.requires.memo))))))

pub prefix_node-returns-in_err-yes-clause-done : goal.prefix_node-returns-in_err-yes-clause-done
prefix_node-returns-in_err-yes-clause-done g t c =
    let whole = ap (λ (x : Diagram). diagram_of (here c.args.counts.now c.args.stores.now) x) c.in-Branch.is ∙ c.node-root.ensures.itself in
    stops_first (prefix_sides whole (action_at (here c.args.counts.now c.args.stores.now) c.args.action.number) c.args.weight.number (ap (λ (a : Action). get_or a c.node-root.result.test.field None) (sym c.action-sets.ensures) ∙ c.in_default.is)) c.requires.good c.in_err-yes.ensures.done (passed_on c.from_residual.ensures.1)

pub prefix_node-prefix-requires-in_default : goal.prefix_node-prefix-requires-in_default
prefix_node-prefix-requires-in_default g t c κs within =
    let r = c.node-root.ensures in
    let whole = ap (λ (x : Diagram). diagram_of (here c.args.counts.now c.args.stores.now) x) c.in-Branch.is ∙ r.itself in
    let d1 = c.in_ok-yes.ensures.done in
    let z = same_diagram d1.made.added.grown c.node-root.result.no r.no_present in
    (no_less2 _ _ _ _ t (ap extent z) (ap extent whole) c.decreases, (within, (d1.made.good, ((c.requires.action.0, longer_still d1.made.added.grown c.args.action.number c.requires.action.1), (c.requires.weight, (present_grown d1.made.added.grown c.node-root.result.no r.no_present, c.in_ok-yes.ensures.memo))))))

pub prefix_node-returns-in_err-no-clause-done : goal.prefix_node-returns-in_err-no-clause-done
prefix_node-returns-in_err-no-clause-done g t c =
    let r = c.node-root.ensures in
    let whole = ap (λ (x : Diagram). diagram_of (here c.args.counts.now c.args.stores.now) x) c.in-Branch.is ∙ r.itself in
    let d1 = c.in_ok-yes.ensures.done in
    let z = same_diagram d1.made.added.grown c.node-root.result.no r.no_present in
    stops_second (prefix_sides whole (action_at (here c.args.counts.now c.args.stores.now) c.args.action.number) c.args.weight.number (ap (λ (a : Action). get_or a c.node-root.result.test.field None) (sym c.action-sets.ensures) ∙ c.in_default.is)) c.requires.good d1 c.in_ok-yes.ensures.kept (prefixes_alike g.K.WeightKind.ops (action_grown d1.made.added.grown c.args.action.number c.requires.action.1) refl z) c.in_err-no.ensures.done (passed_on c.from_residual-in_err-no.ensures.1)

pub prefix_node-returns-in_err-no-clause-kept : goal.prefix_node-returns-in_err-no-clause-kept
prefix_node-returns-in_err-no-clause-kept g t c = kept_trans c.prefix.ensures.kept c.prefix-in_default.ensures.kept

pub prefix_node-make-requires-clause-yes : goal.prefix_node-make-requires-clause-yes
prefix_node-make-requires-clause-yes g t c = present_grown c.in_ok-no.ensures.done.made.added.grown _ c.in_ok-yes.ensures.done.made.names.present

pub prefix_node-returns-in_default-clause-done : goal.prefix_node-returns-in_default-clause-done
prefix_node-returns-in_default-clause-done g t c =
    let r = c.node-root.ensures in
    let whole = ap (λ (x : Diagram). diagram_of (here c.args.counts.now c.args.stores.now) x) c.in-Branch.is ∙ r.itself in
    let d1 = c.in_ok-yes.ensures.done in
    let z = same_diagram d1.made.added.grown c.node-root.result.no r.no_present in
    let d2 = c.in_ok-no.ensures.done in
    let v = names_grown d2.made.added.grown d1.made.names in
    made_of_both (prefix_sides whole (action_at (here c.args.counts.now c.args.stores.now) c.args.action.number) c.args.weight.number (ap (λ (a : Action). get_or a c.node-root.result.test.field None) (sym c.action-sets.ensures) ∙ c.in_default.is)) c.requires.good d1 c.in_ok-yes.ensures.kept (prefixes_alike g.K.WeightKind.ops (action_grown d1.made.added.grown c.args.action.number c.requires.action.1) refl z) d2 c.in_ok-no.ensures.kept
    (makes_alike g.K.WeightKind.ops c.node-root.result.test.field c.node-root.result.test.value v.stands d2.made.names.stands) c.make.ensures.done

pub prefix_node-returns-in_default-clause-kept : goal.prefix_node-returns-in_default-clause-kept
prefix_node-returns-in_default-clause-kept g t c = kept_trans (kept_trans c.prefix.ensures.kept c.prefix-in_default.ensures.kept) c.make.ensures.kept

pub prefix_node-prefix-requires-then-value-root : goal.prefix_node-prefix-requires-then-value-root
prefix_node-prefix-requires-then-value-root g t c κs within =
    let r = c.node-root.ensures in
    let whole = ap (λ (x : Diagram). diagram_of (here c.args.counts.now c.args.stores.now) x) c.in-Branch.is ∙ r.itself in
    (yes_less2 _ _ _ _ t refl (ap extent whole) c.decreases, (within, (c.requires.good, (c.requires.action, (c.requires.weight, (r.yes_present, c.requires.memo))))))

pub prefix_node-returns-then-value-root-clause-done : goal.prefix_node-returns-then-value-root-clause-done
prefix_node-returns-then-value-root-clause-done g t c =
    let whole = ap (λ (x : Diagram). diagram_of (here c.args.counts.now c.args.stores.now) x) c.in-Branch.is ∙ c.node-root.ensures.itself in
    prefix_to_yes c.requires.good whole (ap (λ (a : Action). get_or a c.node-root.result.test.field None) (sym c.action-sets.ensures) ∙ c.in-Some.is) c.if-value-root.true c.prefix-then-value-root.ensures.done

pub prefix_node-prefix-requires-2 : goal.prefix_node-prefix-requires-2
prefix_node-prefix-requires-2 g t c κs within =
    let r = c.node-root.ensures in
    let whole = ap (λ (x : Diagram). diagram_of (here c.args.counts.now c.args.stores.now) x) c.in-Branch.is ∙ r.itself in
    (no_less2 _ _ _ _ t refl (ap extent whole) c.decreases, (within, (c.requires.good, (c.requires.action, (c.requires.weight, (r.no_present, c.requires.memo))))))

pub prefix_node-returns-clause-done : goal.prefix_node-returns-clause-done
prefix_node-returns-clause-done g t c =
    let whole = ap (λ (x : Diagram). diagram_of (here c.args.counts.now c.args.stores.now) x) c.in-Branch.is ∙ c.node-root.ensures.itself in
    prefix_to_no c.requires.good whole (ap (λ (a : Action). get_or a c.node-root.result.test.field None) (sym c.action-sets.ensures) ∙ c.in-Some.is) c.if-value-root.false c.prefix-2.ensures.done

pub prefix_node-action-sets-requires-clause-held : goal.prefix_node-action-sets-requires-clause-held
prefix_node-action-sets-requires-clause-held g t c =
    let h = c.requires.action in
    (h.0, action_counted _ _ c.requires.good _ h.1)

pub prefix_node-returns-in-Leaf-clause-memo : goal.prefix_node-returns-in-Leaf-clause-memo
prefix_node-returns-in-Leaf-clause-memo g t c = leaf_keeps _ _ c.requires.memo c.prefixed_leaf.ensures.leaves c.prefixed_leaf.ensures.done (leaf_asks _ _ _ c.prefixed_leaf.ensures.done.by_the_rules.1)

pub prefix-returns-in-Some-clause-done : goal.prefix-returns-in-Some-clause-done
prefix-returns-in-Some-clause-done g t c = recalled _ (Prefix c.args.action c.args.weight) c.args.diagram c.args.diagram c.requires.good c.requires.memo c.in-Some.ensures

pub prefix-returns-clause-memo : goal.prefix-returns-clause-memo
prefix-returns-clause-memo g t c = noted _ _ (Prefix c.args.action c.args.weight) c.args.diagram c.args.diagram _ c.requires.action.1 c.requires.present c.requires.present c.in_ok-result.ensures.memo c.in_ok-result.ensures.done c.note.ensures

pub prefix-returns-then-keeps_all-clause-done : goal.prefix-returns-then-keeps_all-clause-done
prefix-returns-then-keeps_all-clause-done g t c =
    let r = c.requires in
    let p = c.keeps_all.ensures.0 c.if-keeps_all.true in
    keeps_before g.met.K.WeightKind.lawful r.good r.memo.0 r.memo.2 c.args.diagram r.present p.0 p.1
