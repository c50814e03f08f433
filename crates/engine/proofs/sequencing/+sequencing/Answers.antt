use Rattle.std.proofs.Common.{refl, sym, ap, ◌∙◌, subst}
use Rattle.faults.proofs.PassedOn.{passed_on}
use Rattle.meaning.specs.Diagrams.{Diagram as MDiagram, extent}
use Rattle.records.specs.declared.kinds.Diagram.{Diagram}
use Rattle.requests.specs.Rules.{Sequences, sequences_leaf}
use Rattle.engine.specs.State.{diagram_of}
use Rattle.engine.proofs.Composing.{kept_trans, same_diagram, present_grown, names_grown}
use Rattle.engine.proofs.NarrowRules.{here, leaf_word, node_counted}
use Rattle.engine.proofs.Chain.{begin, last}
use Rattle.engine.proofs.Alike.{sequences_alike, chooses_alike}
use Rattle.engine.proofs.Sides.{sequence_sides, stops_first, stops_second, made_of_both, yes_less2, no_less2}
use Rattle.engine.specs.declared.memo.Operation.TheVariants.{Sequence}
use Rattle.engine.proofs.Remembering.{recalled, noted}
use Rattle.engine.proofs.sequencing.+sequencing.Goals as goal

pub sequence_node-returns-in-Leaf-clause-done : goal.sequence_node-returns-in-Leaf-clause-done
sequence_node-returns-in-Leaf-clause-done g t c =
    last (begin _ c.requires.good (λ r x h. subst (λ (d : MDiagram). Sequences g.K.WeightKind.ops (diagram_of (here c.args.counts.now c.args.stores.now) c.args.second) d r x) (sym (leaf_word c.args.counts.now c.args.stores.now c.args.first c.in-Leaf.is)) (sequences_leaf h))) refl c.follow.ensures.done

pub sequence_node-node-root-requires-clause-held : goal.sequence_node-node-root-requires-clause-held
sequence_node-node-root-requires-clause-held g t c = node_counted _ _ c.requires.good _ _ c.in-Branch.is c.requires.first

pub sequence_node-sequence-requires : goal.sequence_node-sequence-requires
sequence_node-sequence-requires g t c κs within =
    let r = c.node-root.ensures in
    let whole = ap (λ (x : Diagram). diagram_of (here c.args.counts.now c.args.stores.now) x) c.in-Branch.is ∙ r.itself in
    (yes_less2 _ _ _ _ t refl (ap extent whole) c.decreases, (within, (c.requires.good, (r.yes_present, (c.requires.second, c.requires.memo)))))

pub sequence_node-returns-in_err-yes-clause-done : goal.sequence_node-returns-in_err-yes-clause-done
sequence_node-returns-in_err-yes-clause-done g t c =
    let whole = ap (λ (x : Diagram). diagram_of (here c.args.counts.now c.args.stores.now) x) c.in-Branch.is ∙ c.node-root.ensures.itself in
    stops_first (sequence_sides whole (diagram_of (here c.args.counts.now c.args.stores.now) c.args.second)) c.requires.good c.in_err-yes.ensures.done (passed_on c.from_residual.ensures.1)

pub sequence_node-sequence-requires-2 : goal.sequence_node-sequence-requires-2
sequence_node-sequence-requires-2 g t c κs within =
    let r = c.node-root.ensures in
    let whole = ap (λ (x : Diagram). diagram_of (here c.args.counts.now c.args.stores.now) x) c.in-Branch.is ∙ r.itself in
    let d1 = c.in_ok-yes.ensures.done in
    let z = same_diagram d1.made.added.grown c.node-root.result.no r.no_present in
    (no_less2 _ _ _ _ t (ap extent z) (ap extent whole) c.decreases, (within, (d1.made.good, (present_grown d1.made.added.grown c.node-root.result.no r.no_present, (present_grown d1.made.added.grown c.args.second c.requires.second, c.in_ok-yes.ensures.memo)))))

pub sequence_node-returns-in_err-no-clause-done : goal.sequence_node-returns-in_err-no-clause-done
sequence_node-returns-in_err-no-clause-done g t c =
    let r = c.node-root.ensures in
    let whole = ap (λ (x : Diagram). diagram_of (here c.args.counts.now c.args.stores.now) x) c.in-Branch.is ∙ r.itself in
    let d1 = c.in_ok-yes.ensures.done in
    let z = same_diagram d1.made.added.grown c.node-root.result.no r.no_present in
    stops_second (sequence_sides whole (diagram_of (here c.args.counts.now c.args.stores.now) c.args.second)) c.requires.good d1 c.in_ok-yes.ensures.kept (sequences_alike g.K.WeightKind.ops (same_diagram d1.made.added.grown c.args.second c.requires.second) z) c.in_err-no.ensures.done (passed_on c.from_residual-in_err-no.ensures.1)

pub sequence_node-returns-in_err-no-clause-kept : goal.sequence_node-returns-in_err-no-clause-kept
sequence_node-returns-in_err-no-clause-kept g t c = kept_trans c.sequence.ensures.kept c.sequence-2.ensures.kept

pub sequence_node-choose-requires-clause-yes : goal.sequence_node-choose-requires-clause-yes
sequence_node-choose-requires-clause-yes g t c = present_grown c.in_ok-no.ensures.done.made.added.grown _ c.in_ok-yes.ensures.done.made.names.present

pub sequence_node-returns-clause-done : goal.sequence_node-returns-clause-done
sequence_node-returns-clause-done g t c =
    let r = c.node-root.ensures in
    let whole = ap (λ (x : Diagram). diagram_of (here c.args.counts.now c.args.stores.now) x) c.in-Branch.is ∙ r.itself in
    let d1 = c.in_ok-yes.ensures.done in
    let z = same_diagram d1.made.added.grown c.node-root.result.no r.no_present in
    let d2 = c.in_ok-no.ensures.done in
    let v = names_grown d2.made.added.grown d1.made.names in
    made_of_both (sequence_sides whole (diagram_of (here c.args.counts.now c.args.stores.now) c.args.second)) c.requires.good d1 c.in_ok-yes.ensures.kept (sequences_alike g.K.WeightKind.ops (same_diagram d1.made.added.grown c.args.second c.requires.second) z) d2 c.in_ok-no.ensures.kept
    (chooses_alike g.K.WeightKind.ops c.node-root.result.test.field c.node-root.result.test.value v.stands d2.made.names.stands) c.choose.ensures.done

pub sequence_node-returns-clause-kept : goal.sequence_node-returns-clause-kept
sequence_node-returns-clause-kept g t c = kept_trans (kept_trans c.sequence.ensures.kept c.sequence-2.ensures.kept) c.choose.ensures.kept

pub sequence-returns-in-Some-clause-done : goal.sequence-returns-in-Some-clause-done
sequence-returns-in-Some-clause-done g t c = recalled _ Sequence c.args.first c.args.second c.requires.good c.requires.memo c.in-Some.ensures

pub sequence-returns-clause-memo : goal.sequence-returns-clause-memo
sequence-returns-clause-memo g t c = noted _ _ Sequence c.args.first c.args.second _ tt c.requires.first c.requires.second c.in_ok-result.ensures.memo c.in_ok-result.ensures.done c.note.ensures
