use Rattle.std.proofs.Common.{◌≤◌, sym, ap, ◌∙◌}
use Rattle.faults.proofs.PassedOn.{passed_on}
use Rattle.meaning.specs.Diagrams.{extent}
use Rattle.records.proofs.Alike.{diagrams_told}
use Rattle.records.specs.declared.kinds.Diagram.{Diagram}
use Rattle.engine.specs.State.{diagram_of}
use Rattle.engine.proofs.Composing.{kept_trans, same_diagram, present_grown, names_grown, itself}
use Rattle.engine.proofs.Numbers.{never, le_trans_by, part_smaller3, parts_smaller3, side_smaller3}
use Rattle.engine.proofs.NarrowRules.{here, leaf_word, node_counted, narrows_small, make_stops_first, make_stops_second, make_same, make_enters, make_yes, make_no, narrow_at_leaf, narrow_yes, narrow_no, narrow_stops_first, narrow_stops_second, narrow_makes, yes_narrowed}
use Rattle.engine.specs.declared.memo.Operation.TheVariants.{Narrow}
use Rattle.engine.proofs.Remembering.{recalled, noted, leaf_keeps, leaf_asks}
use Rattle.engine.proofs.Unchanged.{node_keeps, leaf_stays, node_again, node_named, side_stays}
use Rattle.engine.proofs.LeafRules.{node_leaves}
use Rattle.engine.proofs.narrowing.+narrowing.Goals as goal

pub make-returns-in_err-narrowed_yes-clause-done : goal.make-returns-in_err-narrowed_yes-clause-done
make-returns-in_err-narrowed_yes-clause-done g t c =
    make_stops_first c.requires.good _ c.in_err-narrowed_yes.ensures.done (passed_on c.from_residual.ensures.1)

pub make-narrow-requires-2 : goal.make-narrow-requires-2
make-narrow-requires-2 g t c = λ κs l.
    let d = c.in_ok-narrowed_yes.ensures.done in
    let e = same_diagram d.made.added.grown c.args.no c.requires.no in
    (side_smaller3 _ _ _ t (ap extent e) c.decreases, (l, (d.made.good, (present_grown d.made.added.grown c.args.no c.requires.no, c.in_ok-narrowed_yes.ensures.memo))))

pub make-returns-in_err-narrowed_no-clause-done : goal.make-returns-in_err-narrowed_no-clause-done
make-returns-in_err-narrowed_no-clause-done g t c =
    let d = c.in_ok-narrowed_yes.ensures.done in
    make_stops_second c.requires.good (itself _ c.args.no c.requires.no) d c.in_ok-narrowed_yes.ensures.kept
    (same_diagram d.made.added.grown c.args.no c.requires.no)
    c.in_err-narrowed_no.ensures.done (passed_on c.from_residual-in_err-narrowed_no.ensures.1)

pub make-returns-in_err-narrowed_no-clause-kept : goal.make-returns-in_err-narrowed_no-clause-kept
make-returns-in_err-narrowed_no-clause-kept g t c = kept_trans c.narrow.ensures.kept c.narrow-2.ensures.kept

pub make-returns-then-eq-clause-done : goal.make-returns-then-eq-clause-done
make-returns-then-eq-clause-done g t c =
    let d = c.in_ok-narrowed_yes.ensures.done in
    make_same c.requires.good (itself _ c.args.no c.requires.no) d c.in_ok-narrowed_yes.ensures.kept
    (same_diagram d.made.added.grown c.args.no c.requires.no)
    c.in_ok-narrowed_no.ensures.done c.in_ok-narrowed_no.ensures.kept
    ((diagrams_told _ _).0 (sym c.if-eq.ensures))

pub make-returns-then-eq-clause-kept : goal.make-returns-then-eq-clause-kept
make-returns-then-eq-clause-kept g t c = kept_trans c.narrow.ensures.kept c.narrow-2.ensures.kept

pub make-enter_node-requires-clause-yes : goal.make-enter_node-requires-clause-yes
make-enter_node-requires-clause-yes g t c =
    let d = c.in_ok-narrowed_yes.ensures.done in
    (make_yes c.requires.good (itself _ c.args.no c.requires.no) d c.in_ok-narrowed_yes.ensures.kept
    (same_diagram d.made.added.grown c.args.no c.requires.no)
    c.in_ok-narrowed_no.ensures.done c.in_ok-narrowed_no.ensures.kept).present

pub make-enter_node-requires-clause-no : goal.make-enter_node-requires-clause-no
make-enter_node-requires-clause-no g t c =
    let d = c.in_ok-narrowed_yes.ensures.done in
    (make_no c.requires.good (itself _ c.args.no c.requires.no) d c.in_ok-narrowed_yes.ensures.kept
    (same_diagram d.made.added.grown c.args.no c.requires.no)
    c.in_ok-narrowed_no.ensures.done c.in_ok-narrowed_no.ensures.kept).present

pub make-returns-clause-done : goal.make-returns-clause-done
make-returns-clause-done g t c =
    let d = c.in_ok-narrowed_yes.ensures.done in
    let i = itself (here c.args.counts.now c.args.stores.now) c.args.no c.requires.no in
    let e = same_diagram d.made.added.grown c.args.no c.requires.no in
    let k = c.in_ok-narrowed_yes.ensures.kept in
    let d2 = c.in_ok-narrowed_no.ensures.done in
    let k_2 = c.in_ok-narrowed_no.ensures.kept in
    make_enters c.requires.good i d k e d2 k_2
    (λ h. never _ c.if-eq.ensures ((diagrams_told _ _).1 h))
    (make_yes c.requires.good i d k e d2 k_2).stands
    (make_no c.requires.good i d k e d2 k_2).stands
    c.enter_node.ensures.done

pub make-returns-clause-kept : goal.make-returns-clause-kept
make-returns-clause-kept g t c = kept_trans (kept_trans c.narrow.ensures.kept c.narrow-2.ensures.kept) c.enter_node.ensures.kept

pub narrow_node-returns-in-Leaf-clause-done : goal.narrow_node-returns-in-Leaf-clause-done
narrow_node-returns-in-Leaf-clause-done g t c =
    let i = c.in-Leaf.is in
    narrow_at_leaf c.requires.good (leaf_word c.args.counts.now c.args.stores.now c.args.diagram c.in-Leaf.is) c.narrow_leaf.ensures.done

pub narrow_node-node-root-requires-clause-held : goal.narrow_node-node-root-requires-clause-held
narrow_node-node-root-requires-clause-held g t c = node_counted _ _ c.requires.good _ _ c.in-Branch.is c.requires.present

pub narrow_node-returns-in_err-yes-clause-done : goal.narrow_node-returns-in_err-yes-clause-done
narrow_node-returns-in_err-yes-clause-done g t c =
    rw c.in-Branch.is
    (narrow_stops_first _ c.requires.good c.args.test.field c.args.test.value c.node-root.ensures c.if-root-test.true c.in_err-yes.ensures.done (passed_on c.from_residual.ensures.1))

pub narrow_node-narrow-requires-then-root-test : goal.narrow_node-narrow-requires-then-root-test
narrow_node-narrow-requires-then-root-test g t c = λ κs l.
    let d = c.in_ok-yes.ensures.done in
    let r = c.node-root.ensures in
    let n = c.node-root.result.no in
    let whole = ap (λ (x : Diagram). diagram_of (here c.args.counts.now c.args.stores.now) x) c.in-Branch.is ∙ r.itself in
    (part_smaller3 _ _ _ _ t (ap extent (same_diagram d.made.added.grown n r.no_present)) (ap extent whole) c.decreases, (l, (d.made.good, (present_grown d.made.added.grown n r.no_present, c.in_ok-yes.ensures.memo))))

pub narrow_node-returns-in_err-no-clause-done : goal.narrow_node-returns-in_err-no-clause-done
narrow_node-returns-in_err-no-clause-done g t c = rw c.in-Branch.is
    (narrow_stops_second _ c.requires.good c.args.test.field c.args.test.value c.node-root.ensures c.if-root-test.true c.in_ok-yes.ensures.done c.in_ok-yes.ensures.kept c.in_err-no.ensures.done (passed_on c.from_residual-in_err-no.ensures.1))

pub narrow_node-returns-in_err-no-clause-kept : goal.narrow_node-returns-in_err-no-clause-kept
narrow_node-returns-in_err-no-clause-kept g t c = kept_trans c.narrow.ensures.kept c.narrow-then-root-test.ensures.kept

pub narrow_node-make-requires : goal.narrow_node-make-requires
narrow_node-make-requires g t c = λ κs l.
    let d = c.in_ok-yes.ensures.done in
    let d2 = c.in_ok-no.ensures.done in
    let p = yes_narrowed _ c.requires.good c.args.test.field c.args.test.value c.node-root.ensures c.if-root-test.true d c.in_ok-yes.ensures.kept d2 c.in_ok-no.ensures.kept in
    let r = c.node-root.ensures in
    let whole = ap (λ (x : Diagram). diagram_of (here c.args.counts.now c.args.stores.now) x) c.in-Branch.is ∙ r.itself in
    let n = c.node-root.result.no in
    let small : extent d2.out ≤ extent (diagram_of (here c.args.counts.now c.args.stores.now) n) = le_trans_by (narrows_small d2.by_the_rules) (ap extent (same_diagram d.made.added.grown n r.no_present)) in
    (parts_smaller3 _ _ _ _ _ _ _ t (ap extent p.stands) (ap extent d2.made.names.stands) (narrows_small d.by_the_rules) small (ap extent whole) c.decreases, (l, (d2.made.good, (p.present, (d2.made.names.present, c.in_ok-no.ensures.memo)))))

pub narrow_node-returns-then-root-test-clause-done : goal.narrow_node-returns-then-root-test-clause-done
narrow_node-returns-then-root-test-clause-done g t c = rw c.in-Branch.is
    (let d1 = c.in_ok-yes.ensures.done in
    let k_1 = c.in_ok-yes.ensures.kept in
    let d2 = c.in_ok-no.ensures.done in
    let k_2 = c.in_ok-no.ensures.kept in
    narrow_makes _ c.requires.good c.args.test.field c.args.test.value c.node-root.ensures c.if-root-test.true d1 k_1 d2 k_2
    (yes_narrowed _ c.requires.good c.args.test.field c.args.test.value c.node-root.ensures c.if-root-test.true d1 k_1 d2 k_2).stands
    d2.made.names.stands c.make.ensures.done)

pub narrow_node-returns-then-root-test-clause-kept : goal.narrow_node-returns-then-root-test-clause-kept
narrow_node-returns-then-root-test-clause-kept g t c = kept_trans (kept_trans c.narrow.ensures.kept c.narrow-then-root-test.ensures.kept) c.make.ensures.kept

pub narrow_node-returns-then-root-test-2-clause-done : goal.narrow_node-returns-then-root-test-2-clause-done
narrow_node-returns-then-root-test-2-clause-done g t c = rw c.in-Branch.is
    (narrow_yes _ c.requires.good c.args.test.field c.args.test.value c.node-root.ensures c.if-root-test.false c.if-root-test-2.true)

pub narrow_node-returns-clause-done : goal.narrow_node-returns-clause-done
narrow_node-returns-clause-done g t c = rw c.in-Branch.is
    (narrow_no _ c.requires.good c.args.test.field c.args.test.value c.node-root.ensures c.if-root-test.false c.if-root-test-2.false c.narrow-2.ensures.done)

pub narrow_node-returns-in-Leaf-clause-memo : goal.narrow_node-returns-in-Leaf-clause-memo
narrow_node-returns-in-Leaf-clause-memo g t c = leaf_keeps _ _ c.requires.memo c.narrow_leaf.ensures.leaves c.narrow_leaf.ensures.done (leaf_asks _ _ _ c.narrow_leaf.ensures.done.by_the_rules.1)

pub make-returns-clause-memo : goal.make-returns-clause-memo
make-returns-clause-memo g t c =
    let d = c.in_ok-narrowed_yes.ensures.done in
    let i = itself (here c.args.counts.now c.args.stores.now) c.args.no c.requires.no in
    let e = same_diagram d.made.added.grown c.args.no c.requires.no in
    let d2 = c.in_ok-narrowed_no.ensures.done in
    node_keeps g.met.K.WeightKind.lawful c.args.yes c.args.no _ _ c.requires.yes d e d2
    (λ h. never _ c.if-eq.ensures ((diagrams_told _ _).1 h))
    c.in_ok-narrowed_no.ensures.memo
    (make_yes c.requires.good i d c.in_ok-narrowed_yes.ensures.kept e d2 c.in_ok-narrowed_no.ensures.kept).stands
    (make_no c.requires.good i d c.in_ok-narrowed_yes.ensures.kept e d2 c.in_ok-narrowed_no.ensures.kept).stands
    c.enter_node.ensures.done
    (node_leaves _ c.in_ok-narrowed_no.ensures.memo.0 c.enter_node.ensures.done)

pub narrow-returns-in-Some-clause-done : goal.narrow-returns-in-Some-clause-done
narrow-returns-in-Some-clause-done g t c = recalled _ (Narrow c.args.test) c.args.diagram c.args.diagram c.requires.good c.requires.memo c.in-Some.ensures

pub narrow-returns-clause-memo : goal.narrow-returns-clause-memo
narrow-returns-clause-memo g t c =
    let r = c.requires in
    noted _ _ (Narrow c.args.test) c.args.diagram c.args.diagram _ tt r.present r.present c.in_ok-result.ensures.memo c.in_ok-result.ensures.done c.note.ensures

pub narrow-returns-then-stays-clause-done : goal.narrow-returns-then-stays-clause-done
narrow-returns-then-stays-clause-done g t c =
    let r = c.requires in
    leaf_stays g.met.K.WeightKind.lawful r.good r.memo.0 r.memo.2 c.args.diagram c.args.test.field c.args.test.value r.present (c.stays.ensures.0 c.if-stays.true)

pub narrow_node-returns-then-eq-2-clause-done : goal.narrow_node-returns-then-eq-2-clause-done
narrow_node-returns-then-eq-2-clause-done g t c =
    let r = c.node-root.ensures in
    let d1 = c.in_ok-yes.ensures.done in
    let d2 = c.in_ok-no.ensures.done in
    let named = names_grown d2.made.added.grown (names_grown d1.made.added.grown (node_named c.requires.present c.in-Branch.is r)) in
    let yes = side_stays d1.made.added.grown r.yes_present ((diagrams_told _ _).0 (sym c.if-eq.ensures)) d1.made.names in
    let no = side_stays d2.made.added.grown (present_grown d1.made.added.grown c.node-root.result.no r.no_present) ((diagrams_told _ _).0 (sym c.if-eq-2.ensures)) d2.made.names in
    let before = same_diagram d1.made.added.grown c.node-root.result.no r.no_present in
    rw c.in-Branch.is
    (narrow_makes _ c.requires.good c.args.test.field c.args.test.value r c.if-root-test.true d1 c.in_ok-yes.ensures.kept d2 c.in_ok-no.ensures.kept yes (sym before ∙ no)
    (node_again d2.made.good c.in_ok-no.ensures.memo.2 named))

pub narrow_node-returns-then-eq-2-clause-kept : goal.narrow_node-returns-then-eq-2-clause-kept
narrow_node-returns-then-eq-2-clause-kept g t c = kept_trans c.narrow.ensures.kept c.narrow-then-root-test.ensures.kept
