use Rattle.std.proofs.Common.{refl}
use Rattle.faults.proofs.PassedOn.{passed_on}
use Rattle.requests.proofs.Total.{make_total}
use Rattle.engine.proofs.Composing.{kept_trans, same_diagram, present_grown, names_grown}
use Rattle.engine.proofs.Numbers.{falls_twice}
use Rattle.engine.proofs.Chain.{at_rule, step, stop, last}
use Rattle.engine.proofs.Alike.{at_alike, chooses_alike, makes_alike}
use Rattle.engine.proofs.ChooseRules.{same_field, other_field, choose_here, chosen_off_less, chosen_at_less, then_yes, then_at, then_off}
use Rattle.engine.specs.declared.memo.Operation.TheVariants.{Choose}
use Rattle.engine.proofs.Remembering.{recalled, noted}
use Rattle.engine.proofs.choosing.+choosing.Goals as goal

pub choose_node-returns-in_err-yes_at-clause-done : goal.choose_node-returns-in_err-yes_at-clause-done
choose_node-returns-in_err-yes_at-clause-done g t c =
    let r = c.requires in
    let o = g.K.WeightKind.ops in
    let f = c.args.test.field in
    let n = c.args.test.value in
    let l = c.least_test-least.result in
    let e = c.least_test-least.ensures in
    let p0 = other_field o f n l.field l.value _ _ r.good e c.if-least-test.true in
    stop p0 refl (then_yes _ _ _ _ _ _ _) c.in_err-yes_at.ensures.done (passed_on c.from_residual.ensures.1)

pub choose_node-at-requires-then-least-test-clause-present : goal.choose_node-at-requires-then-least-test-clause-present
choose_node-at-requires-then-least-test-clause-present g t c =
    present_grown c.in_ok-yes_at.ensures.done.made.added.grown c.args.no c.requires.no

pub choose_node-returns-in_err-no_at-clause-done : goal.choose_node-returns-in_err-no_at-clause-done
choose_node-returns-in_err-no_at-clause-done g t c =
    let r = c.requires in
    let o = g.K.WeightKind.ops in
    let f = c.args.test.field in
    let n = c.args.test.value in
    let l = c.least_test-least.result in
    let e = c.least_test-least.ensures in
    let p0 = other_field o f n l.field l.value _ _ r.good e c.if-least-test.true in
    let d1 = c.in_ok-yes_at.ensures.done in
    let k_1 = c.in_ok-yes_at.ensures.kept in
    let p1 = step p0 refl d1 k_1 in
    let i = same_diagram d1.made.added.grown c.args.no r.no in
    let e2 = at_alike o l.field l.value i in
    stop p1 e2 (then_at _ _ _ _ _ _ _ _) c.in_err-no_at.ensures.done (passed_on c.from_residual-in_err-no_at.ensures.1)

pub choose_node-returns-in_err-no_at-clause-kept : goal.choose_node-returns-in_err-no_at-clause-kept
choose_node-returns-in_err-no_at-clause-kept g t c =
    kept_trans c.at.ensures.kept c.at-then-least-test.ensures.kept

pub choose_node-choose-requires : goal.choose_node-choose-requires
choose_node-choose-requires g t c κs within =
    let r = c.requires in
    let o = g.K.WeightKind.ops in
    let f = c.args.test.field in
    let n = c.args.test.value in
    let l = c.least_test-least.result in
    let e = c.least_test-least.ensures in
    let p0 = other_field o f n l.field l.value _ _ r.good e c.if-least-test.true in
    let d1 = c.in_ok-yes_at.ensures.done in
    let k_1 = c.in_ok-yes_at.ensures.kept in
    let p1 = step p0 refl d1 k_1 in
    let i = same_diagram d1.made.added.grown c.args.no r.no in
    let e2 = at_alike o l.field l.value i in
    let d2 = c.in_ok-no_at.ensures.done in
    let k_2 = c.in_ok-no_at.ensures.kept in
    let p2 = step p1 e2 d2 k_2 in
    let v = names_grown d2.made.added.grown d1.made.names in
    let w = d2.made.names in
    let e3 = chooses_alike o f n v.stands w.stands in
    (falls_twice _ _ t (chosen_at_less f n l.field l.value _ _ e (λ a b. c.if-least-test.true a) v.stands w.stands d1.by_the_rules (at_rule e2 d2.by_the_rules)) c.decreases, (within, (d2.made.good, (v.present, (w.present, c.in_ok-no_at.ensures.memo)))))

pub choose_node-returns-in_err-chosen_at-clause-done : goal.choose_node-returns-in_err-chosen_at-clause-done
choose_node-returns-in_err-chosen_at-clause-done g t c =
    let r = c.requires in
    let o = g.K.WeightKind.ops in
    let f = c.args.test.field in
    let n = c.args.test.value in
    let l = c.least_test-least.result in
    let e = c.least_test-least.ensures in
    let p0 = other_field o f n l.field l.value _ _ r.good e c.if-least-test.true in
    let d1 = c.in_ok-yes_at.ensures.done in
    let k_1 = c.in_ok-yes_at.ensures.kept in
    let p1 = step p0 refl d1 k_1 in
    let i = same_diagram d1.made.added.grown c.args.no r.no in
    let e2 = at_alike o l.field l.value i in
    let d2 = c.in_ok-no_at.ensures.done in
    let k_2 = c.in_ok-no_at.ensures.kept in
    let p2 = step p1 e2 d2 k_2 in
    let v = names_grown d2.made.added.grown d1.made.names in
    let w = d2.made.names in
    let e3 = chooses_alike o f n v.stands w.stands in
    stop p2 e3 (then_off _ _ _ _ _ _ _) c.in_err-chosen_at.ensures.done (passed_on c.from_residual-in_err-chosen_at.ensures.1)

pub choose_node-returns-in_err-chosen_at-clause-kept : goal.choose_node-returns-in_err-chosen_at-clause-kept
choose_node-returns-in_err-chosen_at-clause-kept g t c =
    kept_trans (kept_trans c.at.ensures.kept c.at-then-least-test.ensures.kept) c.choose.ensures.kept

pub choose_node-choose-requires-then-least-test : goal.choose_node-choose-requires-then-least-test
choose_node-choose-requires-then-least-test g t c κs within =
    let r = c.requires in
    let o = g.K.WeightKind.ops in
    let f = c.args.test.field in
    let n = c.args.test.value in
    let l = c.least_test-least.result in
    let e = c.least_test-least.ensures in
    let p0 = other_field o f n l.field l.value _ _ r.good e c.if-least-test.true in
    let d1 = c.in_ok-yes_at.ensures.done in
    let k_1 = c.in_ok-yes_at.ensures.kept in
    let p1 = step p0 refl d1 k_1 in
    let i = same_diagram d1.made.added.grown c.args.no r.no in
    let e2 = at_alike o l.field l.value i in
    let d2 = c.in_ok-no_at.ensures.done in
    let k_2 = c.in_ok-no_at.ensures.kept in
    let p2 = step p1 e2 d2 k_2 in
    let v = names_grown d2.made.added.grown d1.made.names in
    let w = d2.made.names in
    let e3 = chooses_alike o f n v.stands w.stands in
    let d3 = c.in_ok-chosen_at.ensures.done in
    let k_3 = c.in_ok-chosen_at.ensures.kept in
    let p3 = step p2 e3 d3 k_3 in
    let y = names_grown d3.made.added.grown (names_grown d2.made.added.grown (names_grown d1.made.added.grown c.off-yes_off.ensures)) in
    let z = names_grown d3.made.added.grown (names_grown d2.made.added.grown (names_grown d1.made.added.grown c.off-no_off.ensures)) in
    let e4 = chooses_alike o f n y.stands z.stands in
    (falls_twice _ _ t (chosen_off_less f n l.field l.value _ _ e (λ a b. c.if-least-test.true a) y.stands z.stands) c.decreases, (within, (d3.made.good, (y.present, (z.present, c.in_ok-chosen_at.ensures.memo)))))

pub choose_node-returns-in_err-chosen_off-clause-done : goal.choose_node-returns-in_err-chosen_off-clause-done
choose_node-returns-in_err-chosen_off-clause-done g t c =
    let r = c.requires in
    let o = g.K.WeightKind.ops in
    let f = c.args.test.field in
    let n = c.args.test.value in
    let l = c.least_test-least.result in
    let e = c.least_test-least.ensures in
    let p0 = other_field o f n l.field l.value _ _ r.good e c.if-least-test.true in
    let d1 = c.in_ok-yes_at.ensures.done in
    let k_1 = c.in_ok-yes_at.ensures.kept in
    let p1 = step p0 refl d1 k_1 in
    let i = same_diagram d1.made.added.grown c.args.no r.no in
    let e2 = at_alike o l.field l.value i in
    let d2 = c.in_ok-no_at.ensures.done in
    let k_2 = c.in_ok-no_at.ensures.kept in
    let p2 = step p1 e2 d2 k_2 in
    let v = names_grown d2.made.added.grown d1.made.names in
    let w = d2.made.names in
    let e3 = chooses_alike o f n v.stands w.stands in
    let d3 = c.in_ok-chosen_at.ensures.done in
    let k_3 = c.in_ok-chosen_at.ensures.kept in
    let p3 = step p2 e3 d3 k_3 in
    let y = names_grown d3.made.added.grown (names_grown d2.made.added.grown (names_grown d1.made.added.grown c.off-yes_off.ensures)) in
    let z = names_grown d3.made.added.grown (names_grown d2.made.added.grown (names_grown d1.made.added.grown c.off-no_off.ensures)) in
    let e4 = chooses_alike o f n y.stands z.stands in
    stop p3 e4 (make_total o l.field l.value d3.out) c.in_err-chosen_off.ensures.done (passed_on c.from_residual-in_err-chosen_off.ensures.1)

pub choose_node-returns-in_err-chosen_off-clause-kept : goal.choose_node-returns-in_err-chosen_off-clause-kept
choose_node-returns-in_err-chosen_off-clause-kept g t c =
    kept_trans (kept_trans (kept_trans c.at.ensures.kept c.at-then-least-test.ensures.kept) c.choose.ensures.kept) c.choose-then-least-test.ensures.kept

pub choose_node-make-requires-clause-yes : goal.choose_node-make-requires-clause-yes
choose_node-make-requires-clause-yes g t c =
    present_grown c.in_ok-chosen_off.ensures.done.made.added.grown _ c.in_ok-chosen_at.ensures.done.made.names.present

pub choose_node-returns-then-least-test-clause-done : goal.choose_node-returns-then-least-test-clause-done
choose_node-returns-then-least-test-clause-done g t c =
    let r = c.requires in
    let o = g.K.WeightKind.ops in
    let f = c.args.test.field in
    let n = c.args.test.value in
    let l = c.least_test-least.result in
    let e = c.least_test-least.ensures in
    let p0 = other_field o f n l.field l.value _ _ r.good e c.if-least-test.true in
    let d1 = c.in_ok-yes_at.ensures.done in
    let k_1 = c.in_ok-yes_at.ensures.kept in
    let p1 = step p0 refl d1 k_1 in
    let i = same_diagram d1.made.added.grown c.args.no r.no in
    let e2 = at_alike o l.field l.value i in
    let d2 = c.in_ok-no_at.ensures.done in
    let k_2 = c.in_ok-no_at.ensures.kept in
    let p2 = step p1 e2 d2 k_2 in
    let v = names_grown d2.made.added.grown d1.made.names in
    let w = d2.made.names in
    let e3 = chooses_alike o f n v.stands w.stands in
    let d3 = c.in_ok-chosen_at.ensures.done in
    let k_3 = c.in_ok-chosen_at.ensures.kept in
    let p3 = step p2 e3 d3 k_3 in
    let y = names_grown d3.made.added.grown (names_grown d2.made.added.grown (names_grown d1.made.added.grown c.off-yes_off.ensures)) in
    let z = names_grown d3.made.added.grown (names_grown d2.made.added.grown (names_grown d1.made.added.grown c.off-no_off.ensures)) in
    let e4 = chooses_alike o f n y.stands z.stands in
    let d4 = c.in_ok-chosen_off.ensures.done in
    let k_4 = c.in_ok-chosen_off.ensures.kept in
    let p4 = step p3 e4 d4 k_4 in
    let u = names_grown d4.made.added.grown d3.made.names in
    let x = d4.made.names in
    last p4 (makes_alike o l.field l.value u.stands x.stands) c.make.ensures.done

pub choose_node-returns-then-least-test-clause-kept : goal.choose_node-returns-then-least-test-clause-kept
choose_node-returns-then-least-test-clause-kept g t c =
    kept_trans (kept_trans (kept_trans (kept_trans c.at.ensures.kept c.at-then-least-test.ensures.kept) c.choose.ensures.kept) c.choose-then-least-test.ensures.kept) c.make.ensures.kept

pub choose_node-returns-in_err-no_at-2-clause-done : goal.choose_node-returns-in_err-no_at-2-clause-done
choose_node-returns-in_err-no_at-2-clause-done g t c =
    let r = c.requires in
    let o = g.K.WeightKind.ops in
    let f = c.args.test.field in
    let n = c.args.test.value in
    let l = c.least_test-least.result in
    let e = c.least_test-least.ensures in
    let h = c.if-least-test.false in
    let p0 = same_field o f n l.field l.value _ _ r.good e h c.if-least-test-2.true in
    stop p0 refl (then_off _ _ _ _ _ _ _) c.in_err-no_at-2.ensures.done (passed_on c.from_residual-in_err-no_at-2.ensures.1)

pub choose_node-choose-requires-then-least-test-2 : goal.choose_node-choose-requires-then-least-test-2
choose_node-choose-requires-then-least-test-2 g t c κs within =
    let r = c.requires in
    let o = g.K.WeightKind.ops in
    let f = c.args.test.field in
    let n = c.args.test.value in
    let l = c.least_test-least.result in
    let e = c.least_test-least.ensures in
    let h = c.if-least-test.false in
    let p0 = same_field o f n l.field l.value _ _ r.good e h c.if-least-test-2.true in
    let d1 = c.in_ok-no_at-2.ensures.done in
    let k_1 = c.in_ok-no_at-2.ensures.kept in
    let p1 = step p0 refl d1 k_1 in
    let y = names_grown d1.made.added.grown c.off-yes_off-then-least-test-2.ensures in
    let z = names_grown d1.made.added.grown c.off-no_off.ensures in
    let e2 = chooses_alike o f n y.stands z.stands in
    (falls_twice _ _ t (chosen_off_less f n l.field l.value _ _ e (λ a b. c.if-least-test-2.true b) y.stands z.stands) c.decreases, (within, (d1.made.good, (y.present, (z.present, c.in_ok-no_at-2.ensures.memo)))))

pub choose_node-returns-in_err-chosen_off-2-clause-done : goal.choose_node-returns-in_err-chosen_off-2-clause-done
choose_node-returns-in_err-chosen_off-2-clause-done g t c =
    let r = c.requires in
    let o = g.K.WeightKind.ops in
    let f = c.args.test.field in
    let n = c.args.test.value in
    let l = c.least_test-least.result in
    let e = c.least_test-least.ensures in
    let h = c.if-least-test.false in
    let p0 = same_field o f n l.field l.value _ _ r.good e h c.if-least-test-2.true in
    let d1 = c.in_ok-no_at-2.ensures.done in
    let k_1 = c.in_ok-no_at-2.ensures.kept in
    let p1 = step p0 refl d1 k_1 in
    let y = names_grown d1.made.added.grown c.off-yes_off-then-least-test-2.ensures in
    let z = names_grown d1.made.added.grown c.off-no_off.ensures in
    let e2 = chooses_alike o f n y.stands z.stands in
    stop p1 e2 (make_total o l.field l.value d1.out) c.in_err-chosen_off-2.ensures.done (passed_on c.from_residual-in_err-chosen_off-2.ensures.1)

pub choose_node-returns-in_err-chosen_off-2-clause-kept : goal.choose_node-returns-in_err-chosen_off-2-clause-kept
choose_node-returns-in_err-chosen_off-2-clause-kept g t c =
    kept_trans c.at-then-least-test-2.ensures.kept c.choose-then-least-test-2.ensures.kept

pub choose_node-make-requires-then-least-test-2-clause-yes : goal.choose_node-make-requires-then-least-test-2-clause-yes
choose_node-make-requires-then-least-test-2-clause-yes g t c =
    present_grown c.in_ok-chosen_off-2.ensures.done.made.added.grown _ c.in_ok-no_at-2.ensures.done.made.names.present

pub choose_node-returns-then-least-test-2-clause-done : goal.choose_node-returns-then-least-test-2-clause-done
choose_node-returns-then-least-test-2-clause-done g t c =
    let r = c.requires in
    let o = g.K.WeightKind.ops in
    let f = c.args.test.field in
    let n = c.args.test.value in
    let l = c.least_test-least.result in
    let e = c.least_test-least.ensures in
    let h = c.if-least-test.false in
    let p0 = same_field o f n l.field l.value _ _ r.good e h c.if-least-test-2.true in
    let d1 = c.in_ok-no_at-2.ensures.done in
    let k_1 = c.in_ok-no_at-2.ensures.kept in
    let p1 = step p0 refl d1 k_1 in
    let y = names_grown d1.made.added.grown c.off-yes_off-then-least-test-2.ensures in
    let z = names_grown d1.made.added.grown c.off-no_off.ensures in
    let e2 = chooses_alike o f n y.stands z.stands in
    let d2 = c.in_ok-chosen_off-2.ensures.done in
    let k_2 = c.in_ok-chosen_off-2.ensures.kept in
    let p2 = step p1 e2 d2 k_2 in
    let w = names_grown d2.made.added.grown d1.made.names in
    let x = d2.made.names in
    last p2 (makes_alike o l.field l.value w.stands x.stands) c.make-then-least-test-2.ensures.done

pub choose_node-returns-then-least-test-2-clause-kept : goal.choose_node-returns-then-least-test-2-clause-kept
choose_node-returns-then-least-test-2-clause-kept g t c =
    kept_trans (kept_trans c.at-then-least-test-2.ensures.kept c.choose-then-least-test-2.ensures.kept) c.make-then-least-test-2.ensures.kept

pub choose_node-returns-clause-done : goal.choose_node-returns-clause-done
choose_node-returns-clause-done g t c =
    let r = c.requires in
    let o = g.K.WeightKind.ops in
    let f = c.args.test.field in
    let n = c.args.test.value in
    let l = c.least_test-least.result in
    let e = c.least_test-least.ensures in
    choose_here o f n l.field l.value _ _ r.good e c.if-least-test.false c.if-least-test-2.false c.off-no_off.ensures.stands c.make-2.ensures.done

pub choose-returns-in-Some-clause-done : goal.choose-returns-in-Some-clause-done
choose-returns-in-Some-clause-done g t c = recalled _ (Choose c.args.test) c.args.yes c.args.no c.requires.good c.requires.memo c.in-Some.ensures

pub choose-returns-clause-memo : goal.choose-returns-clause-memo
choose-returns-clause-memo g t c = noted _ _ (Choose c.args.test) c.args.yes c.args.no _ tt c.requires.yes c.requires.no c.in_ok-result.ensures.memo c.in_ok-result.ensures.done c.note.ensures
