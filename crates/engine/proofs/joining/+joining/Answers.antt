use Rattle.std.proofs.Common.{sym}
use Rattle.faults.proofs.PassedOn.{passed_on}
use Rattle.records.proofs.Alike.{diagrams_told}
use Rattle.engine.proofs.Composing.{kept_trans, same_diagram, present_grown, names_grown}
use Rattle.engine.proofs.Numbers.{falls_twice}
use Rattle.engine.proofs.JoinRules.{join_stops_first, join_stops_second, join_stops_third, join_stops_fourth, left_names, first_smaller, two_at, offs_smaller, yes_joined, join_makes}
use Rattle.engine.specs.declared.memo.Operation.TheVariants.{Join}
use Rattle.engine.proofs.Remembering.{recalled, noted, leaf_keeps}
use Rattle.engine.proofs.Unchanged.{joined_asks, one_operand, drop_right, drop_left}
use Rattle.engine.proofs.joining.+joining.Goals.{join-then-eq-via-then-eq, join-then-eq-via-else-eq+then-is_drop}
use Rattle.engine.proofs.joining.+joining.Goals as goal

pub join_node-returns-in_err-left_at-clause-done : goal.join_node-returns-in_err-left_at-clause-done
join_node-returns-in_err-left_at-clause-done g t c =
    join_stops_first c.requires.good (sym c.in-Some.ensures) c.in_err-left_at.ensures.done (passed_on c.from_residual.ensures.1)

pub join_node-at-requires-2-clause-present : goal.join_node-at-requires-2-clause-present
join_node-at-requires-2-clause-present g t c = present_grown c.in_ok-left_at.ensures.done.made.added.grown c.args.right c.requires.right

pub join_node-returns-in_err-right_at-clause-done : goal.join_node-returns-in_err-right_at-clause-done
join_node-returns-in_err-right_at-clause-done g t c =
    let r = c.requires in
    let h = sym c.in-Some.ensures in
    let d1 = c.in_ok-left_at.ensures.done in
    let k_1 = c.in_ok-left_at.ensures.kept in
    let i = same_diagram d1.made.added.grown c.args.right r.right in
    join_stops_second r.good h d1 k_1 i c.in_err-right_at.ensures.done (passed_on c.from_residual-in_err-right_at.ensures.1)

pub join_node-returns-in_err-right_at-clause-kept : goal.join_node-returns-in_err-right_at-clause-kept
join_node-returns-in_err-right_at-clause-kept g t c = kept_trans c.at.ensures.kept c.at-2.ensures.kept

pub join_node-join-requires : goal.join_node-join-requires
join_node-join-requires g t c = λ κs l.
    let r = c.requires in
    let h = sym c.in-Some.ensures in
    let d1 = c.in_ok-left_at.ensures.done in
    let k_1 = c.in_ok-left_at.ensures.kept in
    let i = same_diagram d1.made.added.grown c.args.right r.right in
    let d2 = c.in_ok-right_at.ensures.done in
    let k_2 = c.in_ok-right_at.ensures.kept in
    let n = left_names r.good h d1 k_1 i d2 k_2 in
    let m = d2.made.names in
    (falls_twice _ _ t (first_smaller r.good h d1 k_1 i d2 k_2 n.stands m.stands) c.decreases, (l, (d2.made.good, (n.present, (m.present, c.in_ok-right_at.ensures.memo)))))

pub join_node-returns-in_err-yes-clause-done : goal.join_node-returns-in_err-yes-clause-done
join_node-returns-in_err-yes-clause-done g t c =
    let r = c.requires in
    let h = sym c.in-Some.ensures in
    let d1 = c.in_ok-left_at.ensures.done in
    let k_1 = c.in_ok-left_at.ensures.kept in
    let i = same_diagram d1.made.added.grown c.args.right r.right in
    let d2 = c.in_ok-right_at.ensures.done in
    let k_2 = c.in_ok-right_at.ensures.kept in
    let n = left_names r.good h d1 k_1 i d2 k_2 in
    let m = d2.made.names in
    join_stops_third r.good h d1 k_1 i d2 k_2 n.stands m.stands c.in_err-yes.ensures.done (passed_on c.from_residual-in_err-yes.ensures.1)

pub join_node-returns-in_err-yes-clause-kept : goal.join_node-returns-in_err-yes-clause-kept
join_node-returns-in_err-yes-clause-kept g t c = kept_trans (kept_trans c.at.ensures.kept c.at-2.ensures.kept) c.join.ensures.kept

pub join_node-join-requires-2 : goal.join_node-join-requires-2
join_node-join-requires-2 g t c = λ κs l'.
    let r = c.requires in
    let h = sym c.in-Some.ensures in
    let d1 = c.in_ok-left_at.ensures.done in
    let k_1 = c.in_ok-left_at.ensures.kept in
    let i = same_diagram d1.made.added.grown c.args.right r.right in
    let d2 = c.in_ok-right_at.ensures.done in
    let k_2 = c.in_ok-right_at.ensures.kept in
    let n = left_names r.good h d1 k_1 i d2 k_2 in
    let m = d2.made.names in
    let l0 = names_grown d2.made.added.grown (names_grown d1.made.added.grown c.off-left_off.ensures) in
    let r0 = names_grown d2.made.added.grown (names_grown d1.made.added.grown c.off-right_off.ensures) in
    let d3 = c.in_ok-yes.ensures.done in
    let k_3 = c.in_ok-yes.ensures.kept in
    let L = names_grown d3.made.added.grown l0 in
    let R = names_grown d3.made.added.grown r0 in
    (falls_twice _ _ t (two_at L.stands R.stands (offs_smaller _ _ _ _ h)) c.decreases, (l', (d3.made.good, (L.present, (R.present, c.in_ok-yes.ensures.memo)))))

pub join_node-returns-in_err-no-clause-done : goal.join_node-returns-in_err-no-clause-done
join_node-returns-in_err-no-clause-done g t c =
    let r = c.requires in
    let h = sym c.in-Some.ensures in
    let d1 = c.in_ok-left_at.ensures.done in
    let k_1 = c.in_ok-left_at.ensures.kept in
    let i = same_diagram d1.made.added.grown c.args.right r.right in
    let d2 = c.in_ok-right_at.ensures.done in
    let k_2 = c.in_ok-right_at.ensures.kept in
    let n = left_names r.good h d1 k_1 i d2 k_2 in
    let m = d2.made.names in
    let l0 = names_grown d2.made.added.grown (names_grown d1.made.added.grown c.off-left_off.ensures) in
    let r0 = names_grown d2.made.added.grown (names_grown d1.made.added.grown c.off-right_off.ensures) in
    let d3 = c.in_ok-yes.ensures.done in
    let k_3 = c.in_ok-yes.ensures.kept in
    let L = names_grown d3.made.added.grown l0 in
    let R = names_grown d3.made.added.grown r0 in
    join_stops_fourth r.good h d1 k_1 i d2 k_2 n.stands m.stands d3 k_3 L.stands R.stands c.in_err-no.ensures.done (passed_on c.from_residual-in_err-no.ensures.1)

pub join_node-returns-in_err-no-clause-kept : goal.join_node-returns-in_err-no-clause-kept
join_node-returns-in_err-no-clause-kept g t c = kept_trans (kept_trans (kept_trans c.at.ensures.kept c.at-2.ensures.kept) c.join.ensures.kept) c.join-2.ensures.kept

pub join_node-make-requires-clause-yes : goal.join_node-make-requires-clause-yes
join_node-make-requires-clause-yes g t c =
    let r = c.requires in
    let h = sym c.in-Some.ensures in
    let d1 = c.in_ok-left_at.ensures.done in
    let k_1 = c.in_ok-left_at.ensures.kept in
    let i = same_diagram d1.made.added.grown c.args.right r.right in
    let d2 = c.in_ok-right_at.ensures.done in
    let k_2 = c.in_ok-right_at.ensures.kept in
    let n = left_names r.good h d1 k_1 i d2 k_2 in
    let m = d2.made.names in
    let l0 = names_grown d2.made.added.grown (names_grown d1.made.added.grown c.off-left_off.ensures) in
    let r0 = names_grown d2.made.added.grown (names_grown d1.made.added.grown c.off-right_off.ensures) in
    let d3 = c.in_ok-yes.ensures.done in
    let k_3 = c.in_ok-yes.ensures.kept in
    let L = names_grown d3.made.added.grown l0 in
    let R = names_grown d3.made.added.grown r0 in
    let d4 = c.in_ok-no.ensures.done in
    let k_4 = c.in_ok-no.ensures.kept in
    let y = yes_joined r.good h d1 k_1 i d2 k_2 n.stands m.stands d3 k_3 L.stands R.stands d4 k_4 in
    y.present

pub join_node-returns-clause-done : goal.join_node-returns-clause-done
join_node-returns-clause-done g t c =
    let r = c.requires in
    let h = sym c.in-Some.ensures in
    let d1 = c.in_ok-left_at.ensures.done in
    let k_1 = c.in_ok-left_at.ensures.kept in
    let i = same_diagram d1.made.added.grown c.args.right r.right in
    let d2 = c.in_ok-right_at.ensures.done in
    let k_2 = c.in_ok-right_at.ensures.kept in
    let n = left_names r.good h d1 k_1 i d2 k_2 in
    let m = d2.made.names in
    let l0 = names_grown d2.made.added.grown (names_grown d1.made.added.grown c.off-left_off.ensures) in
    let r0 = names_grown d2.made.added.grown (names_grown d1.made.added.grown c.off-right_off.ensures) in
    let d3 = c.in_ok-yes.ensures.done in
    let k_3 = c.in_ok-yes.ensures.kept in
    let L = names_grown d3.made.added.grown l0 in
    let R = names_grown d3.made.added.grown r0 in
    let d4 = c.in_ok-no.ensures.done in
    let k_4 = c.in_ok-no.ensures.kept in
    let y = yes_joined r.good h d1 k_1 i d2 k_2 n.stands m.stands d3 k_3 L.stands R.stands d4 k_4 in
    join_makes r.good h d1 k_1 i d2 k_2 n.stands m.stands d3 k_3 L.stands R.stands d4 k_4 y.stands d4.made.names.stands c.make.ensures.done

pub join_node-returns-clause-kept : goal.join_node-returns-clause-kept
join_node-returns-clause-kept g t c = kept_trans (kept_trans (kept_trans (kept_trans c.at.ensures.kept c.at-2.ensures.kept) c.join.ensures.kept) c.join-2.ensures.kept) c.make.ensures.kept

pub join_node-returns-in_default-clause-memo : goal.join_node-returns-in_default-clause-memo
join_node-returns-in_default-clause-memo g t c = leaf_keeps _ _ c.requires.memo c.join_leaves.ensures.leaves c.join_leaves.ensures.done (joined_asks _ c.join_leaves.ensures.done.by_the_rules (sym c.in_default.ensures))

pub join-returns-in-Some-clause-done : goal.join-returns-in-Some-clause-done
join-returns-in-Some-clause-done g t c = recalled _ Join c.args.left c.args.right c.requires.good c.requires.memo c.in-Some.ensures

pub join-returns-clause-memo : goal.join-returns-clause-memo
join-returns-clause-memo g t c =
    let r = c.requires in
    noted _ _ Join c.args.left c.args.right _ tt r.left r.right c.in_ok-result.ensures.memo c.in_ok-result.ensures.done c.note.ensures

pub join-returns-then-eq-clause-done : goal.join-returns-then-eq-clause-done
join-returns-then-eq-clause-done g t c =
    let r = c.requires in
    let L = g.met.K.WeightKind.lawful in
    elim c.then-eq.branch [
      | join-then-eq-via-then-eq w ↦ one_operand L r.good r.memo.0 r.memo.2 c.args.left c.args.right r.left ((diagrams_told _ _).0 (sym w.if-eq.ensures))
      | join-then-eq-via-else-eq+then-is_drop w ↦ drop_right L r.good r.memo.0 r.memo.2 c.args.left c.args.right r.left (w.is_drop.ensures.0 w.if-is_drop.true)
    ]

pub join-returns-then-is_drop-2-clause-done : goal.join-returns-then-is_drop-2-clause-done
join-returns-then-is_drop-2-clause-done g t c =
    let r = c.requires in
    drop_left g.met.K.WeightKind.lawful r.good r.memo.0 r.memo.2 c.args.left c.args.right r.right (c.is_drop-2.ensures.0 c.if-is_drop-2.true)
