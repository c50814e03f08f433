use Rattle.std.proofs.Common.{refl, subst, arith}
use Rattle.faults.proofs.PassedOn.{passed_on}
use Rattle.meaning.specs.Leaves.{LeafFormed}
use Rattle.engine.specs.Contents.{contents}
use Rattle.engine.specs.State.{state}
use Rattle.engine.proofs.LeafMerges.{leaf_formed_at}
use Rattle.engine.proofs.Composing.{kept_trans, names_grown}
use Rattle.engine.proofs.Reading.{leaf_counted}
use Rattle.engine.proofs.FollowRules.{follow_started, follow_ends, prefix_stops, join_stops, followed_one, fewer_cells}
use Rattle.engine.proofs.sequencing.follow.Goals as goal

pub cells-init : goal.cells-init
cells-init g c = (follow_started refl c.requires.good c.requires.first c.requires.second, c.requires.memo)

pub cell-own-requires-clause-good : goal.cell-own-requires-clause-good
cell-own-requires-clause-good g c = c.cells.invariant.0.pending.sofar.good

pub cell-own-requires-clause-held : goal.cell-own-requires-clause-held
cell-own-requires-clause-held g c =
    let m = c.cells.invariant.0 in
    (omega arith, leaf_counted _ _ m.pending.sofar.good _ m.rest_present)

pub prefix-requires-clause-action : goal.prefix-requires-clause-action
prefix-requires-clause-action g c = c.cell-own.ensures.action_present

pub prefix-requires-clause-weight : goal.prefix-requires-clause-weight
prefix-requires-clause-weight g c =
    (subst (LeafFormed g.K.WeightKind.ops) c.cell-own.ensures.itself (leaf_formed_at (state (contents c.cells.counts c.cells.stores)) c.cells.invariant.1.0 c.cells.rest.number c.cells.invariant.0.rest_present)).cells.0.weight

pub prefix-requires-clause-memo : goal.prefix-requires-clause-memo
prefix-requires-clause-memo g c = c.cells.invariant.1

pub returns-clause-memo : goal.returns-clause-memo
returns-clause-memo g c = c.cells.invariant.1

pub prefix-requires-clause-good : goal.prefix-requires-clause-good
prefix-requires-clause-good g c = c.cells.invariant.0.pending.sofar.good

pub prefix-requires-clause-present : goal.prefix-requires-clause-present
prefix-requires-clause-present g c = c.cells.invariant.0.second_names.present

pub returns-in_err-prefixed-clause-done : goal.returns-in_err-prefixed-clause-done
returns-in_err-prefixed-clause-done g c =
    let m = c.cells.invariant.0 in
    prefix_stops m c.cell-own.ensures refl m.second_names.stands c.in_err-prefixed.ensures.done (passed_on c.from_residual.ensures.1)

pub returns-in_err-prefixed-clause-kept : goal.returns-in_err-prefixed-clause-kept
returns-in_err-prefixed-clause-kept g c = kept_trans c.cells.invariant.0.pending.sofar.kept c.prefix.ensures.kept

pub join-requires-clause-left : goal.join-requires-clause-left
join-requires-clause-left g c = (names_grown c.in_ok-prefixed.ensures.done.made.added.grown c.cells.invariant.0.sofar_names).present

pub returns-in_err-sofar-clause-done : goal.returns-in_err-sofar-clause-done
returns-in_err-sofar-clause-done g c =
    let m = c.cells.invariant.0 in
    join_stops m c.cell-own.ensures refl m.second_names.stands c.in_ok-prefixed.ensures.done c.in_ok-prefixed.ensures.kept c.in_err-sofar.ensures.done (passed_on c.from_residual-in_err-sofar.ensures.1)

pub returns-in_err-sofar-clause-kept : goal.returns-in_err-sofar-clause-kept
returns-in_err-sofar-clause-kept g c = kept_trans (kept_trans c.cells.invariant.0.pending.sofar.kept c.prefix.ensures.kept) c.join.ensures.kept

pub cells-smaller : goal.cells-smaller
cells-smaller g c =
    let m = c.cells.invariant.0 in
    fewer_cells m c.cell-own.ensures refl m.second_names.stands c.in_ok-prefixed.ensures.done c.in_ok-prefixed.ensures.kept c.in_ok-sofar.ensures.done c.in_ok-sofar.ensures.kept

pub cells-preserved : goal.cells-preserved
cells-preserved g c =
    let m = c.cells.invariant.0 in
    (followed_one m c.cell-own.ensures refl m.second_names.stands c.in_ok-prefixed.ensures.done c.in_ok-prefixed.ensures.kept c.in_ok-sofar.ensures.done c.in_ok-sofar.ensures.kept, c.in_ok-sofar.ensures.memo)

pub returns-clause-done : goal.returns-clause-done
returns-clause-done g c = follow_ends c.cells.invariant.0 c.cells-test.false

pub returns-clause-kept : goal.returns-clause-kept
returns-clause-kept g c = c.cells.invariant.0.pending.sofar.kept
