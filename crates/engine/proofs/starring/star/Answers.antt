use Rattle.std.proofs.Common.{sym, ◌∙◌}
use Rattle.faults.proofs.PassedOn.{passed_on}
use Rattle.records.proofs.Alike.{diagrams_told}
use Rattle.engine.proofs.Composing.{kept_trans, itself}
use Rattle.engine.proofs.Numbers.{never}
use Rattle.engine.proofs.StarRules.{first_made, star_ends, one_more, star_stops, pass_stops, falls_round}
use Rattle.engine.proofs.Remembering.{remembers_grown, remade_after, leaf_asks}
use Rattle.engine.proofs.starring.star.Goals as goal

pub returns-in_err-pass-clause-done : goal.returns-in_err-pass-clause-done
returns-in_err-pass-clause-done g c =
    pass_stops g.met.K.WeightKind.lawful c.requires.formed c.requires.good c.in_err-pass.ensures.done (passed_on c.from_residual.ensures.1)

pub rounds-init : goal.rounds-init
rounds-init g c =
    (first_made g.met.K.WeightKind.lawful c.requires.formed c.requires.good (itself _ c.args.body c.requires.body) c.in_ok-pass.ensures.done c.in_ok-pass.ensures.kept, remembers_grown c.in_ok-pass.ensures.done.made.added.grown _ _ c.in_ok-pass.ensures.leaves (remade_after c.in_ok-pass.ensures.done.made.added c.requires.memo.2 (leaf_asks _ _ _ c.in_ok-pass.ensures.done.by_the_rules.1)) c.requires.memo)

pub returns-in_err-next-clause-done : goal.returns-in_err-next-clause-done
returns-in_err-next-clause-done g c =
    let m = c.rounds.invariant.0 in
    star_stops g.met.K.WeightKind.lawful c.requires.formed m m.body_names.stands m.last_names.stands c.in_err-next.ensures.done (passed_on c.from_residual-in_err-next.ensures.1)

pub returns-in_err-next-clause-kept : goal.returns-in_err-next-clause-kept
returns-in_err-next-clause-kept g c = kept_trans c.rounds.invariant.0.sofar.kept c.next_round.ensures.kept

pub returns-then-eq-clause-done : goal.returns-then-eq-clause-done
returns-then-eq-clause-done g c =
    let m = c.rounds.invariant.0 in
    star_ends g.met.K.WeightKind.lawful c.requires.formed m m.body_names.stands m.last_names.stands c.in_ok-next.ensures.done c.in_ok-next.ensures.kept ((diagrams_told _ _).0 (sym c.if-eq.ensures))

pub returns-then-eq-clause-kept : goal.returns-then-eq-clause-kept
returns-then-eq-clause-kept g c = kept_trans c.rounds.invariant.0.sofar.kept c.next_round.ensures.kept

pub rounds-smaller : goal.rounds-smaller
rounds-smaller g c =
    let m = c.rounds.invariant.0 in
    let M = one_more g.met.K.WeightKind.lawful c.requires.formed m m.body_names.stands m.last_names.stands c.in_ok-next.ensures.done c.in_ok-next.ensures.kept (λ h. never _ c.if-eq.ensures ((diagrams_told _ _).1 h)) in
    falls_round g.met.K.WeightKind.lawful c.requires.formed m.steps M.0.body_names.stands (c.in_ok-next.ensures.done.made.names.stands ∙ M.2) m.last_names.stands (λ e. M.1 (M.2 ∙ e)) m.body_names.stands

pub rounds-preserved : goal.rounds-preserved
rounds-preserved g c =
    let m = c.rounds.invariant.0 in
    ((one_more g.met.K.WeightKind.lawful c.requires.formed m m.body_names.stands m.last_names.stands c.in_ok-next.ensures.done c.in_ok-next.ensures.kept (λ h. never _ c.if-eq.ensures ((diagrams_told _ _).1 h))).0, c.in_ok-next.ensures.memo)

pub next_round-requires-clause-pass : goal.next_round-requires-clause-pass
next_round-requires-clause-pass g c = c.rounds.invariant.0.pass_names

pub next_round-requires-clause-memo : goal.next_round-requires-clause-memo
next_round-requires-clause-memo g c = c.rounds.invariant.1
