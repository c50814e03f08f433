use Rattle.faults.proofs.PassedOn.{passed_on}
use Rattle.engine.proofs.Composing.{kept_trans, names_grown}
use Rattle.engine.proofs.StarRules.{round_stops, round_made}
use Rattle.engine.proofs.starring.next_round.Goals as goal

pub returns-in_err-after-clause-done : goal.returns-in_err-after-clause-done
returns-in_err-after-clause-done g c = round_stops c.requires.good c.in_err-after.ensures.done (passed_on c.from_residual.ensures.1)

pub join-requires-clause-left : goal.join-requires-clause-left
join-requires-clause-left g c = (names_grown c.in_ok-after.ensures.done.made.added.grown c.requires.pass).present

pub returns-clause-done : goal.returns-clause-done
returns-clause-done g c =
    let d = c.in_ok-after.ensures.done in
    round_made c.requires.good d c.in_ok-after.ensures.kept (names_grown d.made.added.grown c.requires.pass).stands d.made.names.stands c.join.ensures.done

pub returns-clause-kept : goal.returns-clause-kept
returns-clause-kept g c = kept_trans c.sequence.ensures.kept c.join.ensures.kept
