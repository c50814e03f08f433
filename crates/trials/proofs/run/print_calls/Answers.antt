use Rattle.std.proofs.Common.{ap, arith}
use Rattle.pages.proofs.Saying.{says_of_eq}
use Rattle.faults.specs.Lines.{refused_line}
use Rattle.faults.specs.Shows.{store_shown}
use Rattle.series.specs.Series.{lent_of}
use Rattle.trials.specs.Records.{record_said}
use Rattle.trials.specs.Trials.{unfit, performed}
use Rattle.trials.proofs.Refusing.{unfit_memory, never_short}
use Rattle.trials.proofs.run.print_calls.Goals as goal

pub unreachable-requires : goal.unreachable-requires
unreachable-requires g c =
    never_short ((c.perform-ended.ensures.refused c.in-Err.fault).0 c.in-Err.is) c.requires.few c.requires.written c.requires.in_force c.in_default.not-Memory

pub returns-in-Ok : goal.returns-in-Ok
returns-in-Ok g c = (_, performed _ _ c.in-Ok.ended c.in-Ok.ensures.performed, c.print_record.ensures)

pub returns : goal.returns
returns g c =
    let none = unfit_memory c.in-Memory.fault (rw c.in-Memory.is at ((c.perform-ended.ensures.refused c.in-Err.fault).0 c.in-Err.is)) c.requires.few c.requires.written c.requires.in_force in
    (refused_line (store_shown c.in-Memory.fault), unfit c.in-Memory.fault none, says_of_eq (ap refused_line c.from.ensures) c.print.ensures)
