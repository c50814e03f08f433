use Rattle.std.proofs.Common.{length, take, refl, ap}
use Rattle.faults.specs.Lines.{refused_line}
use Rattle.pages.proofs.Saying.{says_of_eq}
use Rattle.replays.proofs.Frames.{frame_answered, frame_refused}
use Rattle.replays.proofs.print_frame.Goals as goal

pub returns-in-Ok : goal.returns-in-Ok
returns-in-Ok g c = λ rows legal e.
    frame_answered
    g.K.WeightKind.ops
    rows
    (length c.args.room.now)
    c.args.frame.now
    c.args.room.now
    c.forward.new.out
    (take c.in-Ok.count c.forward.new.out)
    c.in-Ok.count
    (c.in-Ok.ensures.exact rows legal e)
    refl
    c.print.ensures
    c.print-in-Ok.ensures

pub returns-in-Err : goal.returns-in-Err
returns-in-Err g c = λ rows legal e.
    frame_refused
    g.K.WeightKind.ops
    rows
    (length c.args.room.now)
    c.args.frame.now
    c.in-Err.fault
    (c.in-Err.ensures.exact rows legal e)
    c.print.ensures
    (says_of_eq (ap refused_line c.from.ensures) c.print-in-Err.ensures)
