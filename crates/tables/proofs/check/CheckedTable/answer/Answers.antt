use Rattle.std.proofs.Common.{arith}
use Rattle.frames.proofs.Words.{values_of_frame}
use Rattle.tables.proofs.Answers.{row_answered, none_written}
use Rattle.tables.proofs.check.CheckedTable.answer.Goals as goal

pub returns-in-Some-clause-exact : goal.returns-in-Some-clause-exact
returns-in-Some-clause-exact g c rows legal e =
    row_answered g.met.K.WeightKind.lawful rows legal c.in_ok-frame.frame.values c.args.self.now.words.now c.in-Some.row.now c.args.frame.now c.args.out.now
    c.send_all.new.out c.send_all.result (values_of_frame c.in_ok-frame.frame (omega arith)) c.in_ok-frame.ensures.read (c.in-Some.ensures rows legal e) c.send_all.ensures

pub returns-in-None-clause-exact : goal.returns-in-None-clause-exact
returns-in-None-clause-exact g c rows legal e =
    let s = c.in_ok-frame.frame.values in
    (s, values_of_frame c.in_ok-frame.frame (omega arith), c.in_ok-frame.ensures.read, none_written g.K.WeightKind.ops rows s c.args.out.now (c.in-None.ensures rows legal e))
