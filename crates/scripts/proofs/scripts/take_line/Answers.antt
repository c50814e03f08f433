use Rattle.std.proofs.Common.{sym, ◌∙◌, ap, length, ◌-◌, arith, length-drop, length-take, drop, min, ◌+◌}
use Rattle.scripts.specs.Heard.{most}
use Rattle.scripts.specs.Lines.{asked, call, forward}
use Rattle.scripts.proofs.Holding.{one_more, one_framed, some_length, framed_line}
use Rattle.scripts.proofs.scripts.take_line.Goals as goal

pub returns-in-Call : goal.returns-in-Call
returns-in-Call c cs h =
    let says = rw c.in-Call.is at c.in_ok-read_line.ensures.says in
    let frameless = rw c.in-Call.is at c.in_ok-read_line.ensures.frameless in
    (call (asked c.in-Call.field-0), sym says, one_more h (asked c.in-Call.field-0) c.saturating_add.result frameless c.saturating_add.ensures)

pub returns-in_ok-count-in-Forward : goal.returns-in_ok-count-in-Forward
returns-in_ok-count-in-Forward c cs h =
    let says = rw c.in-Forward.is at c.in_ok-read_line.ensures.says in
    let read = some_length _ c.in_ok-count-in-Forward.count c.in_ok-count-in-Forward.ensures.count in (
      call (forward read.0 c.in-Forward.room),
      sym says ∙ framed_line c.in-Forward.text.now read.0 c.in-Forward.room read.1,
      one_framed h (forward read.0 c.in-Forward.room) c.write_frame.new.out _ c.min-start.result c.saturating_add-in-Forward.result
          c.saturating_add-in-Forward-2.result c.saturating_add-in-Forward-3.result c.min-start.ensures (omega arith)
          (omega (arith, c.write_frame.auto.out, length-take (length c.args.frames.now - c.min-start.result) (drop c.min-start.result c.args.frames.now), length-drop c.min-start.result c.args.frames.now))
          (omega (arith, length-drop (length c.args.frames.now - c.min-start.result) (drop c.min-start.result c.args.frames.now), length-drop c.min-start.result c.args.frames.now))
          (λ le. c.write_frame.ensures.written read.0 read.1 (omega (arith, c.write_frame.auto.out))) c.saturating_add-in-Forward.ensures
          (c.saturating_add-in-Forward-2.ensures ∙ ap (λ n. min (c.args.needs.words + n) most) read.2) c.saturating_add-in-Forward-3.ensures,
    )
