use Rattle.std.proofs.Common.{◌<◌, ◌≤◌, length, arith}
use Rattle.replays.specs.Memory.{wanted, LinesLength}
use Rattle.replays.proofs.Records.{measured, said_all, said_part}
use Rattle.replays.proofs.lines_length.Goals as goal

pub returns-then-words-words_wanted : goal.returns-then-words-words_wanted
returns-then-words-words_wanted c =
    let room : length c.args.words.now < wanted c.args.table.now c.args.frames.now = omega (arith, c.words_wanted.ensures, c.if-words-words_wanted.true)
    in LinesLength.none (omega (arith, room)) (λ all. absurd (omega (arith, room, all)))

pub returns-in-Ok-finish : goal.returns-in-Ok-finish
returns-in-Ok-finish c =
    let room : wanted c.args.table.now c.args.frames.now ≤ length c.args.words.now = omega (arith, c.words_wanted.ensures, c.if-words-words_wanted.false)
    in measured c.args.table.now c.args.frames.now room c.in-Ok.ensures.0 c.new-page.ensures.said c.in-Ok.ensures.1 (said_all c.in-Ok-finish.ensures.answer)

pub returns-in-Err-finish : goal.returns-in-Err-finish
returns-in-Err-finish c =
    let room : wanted c.args.table.now c.args.frames.now ≤ length c.args.words.now = omega (arith, c.words_wanted.ensures, c.if-words-words_wanted.false)
    in measured c.args.table.now c.args.frames.now room c.in-Ok.ensures.0 c.new-page.ensures.said c.in-Ok.ensures.1 (said_part c.in-Err-finish.ensures.answer)

pub returns-in-Err : goal.returns-in-Err
returns-in-Err c =
    let (legal, room, blank) = c.in-Err.ensures
    in LinesLength.none room (λ _. legal)
