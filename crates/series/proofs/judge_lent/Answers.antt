use Rattle.std.proofs.Common.{arith}
use Rattle.series.specs.Series.{answers, in_force}
use Rattle.series.proofs.Judging.{short_written}
use Rattle.series.proofs.judge_lent.Goals as goal

pub returns-then-answers-calls : goal.returns-then-answers-calls
returns-then-answers-calls c = answers c.if-answers-calls.true

pub returns-then-written-needed : goal.returns-then-written-needed
returns-then-written-needed c = short_written c.args.calls.now c.args.table_words _ c.parts_len-needed.result c.parts_len-needed.ensures c.if-answers-calls.false c.if-written-needed.true

pub returns-then-in_force-table_words : goal.returns-then-in_force-table_words
returns-then-in_force-table_words c = in_force c.if-answers-calls.false (omega arith) c.if-in_force-table_words.true
