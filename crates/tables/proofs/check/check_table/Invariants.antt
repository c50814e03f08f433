use Rattle.tables.proofs.Reached.{Reached}
use Rattle.tables.proofs.check.check_table.Given as goal

abbrev pub invariant-loop-place : goal.invariant-loop-place
invariant-loop-place g l = Reached g.K.WeightKind.ops l.words l.place l.checker.rows l.checker.state
