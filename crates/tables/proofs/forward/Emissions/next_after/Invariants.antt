use Rattle.std.proofs.Common.{option_map}
use Rattle.tables.specs.Scans.{sends, values_of, sent_of}
use Rattle.tables.proofs.Best.{Scanned}
use Rattle.tables.proofs.forward.Emissions.next_after.Given as goal

abbrev pub invariant-loop-sent : goal.invariant-loop-sent
invariant-loop-sent g l =
    Scanned g.K.WeightKind.ops (values_of l.last) (sends l.self.row.now l.self.frame.values)
    (sends l.sent-iterator.row.now l.sent-iterator.frame.values) (option_map sent_of l.best)
