use Rattle.std.proofs.Common.{◌-◌, length}
use Rattle.tables.specs.Scans.{sends, values_of}
use Rattle.tables.proofs.Listed.{Listed}
use Rattle.tables.proofs.forward.send_all.Given as goal

abbrev pub invariant-loop-next : goal.invariant-loop-next
invariant-loop-next g l = Listed g.K.WeightKind.ops (sends l.emissions.row.now l.emissions.frame.values) (values_of l.last) l.initial.out l.count l.out

abbrev pub decreases-loop-next : goal.decreases-loop-next
decreases-loop-next g l = length l.out - l.count
