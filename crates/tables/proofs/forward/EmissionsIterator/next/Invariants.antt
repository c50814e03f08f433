use Rattle.std.proofs.Common.{◌≡◌, length}
use Rattle.tables.specs.Scans.{sends}
use Rattle.tables.proofs.forward.EmissionsIterator.next.Given as goal

abbrev pub invariant-loop-bits : goal.invariant-loop-bits
invariant-loop-bits l = sends l.self.row.now l.self.frame.values ≡ sends l.initial.self.row.now l.initial.self.frame.values

abbrev pub decreases-loop-bits : goal.decreases-loop-bits
decreases-loop-bits l = length l.self.row.now
