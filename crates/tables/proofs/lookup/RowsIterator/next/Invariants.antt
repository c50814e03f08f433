use Rattle.std.proofs.Common.{◌≡◌, length}
use Rattle.tables.specs.Scans.{heads_past}
use Rattle.tables.proofs.lookup.RowsIterator.next.Given as goal

abbrev pub invariant-loop-bits : goal.invariant-loop-bits
invariant-loop-bits l = heads_past 0 l.self.words.now ≡ heads_past 0 l.initial.self.words.now

abbrev pub decreases-loop-bits : goal.decreases-loop-bits
decreases-loop-bits l = length l.self.words.now
