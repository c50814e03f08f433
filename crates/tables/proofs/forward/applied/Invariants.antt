use Rattle.std.proofs.Common.{◌≡◌, ℕ, ◌<◌, drop, slice_index}
use Rattle.format.specs.Fields.{fields, LegalValue}
use Rattle.tables.specs.Scans.{applied}
use Rattle.tables.proofs.forward.applied.Given as goal

abbrev pub invariant-loop-bits : goal.invariant-loop-bits
invariant-loop-bits l =
    record {
      made : applied (drop l.bits-index l.words) l.values ≡ applied l.words l.fn.frame.values;
      legal : (f : ℕ) → f < fields → LegalValue f (slice_index l.values f);
    }
