use Rattle.std.proofs.Common.{◌≡◌, min, take}
use Rattle.series.specs.Calls.{parts_length}
use Rattle.series.specs.Series.{most}
use Rattle.series.proofs.parts_len.Given as goal

abbrev pub invariant-loop-call : goal.invariant-loop-call
invariant-loop-call l = l.needed ≡ min (parts_length (take l.call-index l.calls)) most
