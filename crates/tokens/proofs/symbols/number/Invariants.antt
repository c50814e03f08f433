use Rattle.std.proofs.Common.{◌≡◌, ◌<◌, drop, fold}
use Rattle.format.specs.Words.{value_end}
use Rattle.tokens.specs.Symbols.{shifted}
use Rattle.tokens.proofs.symbols.number.Given as goal

abbrev pub invariant-loop-d : goal.invariant-loop-d
invariant-loop-d l = (fold shifted l.value (drop l.d-index l.digits) ≡ fold shifted 0 l.digits) × (l.value < value_end)
