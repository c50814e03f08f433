use Rattle.std.proofs.Common.{arith}
use Rattle.scripts.proofs.Digits.{room}
use Rattle.scripts.proofs.numbers.word.Goals as goal

pub overflow_mul-word : goal.overflow_mul-word
overflow_mul-word c = omega (arith, room c.loop-byte.word c.loop-byte.byte-index c.loop-byte.invariant.small (omega arith))

pub overflow_add-word : goal.overflow_add-word
overflow_add-word c = omega (arith, room c.loop-byte.word c.loop-byte.byte-index c.loop-byte.invariant.small (omega arith), c.in_ok-hex_digit.ensures.below)
