use Rattle.std.proofs.Common.{◌≡◌, ◌^◌, ◌<◌, drop}
use Rattle.scripts.specs.Numbers.{hex_from}
use Rattle.scripts.proofs.numbers.word.Given as goal

abbrev pub invariant-loop-byte : goal.invariant-loop-byte
invariant-loop-byte l = record {
  read : hex_from l.word (drop l.byte-index l.digits) ≡ hex_from 0 l.digits;
  small : l.word < 16 ^ l.byte-index;
}
