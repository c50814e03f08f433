use Rattle.std.proofs.Common.{length}
use Rattle.scripts.proofs.WordsRead.{WordsRead}
use Rattle.scripts.proofs.forwards.write_words.Given as goal

abbrev pub invariant-loop-said : goal.invariant-loop-said
invariant-loop-said l = WordsRead l.fn.text l.rest l.out l.count

abbrev pub decreases-loop-said : goal.decreases-loop-said
decreases-loop-said l = length l.rest
