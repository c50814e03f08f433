use Rattle.std.proofs.Common.{drop}
use Rattle.engine.proofs.InTurn.{Putting}
use Rattle.engine.proofs.putting.put_words.Given as goal

abbrev pub invariant-words : goal.invariant-words
invariant-words l = Putting l.fn.sheet l.fn.words (drop l.word-index l.fn.words) 0 l.sheet
