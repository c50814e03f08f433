use Rattle.std.proofs.Common.{arith}
use Rattle.replays.proofs.FileWords.{words_count}
use Rattle.replays.proofs.words_wanted.Goals as goal

pub overflow_add-result : goal.overflow_add-result
overflow_add-result c =
    omega (arith, c.count_words.ensures, c.count_words-2.ensures, words_count c.args.table.now, words_count c.args.frames.now)
