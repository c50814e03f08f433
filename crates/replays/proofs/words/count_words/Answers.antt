use Rattle.std.proofs.Common.{sym, ◌∙◌}
use Rattle.replays.proofs.FileWords.{words_count}
use Rattle.replays.proofs.words.count_words.Goals as goal

pub returns : goal.returns
returns c = c.div_ceil.ensures ∙ sym (words_count c.args.bytes.now)
