use Rattle.std.proofs.Common.{sym, ◌∙◌}
use Rattle.std.proofs.lemmas.List.{take_rest}
use Rattle.scripts.specs.Words.{is_blank}
use Rattle.scripts.proofs.Pieces.{no_word, a_word}
use Rattle.scripts.proofs.words.first_word.Goals as goal

pub returns-then-size-eq0-clause-words : goal.returns-then-size-eq0-clause-words
returns-then-size-eq0-clause-words c =
    no_word is_blank c.args.bytes.now (rw c.unblanked-rest.ensures.unblanked at (sym c.word_len-size.ensures.word ∙ c.if-size-eq0.true))

pub returns-else-size-eq0-clause-words : goal.returns-else-size-eq0-clause-words
returns-else-size-eq0-clause-words c =
    let first = a_word is_blank c.args.bytes.now (λ e. c.if-size-eq0.false (c.word_len-size.ensures.word ∙ (rw c.unblanked-rest.ensures.unblanked e))) in
    rw (take_rest c.unblanked-rest.result.now c.word_len-size.result, c.word_len-size.ensures.word, c.unblanked-rest.ensures.unblanked) first
