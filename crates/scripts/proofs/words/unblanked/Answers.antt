use Rattle.std.proofs.Common.{drop, ap, ◌∙◌}
use Rattle.std.proofs.lemmas.List.{take_rest}
use Rattle.scripts.proofs.words.unblanked.Goals as goal

pub returns-clause-unblanked : goal.returns-clause-unblanked
returns-clause-unblanked c = take_rest c.args.bytes.now c.blanks_len.result ∙ ap (λ n. drop n c.args.bytes.now) c.blanks_len.ensures.blanks
