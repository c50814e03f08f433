use Rattle.std.proofs.Common.{[], take, sym, ap, get_or, ◌∙◌}
use Rattle.std.specs.List.{flat_map}
use Rattle.std.proofs.lemmas.List.{flat_map_more, take_more, take_all}
use Rattle.pages.proofs.Saying.{◌>>◌, says_of_eq, nothing}
use Rattle.pages.proofs.each.print_each.Goals as goal

pub loop-word-init : goal.loop-word-init
loop-word-init g c = λ text says. nothing _

pub loop-word-preserved : goal.loop-word-preserved
loop-word-preserved g c = λ text says.
    let words = c.args.words.now
    in let i = c.loop-word.word-index
    in let before = c.loop-word.invariant text says
    in let last = rw (says _ _ c.from.ensures) at c.print.ensures
    in let more = flat_map_more text [] (take i words) (get_or words i 0) ∙ ap (flat_map text) (sym (take_more words i 0 c.loop-word-test.true))
    in says_of_eq more (before >> last)

pub returns : goal.returns
returns g c = λ text says.
    says_of_eq (ap (flat_map text) (take_all c.loop-word.word-index c.args.words.now c.loop-word-test.false)) (c.loop-word.invariant text says)
