use Rattle.std.proofs.Common.{◌≡◌, ◌+◌, ap, sym, ◌∙◌, subst, take, drop, arith}
use Rattle.trials.proofs.Answering.{begun, step, fits, ended}
use Rattle.trials.proofs.answers.print_answers.Goals as goal

pub loop-place-init : goal.loop-place-init
loop-place-init c = begun c.args.page.now c.args.calls.now c.args.answers.now c.args.words.now c.requires.words

pub split_at-requires : goal.split_at-requires
split_at-requires c = rw c.part_len.ensures (fits c.loop-place.invariant _ c.loop-place-test.true)

pub loop-place-preserved : goal.loop-place-preserved
loop-place-preserved c =
    rw (c.split_at.ensures.back, c.part_len.ensures)
    (step c.loop-place.invariant _ _ c.print_numbered.new.page c.loop-place-test.true (omega (arith, c.requires.answers)) (rw (c.split_at.ensures.front, c.part_len.ensures) at c.print_numbered.ensures))

pub returns : goal.returns
returns c = ended c.loop-place.invariant c.loop-place-test.false
