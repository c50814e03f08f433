use Rattle.std.proofs.Common.{Some, length, option_map, ap, sym, ◌∙◌, arith}
use Rattle.std.proofs.lemmas.Option.{none-some}
use Rattle.scripts.proofs.WordsRead.{begun, failed, stored, passed, ended, memory}
use Rattle.scripts.proofs.forwards.write_words.Goals as goal
use Rattle.scripts.proofs.forwards.write_words.Goals.{then-count-out, else-count-out}

pub loop-said-init : goal.loop-said-init
loop-said-init c = begun c.args.text.now c.args.out.now

pub returns-in_err-bits-clause-count : goal.returns-in_err-bits-clause-count
returns-in_err-bits-clause-count c =
    c.from_residual.ensures ∙ sym (ap (option_map length) (failed c.loop-said.invariant c.in-Some.said.now c.in-Some.behind.now c.in-Some.ensures.words (sym c.word.ensures ∙ c.in_err-bits.was)))

pub returns-in_err-bits-clause-written : goal.returns-in_err-bits-clause-written
returns-in_err-bits-clause-written c ws e l =
    absurd (none-some ws (sym (failed c.loop-said.invariant c.in-Some.said.now c.in-Some.behind.now c.in-Some.ensures.words (sym c.word.ensures ∙ c.in_err-bits.was)) ∙ e))

pub overflow_add-count : goal.overflow_add-count
overflow_add-count c = omega (arith, c.loop-said.invariant.left)

pub loop-said-preserved : goal.loop-said-preserved
loop-said-preserved c =
    let read = sym c.word.ensures ∙ c.in_ok-bits.was in
    elim c.if-count-out.branch [
      | then-count-out w ↦ rw w.out-is (stored c.loop-said.invariant c.in-Some.said.now c.in-Some.behind.now c.in_ok-bits.bits c.in-Some.ensures.words read c.in-Some.ensures.some c.in-Some.ensures.shorter w.if-count-out.true)
      | else-count-out w ↦ rw w.out-is (passed c.loop-said.invariant c.in-Some.said.now c.in-Some.behind.now c.in_ok-bits.bits c.in-Some.ensures.words read c.in-Some.ensures.some c.in-Some.ensures.shorter w.if-count-out.false)
    ]

pub returns-clause-count : goal.returns-clause-count
returns-clause-count c = ap Some (sym c.loop-said.invariant.counted) ∙ sym (ap (option_map length) (ended c.loop-said.invariant c.in_default.ensures.words))

pub returns-clause-written : goal.returns-clause-written
returns-clause-written c ws e l = memory c.loop-said.invariant c.in_default.ensures.words ws e (omega arith)
