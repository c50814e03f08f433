use Rattle.std.proofs.Common.{sym, ap, ◌++◌, ◌∙◌, subst, arith}
use Rattle.grammar.specs.Outlines.{Stacked, not_words}
use Rattle.grammar.proofs.Appending.{emitted_then, emitted_words}
use Rattle.grammar.proofs.Outlining.{stacked_depth, completed_outline}
use Rattle.grammar.proofs.machine.Machine.operand.Goals as goal

pub returns : goal.returns
returns c = λ p e g o r.
    let done = c.complete.ensures.settled g.frames (subst (Stacked g.frames) (sym c.emit.ensures.kept.stack) o.stacked) in (
      completed_outline g.frames p _ c.complete.ensures.mode (c.complete.ensures.level ∙ c.emit.ensures.kept.level ∙ o.level) (omega (arith, stacked_depth g.frames _ o.stacked, o.within)) done.0,
      emitted_words (ap (λ x. x ++ not_words g.frames) (sym e)) (emitted_then c.emit.ensures.emitted done.1),
    )
