use Rattle.std.proofs.Common.{sym, ap, subst, ◌∙◌, arith}
use Rattle.std.proofs.lemmas.Option.{none-some}
use Rattle.scripts.proofs.Progress.{lines_left}
use Rattle.scripts.proofs.Retrieving.{Retrieved, none, some, begun, turn}
use Rattle.scripts.proofs.scripts.read_calls.Goals as goal
use Rattle.scripts.proofs.scripts.read_calls.Goals.{then-count-calls, else-count-calls}

pub loop-rest-init : goal.loop-rest-init
loop-rest-init c cs more e f = begun cs more _ c.args.frames.now c.args.calls.now e f

pub loop-rest-preserved-after-count-calls : goal.loop-rest-preserved-after-count-calls
loop-rest-preserved-after-count-calls c cs more e f =
    let inv = subst (λ ls. Retrieved cs more ls c.loop-rest.unread.now c.loop-rest.count c.loop-rest.calls) (ap lines_left c.in-Some.is ∙ c.cut.ensures.split) (c.loop-rest.invariant cs more e f) in
    elim (turn inv (omega arith)) [
      | none said _ ↦ absurd (none-some _ (sym (c.in-Some-take_call.ensures.nothing said)))
      | some asks others said unread go ↦
          let got = c.in-Some-take_call.ensures.call asks others said unread in
          let next = go c.in-Some-take_call.call got.0 c.saturating_add-count.result c.saturating_add-count.ensures in
          let more_read = elim c.if-count-calls.branch as (λ _. Retrieved cs more (lines_left c.cut.result.1) others c.saturating_add-count.result c.if-count-calls.calls) [
            | then-count-calls w ↦ rw w.calls-is (next.0 w.if-count-calls.true)
            | else-count-calls w ↦ rw w.calls-is (next.1 w.if-count-calls.false)
          ] in
          subst (λ ws. Retrieved cs more (lines_left c.cut.result.1) ws c.saturating_add-count.result c.if-count-calls.calls) (sym got.1) more_read
    ]

pub loop-rest-preserved : goal.loop-rest-preserved
loop-rest-preserved c cs more e f =
    let inv = subst (λ ls. Retrieved cs more ls c.loop-rest.unread.now c.loop-rest.count c.loop-rest.calls) (ap lines_left c.in-Some.is ∙ c.cut.ensures.split) (c.loop-rest.invariant cs more e f) in
    elim (turn inv (omega arith)) [
      | none said left ↦ left
      | some asks others said unread go ↦ absurd (c.in_default-take_call.ensures.call asks others said unread)
    ]
