use Rattle.std.proofs.Common.{sym, ap, ◌∙◌}
use Rattle.actions.specs.declared.actions.Action.{Action}
use Rattle.actions.proofs.Alike.{actions_alike}
use Rattle.engine.proofs.Reading.{action_counted}
use Rattle.engine.proofs.prefixing.keeps_all.Goals as goal

pub action-requires-clause-held : goal.action-requires-clause-held
action-requires-clause-held g c = (c.requires.action.0, action_counted _ _ c.requires.good _ c.requires.action.1)

pub returns : goal.returns
returns g c =
    let weight = c.if-weight-one.false ∙ c.one.ensures.value in
    let kept = c.keep_all.ensures in
    let read = c.action.ensures in
    (λ t. (sym read ∙ (ap (λ (a : Action). a.sets) (c.same.ensures.0 t) ∙ kept), weight), λ p. c.same.ensures.1 (actions_alike _ _ (read ∙ (p.0 ∙ sym kept))))
