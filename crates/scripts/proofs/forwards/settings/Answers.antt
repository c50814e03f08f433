use Rattle.std.proofs.Common.{ap, sym, ◌∙◌}
use Rattle.scripts.specs.Forwards.{settings_said}
use Rattle.scripts.specs.Words.{words}
use Rattle.scripts.proofs.Settings.{no_setting, a_setting}
use Rattle.scripts.proofs.forwards.settings.Goals as goal

pub loop-said-init : goal.loop-said-init
loop-said-init c = ap (λ s. settings_said s (words c.args.text.now)) c.blank-frame.ensures

pub returns-in_err-setting : goal.returns-in_err-setting
returns-in_err-setting c =
    let none = no_setting c.loop-said.frame.values c.in-Some.said.now (words c.in-Some.behind.now) c.in_err-setting.ensures in
    rw c.from_residual.ensures (sym none ∙ ap (settings_said c.loop-said.frame.values) (sym c.in-Some.ensures.words) ∙ c.loop-said.invariant)

pub loop-said-preserved : goal.loop-said-preserved
loop-said-preserved c =
    let set = c.in_ok-setting.field-0 in
    let some' = a_setting c.loop-said.frame.values c.in-Some.said.now (words c.in-Some.behind.now) set.field set.value c.in_ok-setting.ensures in
    ap (λ s. settings_said s (words c.in-Some.behind.now)) c.with-frame.ensures
    ∙ sym some' ∙ ap (settings_said c.loop-said.frame.values) (sym c.in-Some.ensures.words) ∙ c.loop-said.invariant

pub returns : goal.returns
returns c = ap (settings_said c.loop-said.frame.values) (sym c.in_default.ensures.words) ∙ c.loop-said.invariant
