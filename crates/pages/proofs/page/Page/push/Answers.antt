use Rattle.std.proofs.Common.{ap, ◌∙◌}
use Rattle.pages.proofs.Onto.{set_past}
use Rattle.pages.proofs.Saying.{one}
use Rattle.pages.proofs.page.Page.push.Goals.{then-self, else-self}
use Rattle.pages.proofs.page.Page.push.Goals as goal

pub returns : goal.returns
returns c = elim c.if-self.branch [
  | then-self w ↦
      let count = c.saturating_add-self.ensures
      in one _ _ c.args.byte (rw w.self-is at count) (ap (λ s. s.1.0.now) w.self-is) (ap (λ s. s.1.0.ghost_name) w.self-is)
  | else-self w ↦
      let count = c.saturating_add-self.ensures
      in one _ _ c.args.byte (rw w.self-is at count) (ap (λ s. s.1.0.now) w.self-is ∙ set_past c.args.self.now.said c.args.byte _ w.if-self.false) (ap (λ s. s.1.0.ghost_name) w.self-is)
]
