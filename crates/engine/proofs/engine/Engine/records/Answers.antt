use Rattle.std.proofs.Common.{ℕ, length, ap, ◌∙◌}
use Rattle.stored.specs.Stored.{Holdings}
use Rattle.engine.proofs.Growing.{lengths}
use Rattle.engine.proofs.engine.Engine.records.Goals as goal

pub returns-clause-actions : goal.returns-clause-actions
returns-clause-actions g c = (lengths c.self.inside.counts c.self.inside.stores c.self.invariant.good).0 ∙ ap {B = ℕ} (λ (h : Holdings). length h.stored.actions) c.self.view_is

pub returns-clause-cells : goal.returns-clause-cells
returns-clause-cells g c = (lengths c.self.inside.counts c.self.inside.stores c.self.invariant.good).1 ∙ ap {B = ℕ} (λ (h : Holdings). length h.stored.leaves) c.self.view_is

pub returns-clause-nodes : goal.returns-clause-nodes
returns-clause-nodes g c = (lengths c.self.inside.counts c.self.inside.stores c.self.invariant.good).2 ∙ ap {B = ℕ} (λ (h : Holdings). length h.stored.nodes) c.self.view_is
