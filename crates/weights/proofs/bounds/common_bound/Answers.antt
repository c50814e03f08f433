use Rattle.weights.proofs.Order.{lub_unique}
use Rattle.weights.proofs.bounds.common_bound.Goals as goal

pub returns-else-a-b : goal.returns-else-a-b
returns-else-a-b g c =
    record {
      some = tt;
      none = λ f p q. c.if-a-b.false (lub_unique g.met.K.WeightKind.lawful f p q);
    }
