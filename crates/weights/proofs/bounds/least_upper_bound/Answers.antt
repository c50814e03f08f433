use Rattle.std.proofs.Common.{sym, subst, rules}
use Rattle.weights.specs.Order.{Lub, two}
use Rattle.weights.proofs.Order.{join_lub}
use Rattle.weights.proofs.bounds.least_upper_bound.Goals as goal

pub returns : goal.returns
returns g c =
    record {
      some = (
        search rules,
        subst (Lub g.K.WeightKind.ops (two c.args.a c.args.b)) (sym c.join.ensures.value)
            (join_lub g.met.K.WeightKind.lawful c.args.a c.args.b (search rules) (search rules)),
      );
      none = tt;
    }
