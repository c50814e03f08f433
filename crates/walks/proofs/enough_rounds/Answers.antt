use Rattle.std.proofs.Common.{refl}
use Rattle.walks.proofs.Walks.{rounds}
use Rattle.walks.proofs.enough_rounds.Goals as goal

pub returns-then-others-limit : goal.returns-then-others-limit
returns-then-others-limit g c =
    record {
      some = (
        refl,
        c.if-others-limit.true,
        λ same step weighed. rounds g.met.K.WeightKind.lawful same step weighed c.args.others,
      );
      none = tt;
    }
