use Rattle.std.proofs.Common.{refl}
use lib.Bits.{or_lt}
use Rattle.std.proofs.lemmas.Bool.{ltb-true, lt-ltb}
use Rattle.cases_weights.proofs.PortsWeightKind.join.Goals as goal

pub returns : goal.returns
returns c =
    record {
      value = refl;
      weight = λ v w. lt-ltb _ _ (or_lt 16 c.args.a c.args.b (ltb-true _ _ v) (ltb-true _ _ w));
    }
