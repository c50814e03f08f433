use Rattle.laws.proofs.Laws.{negate_is_not_lem}
use Rattle.laws.proofs.negate_is_not.Goals as goal

pub returns : goal.returns
returns c = negate_is_not_lem
