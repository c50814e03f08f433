use Rattle.laws.proofs.Laws.{one_meaning}
use Rattle.laws.proofs.a_policy_has_one_meaning.Goals as goal

pub returns : goal.returns
returns c = one_meaning
