use Rattle.laws.proofs.Laws.{narrow_keeps}
use Rattle.laws.proofs.narrow_keeps_weights.Goals as goal

pub returns : goal.returns
returns c = narrow_keeps
