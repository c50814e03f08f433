use Rattle.laws.proofs.Laws.{make_keeps}
use Rattle.laws.proofs.make_keeps_weights.Goals as goal

pub returns : goal.returns
returns c = make_keeps
