use Rattle.laws.proofs.Laws.{prefix_goes_before_lem}
use Rattle.laws.proofs.prefix_goes_before.Goals as goal

pub returns : goal.returns
returns c = prefix_goes_before_lem
