use Rattle.laws.proofs.Laws.{diagrams_decide}
use Rattle.laws.proofs.equal_diagrams_exactly_for_equal_meanings.Goals as goal

pub returns : goal.returns
returns c = diagrams_decide
