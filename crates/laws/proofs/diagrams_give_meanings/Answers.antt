use Rattle.laws.proofs.Laws.{diagrams_give_meanings_lem}
use Rattle.laws.proofs.diagrams_give_meanings.Goals as goal

pub returns : goal.returns
returns c = diagrams_give_meanings_lem
