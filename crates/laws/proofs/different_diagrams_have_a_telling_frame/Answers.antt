use Rattle.laws.proofs.Laws.{told}
use Rattle.laws.proofs.different_diagrams_have_a_telling_frame.Goals as goal

pub returns : goal.returns
returns c = told
