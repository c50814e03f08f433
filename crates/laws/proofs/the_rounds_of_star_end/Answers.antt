use Rattle.laws.proofs.Laws.{the_rounds_end}
use Rattle.laws.proofs.the_rounds_of_star_end.Goals as goal

pub returns : goal.returns
returns c = the_rounds_end
