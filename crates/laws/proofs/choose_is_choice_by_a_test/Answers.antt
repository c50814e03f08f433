use Rattle.laws.proofs.Laws.{choose_is_choice}
use Rattle.laws.proofs.choose_is_choice_by_a_test.Goals as goal

pub returns : goal.returns
returns c = choose_is_choice
