use Rattle.pages.proofs.Saying.{◌>>◌}
use Rattle.trials.proofs.answers.print_numbered.Goals as goal

pub returns : goal.returns
returns c = c.print.ensures >> c.push.ensures >> c.print_answer.ensures
