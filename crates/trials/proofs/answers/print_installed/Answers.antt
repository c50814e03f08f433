use Rattle.pages.proofs.Saying.{◌>>◌}
use Rattle.trials.proofs.answers.print_installed.Goals as goal

pub returns : goal.returns
returns c part = c.push_str.ensures >> c.print.ensures >> c.push_str-2.ensures
