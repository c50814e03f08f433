use Rattle.pages.proofs.Saying.{◌>>◌}
use Rattle.trials.proofs.answers.print_record.Goals as goal

pub returns : goal.returns
returns c = c.print_answers.ensures >> c.print_records.ensures >> c.print.ensures
