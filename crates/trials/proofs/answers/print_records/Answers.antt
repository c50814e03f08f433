use Rattle.pages.proofs.Saying.{◌>>◌}
use Rattle.trials.proofs.answers.print_records.Goals as goal

pub returns : goal.returns
returns c =
    c.push_str.ensures
    >> c.print.ensures >> c.push.ensures >> c.print-2.ensures >> c.push-2.ensures >> c.print-3.ensures >> c.push-3.ensures
