use Rattle.pages.proofs.Saying.{◌>>◌}
use Rattle.faults.proofs.ShownPrint.print.Goals as goal

pub returns : goal.returns
returns c =
    c.push_str.ensures
    >> c.print.ensures
    >> c.push_str-2.ensures
    >> c.print-2.ensures
    >> c.push_str-3.ensures
    >> c.print-3.ensures
    >> c.push.ensures
