use Rattle.pages.proofs.Saying.{◌>>◌}
use Rattle.lines.proofs.SpacedHexPrint.print.Goals as goal

pub returns : goal.returns
returns c = c.push.ensures >> c.print.ensures
