use Rattle.std.proofs.Common.{decimal, ap}
use Rattle.pages.proofs.Saying.{◌>>◌, says_of_eq}
use Rattle.lines.proofs.print_weight.Goals as goal

pub returns : goal.returns
returns c =
    let (kind, field, value) = c.from.ensures
    in c.push_str.ensures >> says_of_eq (ap decimal value) c.print.ensures
