use Rattle.std.proofs.Common.{ap, ◌∙◌}
use Rattle.pages.proofs.Saying.{◌>>◌, says_of_eq}
use Rattle.reports.specs.Lines.{kind_name}
use Rattle.reports.proofs.WordLinePrint.print.Goals as goal

pub returns : goal.returns
returns c =
    let (kind, field, value) = c.from.ensures
    in c.push_str.ensures
    >> c.print.ensures
    >> c.push.ensures
    >> says_of_eq (c.kind_name.ensures ∙ ap kind_name kind) c.push_str-2.ensures
    >> c.print_details.ensures
    >> c.push-2.ensures
