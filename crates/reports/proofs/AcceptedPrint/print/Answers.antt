use Rattle.std.proofs.Common.{ap}
use Rattle.pages.proofs.Saying.{◌>>◌}
use Rattle.reports.specs.Lines.{word_line}
use Rattle.reports.proofs.AcceptedPrint.print.Goals as goal

pub returns : goal.returns
returns c =
    c.push_str.ensures
    >> c.print.ensures
    >> c.push_str-2.ensures
    >> c.print_each.ensures word_line (λ _ _ e. ap word_line e)
    >> c.push_str-3.ensures
    >> c.print-2.ensures
    >> c.push_str-4.ensures
