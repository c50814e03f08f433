use Rattle.std.proofs.Common.{ap}
use Rattle.pages.proofs.Saying.{◌>>◌}
use Rattle.lines.specs.Lines.{table_word_said}
use Rattle.lines.proofs.TablePrint.print.Goals as goal

pub returns : goal.returns
returns c =
    c.push_str.ensures
    >> c.print.ensures
    >> c.push_str-2.ensures
    >> c.print_each.ensures table_word_said (λ _ _ e. ap table_word_said e)
