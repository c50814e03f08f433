use Rattle.std.proofs.Common.{ap}
use Rattle.pages.proofs.Saying.{◌>>◌}
use Rattle.lines.specs.Lines.{spaced_hex, frame_word_said}
use Rattle.lines.proofs.LinePrint.print.Goals as goal

pub returns : goal.returns
returns c =
    c.push_str.ensures
    >> c.print_each.ensures spaced_hex (λ _ _ e. ap spaced_hex e)
    >> c.push.ensures
    >> c.print_each-2.ensures frame_word_said (λ _ _ e. ap frame_word_said e)
    >> c.push-2.ensures
