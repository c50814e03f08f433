use Rattle.std.proofs.Common.{◌≡◌, ap, ◌∙◌, take, length}
use Rattle.std.proofs.lemmas.List.{take_min}
use Rattle.pages.proofs.Saying.{◌>>◌, says_of_eq}
use Rattle.replays.specs.Replays.{emit_lines}
use Rattle.trials.proofs.answers.print_written.Goals as goal

pub returns : goal.returns
returns c =
    let part : take c.min.result c.args.part.now ≡ take c.args.count c.args.part.now =
    ap (λ n. take n c.args.part.now) c.min.ensures ∙ take_min c.args.count c.args.part.now in
    c.push_str.ensures >> c.print.ensures >> c.push_str-2.ensures >> says_of_eq (ap emit_lines part) c.print-2.ensures
