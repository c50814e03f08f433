use Rattle.std.proofs.Common.{◌≡◌, ◌++◌, sym, ap, ◌∙◌}
use Rattle.scripts.specs.Lines.{asked}
use Rattle.scripts.specs.Scripts.{frame_of}
use Rattle.scripts.proofs.scripts.take_call.Goals as goal

pub returns-in-Call-clause-call : goal.returns-in-Call-clause-call
returns-in-Call-clause-call c said more e f =
    let says = rw c.in-Call.is at c.in_ok-read_line.ensures.says in
    let frameless = rw c.in-Call.is at c.in_ok-read_line.ensures.frameless in
    let same : asked c.in-Call.call ≡ said = cc (says, e) in
    (same, f ∙ ap (λ ws. ws ++ more) (ap frame_of (sym same) ∙ frameless.0))
