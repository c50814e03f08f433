use Rattle.std.proofs.Common.{sym, ◌∙◌}
use Rattle.pages.proofs.Saying.{◌>>◌, printed}
use Rattle.trials.proofs.run.tell_no_call.Goals as goal

pub returns : goal.returns
returns c =
    let says = c.push_str.ensures >> c.print.ensures >> c.push_str-2.ensures
    in let out = c.out-1.given.1.1 (sym (says.lender ∙ c.new-page.ensures.lender)) ∙ c.finish.ensures.memory
    in printed c.new-page.ensures.said c.new-page.ensures.memory says c.finish.ensures.answer (sym out)
