use Rattle.std.proofs.Common.{sym, ◌∙◌}
use Rattle.pages.proofs.Saying.{printed, printed_within}
use Rattle.reports.proofs.Once.{only_report}
use Rattle.reports.proofs.report.Goals as goal

pub returns-clause-record : goal.returns-clause-record
returns-clause-record c =
    let told = c.print_report.ensures
    in let blank = c.new-page.ensures
    in let end = c.finish.ensures
    in let out = c.out-1.given.1.1 (sym (told.2.lender ∙ blank.lender)) ∙ end.memory
    in (told.0, told.1, printed blank.said blank.memory told.2 end.answer (sym out))

pub returns-clause-only : goal.returns-clause-only
returns-clause-only c = only_report _ _ _ _ (returns-clause-record c)

pub returns-clause-within : goal.returns-clause-within
returns-clause-within c = printed_within (returns-clause-record c).2
