use Rattle.std.proofs.Common.{ℕ, replicate, Ok, Err, ap}
use lib.ListN.{length-replicate}
use Rattle.faults.specs.Lines.{refused_line}
use Rattle.faults.specs.Shows.{compile_shown}
use Rattle.format.specs.Limits.{words_limit}
use Rattle.checking.specs.Checked.{policy_words}
use Rattle.policy.proofs.Verdicts.{verdict}
use Rattle.pages.proofs.Saying.{says_of_eq}
use Rattle.reports.specs.Lines.{accepted_record}
use Rattle.reports.specs.Reports.{accepted, refused}
use Rattle.reports.proofs.print_report.Goals as goal

pub returns-in-Ok : goal.returns-in-Ok
returns-in-Ok c =
    let text = c.args.text.now
    in let is = verdict text (replicate words_limit 0) c.read_policy.new.memory (length-replicate {A = ℕ} words_limit 0) (Ok c.in-Ok.policy) c.in-Ok.ensures
    in (
      accepted_record text (policy_words c.in-Ok.policy),
      accepted is.0 is.1,
      says_of_eq (ap (accepted_record text) c.words-words.ensures.same) c.print.ensures,
    )

pub returns-in-Err : goal.returns-in-Err
returns-in-Err c =
    let text = c.args.text.now
    in let is = verdict text (replicate words_limit 0) c.read_policy.new.memory (length-replicate {A = ℕ} words_limit 0) (Err c.in-Err.fault) c.in-Err.ensures
    in (
      refused_line (compile_shown c.in-Err.fault),
      refused is,
      says_of_eq (ap refused_line c.from.ensures) c.print-in-Err.ensures,
    )
