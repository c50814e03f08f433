-- A text has one record, and it leaves one memory.
use Rattle.std.proofs.Common.{◌≡◌, ℕ, List, Result, ap, subst}
use Rattle.faults.specs.Lines.{refused_line}
use Rattle.faults.specs.Shows.{compile_shown}
use Rattle.policy.proofs.Verdicts.{one_reading, read_or_not, one_fault}
use Rattle.pages.specs.Pages.{Printed, PrintedSome}
use Rattle.pages.proofs.Saying.{printed_once}
use Rattle.reports.specs.Lines.{accepted_record}
use Rattle.reports.specs.Reports.{Tells, accepted, refused, OnlyReport}

one_record : {text bytes also : List ℕ} → Tells text bytes → Tells text also → bytes ≡ also
one_record {text} (accepted r a) (accepted q b) = ap (accepted_record text) (one_reading r q)
one_record (accepted r a) (refused n) = absurd (read_or_not r a n)
one_record (refused n) (accepted r a) = absurd (read_or_not r a n)
one_record (refused n) (refused m) = ap (λ f. refused_line (compile_shown f)) (one_fault n m)

pub only_report :
    (text was is : List ℕ) (r : Result ℕ ℕ) → PrintedSome (Tells text) was r is → OnlyReport text r was is
only_report text was is r (bytes, told, printed) q also (bytes', told', printed') =
    let same : bytes' ≡ bytes = one_record told' told
    in printed_once bytes was is also r q printed (subst (λ (b : List ℕ). Printed b was q also) same printed')
