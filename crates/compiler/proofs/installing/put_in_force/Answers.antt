use Rattle.faults.proofs.PassedOn.{passed_on}
use Rattle.compiler.proofs.Outcomes.{no_table, outcome}
use Rattle.compiler.proofs.installing.put_in_force.Goals as goal

pub returns-in_err-word : goal.returns-in_err-word
returns-in_err-word g c = λ fresh. rw (passed_on c.from_residual.ensures.1) (no_table fresh c.in_err-word.ensures)

pub returns : goal.returns
returns g c = λ fresh. outcome fresh c.install.result c.in_ok-word.ensures c.install.ensures
