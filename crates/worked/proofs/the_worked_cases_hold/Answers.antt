use Rattle.worked.proofs.Computed.{worked_cases}
use Rattle.worked.proofs.the_worked_cases_hold.Goals as goal

pub returns : goal.returns
returns c = worked_cases
