use Rattle.steps.proofs.Progress.{every_call}
use Rattle.steps.proofs.every_call_is_decided.Goals as goal

pub returns : goal.returns
returns c = record { decided = every_call }
