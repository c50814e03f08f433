use Rattle.std.proofs.Common.{arith}
use Rattle.std.proofs.lemmas.Grind.{common_steps}
use Rattle.policy.proofs.OneAnswer.{only_answer}
use Rattle.policy.proofs.reader.read.Goals as goal

pub returns-clause-only : goal.returns-clause-only
returns-clause-only c = only_answer _ _ _ _ (grind (arith, common_steps))
