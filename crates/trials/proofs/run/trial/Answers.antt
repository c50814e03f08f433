use Rattle.trials.proofs.Within.{within}
use Rattle.trials.proofs.run.trial.Goals as goal

pub returns-in-Reach-clause-within : goal.returns-in-Reach-clause-within
returns-in-Reach-clause-within c = within c.try_script.ensures

pub returns-in-Cost-clause-within : goal.returns-in-Cost-clause-within
returns-in-Cost-clause-within c = within c.try_script-in-Cost.ensures
