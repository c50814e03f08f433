use Rattle.engine.proofs.JoinRules.{at_the_root, at_no_root}
use Rattle.engine.proofs.joining.at.Goals as goal

pub returns-in-Some-clause-done : goal.returns-in-Some-clause-done
returns-in-Some-clause-done g c = at_the_root c.requires.good c.in-Some.ensures

pub returns-in-None-clause-done : goal.returns-in-None-clause-done
returns-in-None-clause-done g c = at_no_root c.requires.good c.in-None.ensures c.narrow.ensures.done
