use Rattle.engine.proofs.SimpleRules.{set_done}
use Rattle.engine.proofs.compiling.set_word.Goals as goal

pub returns-clause-done : goal.returns-clause-done
returns-clause-done g c = set_done c.requires.good c.setting-action.ensures c.one.ensures.value c.single.ensures.done
