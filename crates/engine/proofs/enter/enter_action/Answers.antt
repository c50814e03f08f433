use Rattle.std.proofs.Common.{refl}
use Rattle.engine.proofs.EnteringCells.{action_done}
use Rattle.engine.proofs.enter.enter_action.Goals as goal

pub returns-clause-done : goal.returns-clause-done
returns-clause-done c = action_done c.args.counts.now c.args.stores.now c.requires.good c.args.entry _ _ c.enter.result refl refl refl refl c.enter.ensures.answer
