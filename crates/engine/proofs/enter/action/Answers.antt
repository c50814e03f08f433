use Rattle.engine.proofs.EnteringCells.{slot_action, action_there}
use Rattle.engine.proofs.enter.action.Goals as goal

pub returns : goal.returns
returns c =
    let r = c.requires in
    action_there _ _ r.good c.args.number.number _ (slot_action c.args.counts.now c.args.stores.now r.good c.args.number.number c.index-stores-number.result r.held.0 r.held.1)
