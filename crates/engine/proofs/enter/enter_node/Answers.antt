use Rattle.std.proofs.Common.{refl}
use Rattle.faults.proofs.PassedOn.{passed_on}
use Rattle.engine.proofs.Entering.{node_made, node_refused}
use Rattle.engine.proofs.enter.enter_node.Goals as goal

pub returns-in_err-number-clause-done : goal.returns-in_err-number-clause-done
returns-in_err-number-clause-done c =
    let r = c.requires in
    let h = c.in_err-number.ensures.answer in
    node_refused c.args.counts.now c.args.stores.now r.good c.args.entry r.yes r.no _ _ (passed_on c.from_residual.ensures.1) h.0 h.1.no_room

pub returns-clause-done : goal.returns-clause-done
returns-clause-done c =
    let r = c.requires in
    node_made c.args.counts.now c.args.stores.now r.good c.args.entry r.yes r.no _ _ c.in_ok-number.number refl refl refl refl c.in_ok-number.ensures.answer
