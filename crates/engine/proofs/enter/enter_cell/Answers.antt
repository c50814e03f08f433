use Rattle.std.proofs.Common.{refl}
use Rattle.engine.proofs.EnteringCells.{cell_done}
use Rattle.engine.proofs.enter.enter_cell.Goals as goal

pub returns-clause-done : goal.returns-clause-done
returns-clause-done c =
    let r = c.requires in
    cell_done c.args.counts.now c.args.stores.now r.good c.args.entry r.action r.rest _ _ c.enter.result refl refl refl refl c.enter.ensures.answer
