use Rattle.engine.proofs.EnteringCells.{slot_cell, read_cell}
use Rattle.engine.proofs.enter.cell.Goals as goal

pub returns : goal.returns
returns c =
    let r = c.requires in
    read_cell _ r.good.sound c.args.number.number _ (slot_cell c.args.counts.now c.args.stores.now r.good c.args.number.number c.index-stores-number.result r.held.0 r.held.1)
