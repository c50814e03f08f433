use Rattle.std.proofs.Common.{length, ap, arith}
use Rattle.engine.proofs.NarrowRules.{here}
use Rattle.engine.proofs.Reading.{leaf_counted, action_counted}
use Rattle.engine.proofs.InTurn.{putting_start, putting_room, putting_more, putting_end, cells_first, cells_none}
use Rattle.engine.proofs.putting.put_cells.Goals as goal

pub cells-init : goal.cells-init
cells-init c = (c.requires.present, putting_start _ _)

pub cell-own-requires-clause-held : goal.cell-own-requires-clause-held
cell-own-requires-clause-held c = (omega arith, leaf_counted _ _ c.requires.good _ c.cells.invariant.0)

pub action-requires-clause-held : goal.action-requires-clause-held
action-requires-clause-held c = let h = c.cell-own.ensures.action_present in (h.0, action_counted _ _ c.requires.good _ h.1)

pub put_cell-requires : goal.put_cell-requires
put_cell-requires c = putting_room c.cells.invariant.1 (cells_first c.cell-own.ensures c.action.ensures) c.requires.room

pub cells-smaller : goal.cells-smaller
cells-smaller c = let e = ap length c.cell-own.ensures.itself in omega (arith, e)

pub cells-preserved : goal.cells-preserved
cells-preserved c = (c.cell-own.ensures.rest_present, putting_more c.cells.invariant.1 (cells_first c.cell-own.ensures c.action.ensures) c.put_cell.ensures)

pub returns : goal.returns
returns c = putting_end c.cells.invariant.1 (cells_none (here c.args.counts.now c.args.stores.now) c.cells.rest.number (omega (arith, c.cells-test.false)))
