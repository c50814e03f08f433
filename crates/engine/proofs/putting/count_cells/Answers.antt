use Rattle.std.proofs.Common.{length, ap, arith}
use Rattle.engine.proofs.Reading.{leaf_counted}
use Rattle.engine.proofs.putting.count_cells.Goals as goal

pub cells-init : goal.cells-init
cells-init c = (c.requires.present, omega arith)

pub cell-requires-clause-held : goal.cell-requires-clause-held
cell-requires-clause-held c = (omega arith, leaf_counted _ _ c.requires.good _ c.cells.invariant.0)

pub cells-smaller : goal.cells-smaller
cells-smaller c = let e = ap length c.cell.ensures.itself in omega (arith, e)

pub cells-preserved : goal.cells-preserved
cells-preserved c = let e = ap length c.cell.ensures.itself in let b = c.cells.invariant.1 in (c.cell.ensures.rest_present, omega (arith, e, b))
