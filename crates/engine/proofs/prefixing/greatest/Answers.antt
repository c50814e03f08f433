use Rattle.std.proofs.Common.{arith}
use Rattle.engine.proofs.EnteringCells.{cells_below, actions_below}
use Rattle.engine.proofs.Greatest.{nothing_scanned, scanned_on, all_scanned}
use Rattle.engine.proofs.prefixing.greatest.Goals as goal

pub cells-init : goal.cells-init
cells-init g c = nothing_scanned c.requires.present

pub cell-own-requires-clause-held : goal.cell-own-requires-clause-held
cell-own-requires-clause-held g c = (c.cells-test.true, cells_below _ _ c.requires.good _ c.cells.invariant.present)

pub action-whole-requires-clause-held : goal.action-whole-requires-clause-held
action-whole-requires-clause-held g c = actions_below _ _ c.requires.good _ c.cell-own.ensures.action_present

pub cells-preserved : goal.cells-preserved
cells-preserved g c =
    scanned_on g.met.K.WeightKind.lawful c.args.prefix.action.sets c.requires.weight c.requires.formed c.action-whole.result.sets c.cells.invariant c.cell-own.ensures c.action-whole.ensures c.with_cell-found.ensures

pub returns : goal.returns
returns g c = all_scanned c.cells.invariant (omega arith)
