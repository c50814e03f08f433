use Rattle.std.proofs.Common.{refl, arith}
use Rattle.std.proofs.lemmas.Bool.Decides.{not_from_Decides}
use Rattle.engine.proofs.EnteringCells.{cells_below, actions_below}
use Rattle.engine.proofs.Negated.{denied}
use Rattle.engine.proofs.Unchanged.{sought_first, sought_here, sought_on, sought_end}
use Rattle.engine.proofs.leaf_narrowing.leaf_changes.Goals as goal

pub cells-init : goal.cells-init
cells-init c = sought_first c.requires.present

pub cell-own-requires-clause-held : goal.cell-own-requires-clause-held
cell-own-requires-clause-held c = (c.cells-test.true, cells_below _ _ c.requires.good _ c.cells.invariant.present)

pub action-whole-requires-clause-held : goal.action-whole-requires-clause-held
action-whole-requires-clause-held c = actions_below _ _ c.requires.good _ c.cell-own.ensures.action_present

pub returns-then-changes : goal.returns-then-changes
returns-then-changes c = (λ t. sought_here c.cells.invariant c.cell-own.ensures c.action-whole.ensures (c.changes.ensures.0 c.if-changes.true), λ p. refl)

pub cells-preserved : goal.cells-preserved
cells-preserved c = sought_on c.cells.invariant c.cell-own.ensures c.action-whole.ensures (not_from_Decides _ c.changes.ensures c.if-changes.false)

pub returns : goal.returns
returns c = denied (sought_end c.cells.invariant (omega arith))
