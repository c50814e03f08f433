use Rattle.std.proofs.Common.{ℕ, Option, length, ap, sym, subst, arith}
use Rattle.engine.specs.Listing.{Fits, cells_words}
use Rattle.engine.specs.Puts.{cells_from}
use Rattle.engine.proofs.NarrowRules.{here}
use Rattle.engine.proofs.Reading.{leaf_counted, action_counted}
use Rattle.engine.proofs.InTurn.{fitting_start, fitting_stop, fitting_more, fitting_end, cells_first, cells_none}
use Rattle.engine.proofs.fitting.cells_fit.Goals as goal

pub cells-init : goal.cells-init
cells-init c = (c.requires.present, fitting_start _ _)

pub cell-own-requires-clause-held : goal.cell-own-requires-clause-held
cell-own-requires-clause-held c = (omega arith, leaf_counted _ _ c.requires.good _ c.cells.invariant.0)

pub action-requires-clause-held : goal.action-requires-clause-held
action-requires-clause-held c = let h = c.cell-own.ensures.action_present in (h.0, action_counted _ _ c.requires.good _ h.1)

pub returns-in_err-left : goal.returns-in_err-left
returns-in_err-left c =
    subst (λ (r : Option ℕ). Fits c.args.room (cells_words (cells_from c.args.counts.now c.args.stores.now c.args.first)) r) (sym c.from_residual.ensures)
    (fitting_stop c.cells.invariant.1 (cells_first c.cell-own.ensures c.action.ensures) (c.in_err-left.ensures c.cell-own.result.weight.number))

pub cells-smaller : goal.cells-smaller
cells-smaller c = let e = ap length c.cell-own.ensures.itself in omega (arith, e)

pub cells-preserved : goal.cells-preserved
cells-preserved c = (c.cell-own.ensures.rest_present, fitting_more c.cells.invariant.1 (cells_first c.cell-own.ensures c.action.ensures) c.in_ok-left.left (c.in_ok-left.ensures c.cell-own.result.weight.number))

pub returns : goal.returns
returns c = fitting_end c.cells.invariant.1 (cells_none (here c.args.counts.now c.args.stores.now) c.cells.rest.number (omega (arith, c.cells-test.false)))
