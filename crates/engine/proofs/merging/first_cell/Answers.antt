use Rattle.std.proofs.Common.{sym, ◌∙◌, arith}
use Rattle.engine.proofs.EnteringCells.{cells_below, actions_below}
use Rattle.engine.proofs.LeafRules.{here}
use Rattle.engine.proofs.Merged.{sift_shows, sift_hides, sift_end}
use Rattle.engine.proofs.merging.first_cell.Goals as goal

pub cell-found-requires-clause-held : goal.cell-found-requires-clause-held
cell-found-requires-clause-held c = (c.cells-test.true, cells_below _ _ c.requires.good _ c.cells.invariant.0)

pub action-whole-requires-clause-held : goal.action-whole-requires-clause-held
action-whole-requires-clause-held c = actions_below _ _ c.requires.good _ c.cell-found.ensures.action_present

pub returns-in-Some : goal.returns-in-Some
returns-in-Some c =
    let r = c.cell-found.ensures in
    record {
      whole = sym c.cells.invariant.1 ∙ sift_shows c.args.strand.view r c.action-whole.result c.action-whole.ensures c.shown.result c.shown.ensures c.in-Some.action c.in-Some.is;
      rest_present = r.rest_present;
    }

pub cells-preserved : goal.cells-preserved
cells-preserved c =
    let r = c.cell-found.ensures in
    (r.rest_present, sym (sift_hides c.args.strand.view r c.action-whole.result c.action-whole.ensures c.shown.result c.shown.ensures c.in_default.is) ∙ c.cells.invariant.1)

pub returns : goal.returns
returns c = sym c.cells.invariant.1 ∙ sift_end (here c.args.counts.now c.args.stores.now) c.args.strand.view c.cells.first.number (omega arith)
