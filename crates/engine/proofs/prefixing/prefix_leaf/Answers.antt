use Rattle.faults.proofs.PassedOn.{passed_on}
use Rattle.engine.specs.Leaves.{leaf_at}
use Rattle.engine.proofs.Composing.{kept_trans}
use Rattle.engine.proofs.LeafRules.{here}
use Rattle.engine.proofs.LeafMerges.{leaf_formed_at, action_formed}
use Rattle.engine.proofs.Prefixed.{prefix_formed, nothing_selected, all_selected, next_formed, next_shorter, next_selected, next_refused, source_stays, seen}
use Rattle.engine.proofs.prefixing.prefix_leaf.Goals as goal

pub cells-init : goal.cells-init
cells-init g c = nothing_selected c.no_cell-made.ensures c.requires.good c.requires.leaves

pub put_on-requires-clause-formed : goal.put_on-requires-clause-formed
put_on-requires-clause-formed g c =
    let r = c.requires in
    let f = prefix_formed g.met.K.WeightKind.lawful (leaf_at (here c.args.counts.now c.args.stores.now) c.args.first.number) (action_formed c.args.prefix.action) r.weight (leaf_formed_at (here c.args.counts.now c.args.stores.now) r.leaves c.args.first.number r.present) in
    let q = seen c.args.prefix.action.sets c.args.prefix.weight c.args.first.number c.cells.invariant r.present c.greatest.ensures c.in-Some.is in
    next_formed c.cells.invariant f q

pub returns-in_err-made-clause-done : goal.returns-in_err-made-clause-done
returns-in_err-made-clause-done g c =
    let r = c.requires in
    let f = prefix_formed g.met.K.WeightKind.lawful (leaf_at (here c.args.counts.now c.args.stores.now) c.args.first.number) (action_formed c.args.prefix.action) r.weight (leaf_formed_at (here c.args.counts.now c.args.stores.now) r.leaves c.args.first.number r.present) in
    let q = seen c.args.prefix.action.sets c.args.prefix.weight c.args.first.number c.cells.invariant r.present c.greatest.ensures c.in-Some.is in
    next_refused c.cells.invariant f q r.good c.in_err-made.ensures.done (passed_on c.from_residual.ensures.1)

pub returns-in_err-made-clause-kept : goal.returns-in_err-made-clause-kept
returns-in_err-made-clause-kept g c = kept_trans c.cells.invariant.kept c.put_on.ensures.kept

pub cells-smaller : goal.cells-smaller
cells-smaller g c =
    let r = c.requires in
    let f = prefix_formed g.met.K.WeightKind.lawful (leaf_at (here c.args.counts.now c.args.stores.now) c.args.first.number) (action_formed c.args.prefix.action) r.weight (leaf_formed_at (here c.args.counts.now c.args.stores.now) r.leaves c.args.first.number r.present) in
    let q = seen c.args.prefix.action.sets c.args.prefix.weight c.args.first.number c.cells.invariant r.present c.greatest.ensures c.in-Some.is in
    next_shorter c.cells.invariant f q

pub cells-preserved : goal.cells-preserved
cells-preserved g c =
    let r = c.requires in
    let f = prefix_formed g.met.K.WeightKind.lawful (leaf_at (here c.args.counts.now c.args.stores.now) c.args.first.number) (action_formed c.args.prefix.action) r.weight (leaf_formed_at (here c.args.counts.now c.args.stores.now) r.leaves c.args.first.number r.present) in
    let q = seen c.args.prefix.action.sets c.args.prefix.weight c.args.first.number c.cells.invariant r.present c.greatest.ensures c.in-Some.is in
    next_selected c.cells.invariant f q r.good c.in_ok-made.ensures.done c.in_ok-made.ensures.kept c.in_ok-made.ensures.leaves

pub returns-clause-done : goal.returns-clause-done
returns-clause-done g c = all_selected c.cells.invariant (seen c.args.prefix.action.sets c.args.prefix.weight c.args.first.number c.cells.invariant c.requires.present c.greatest.ensures c.in_default.is)

pub greatest-requires-clause-formed : goal.greatest-requires-clause-formed
greatest-requires-clause-formed g c =
    let m = c.cells.invariant in
    leaf_formed_at (here c.cells.counts c.cells.stores) m.leaves c.args.first.number (source_stays m c.args.first.number c.requires.present).0
