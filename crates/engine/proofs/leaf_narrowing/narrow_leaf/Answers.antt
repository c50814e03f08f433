use Rattle.faults.proofs.PassedOn.{passed_on}
use Rattle.engine.proofs.LeafRules.{here}
use Rattle.engine.proofs.LeafMerges.{leaf_formed_at, narrowed_formed, narrowed_done, along}
use Rattle.engine.proofs.leaf_narrowing.narrow_leaf.Goals as goal

pub merge-requires-clause-formed : goal.merge-requires-clause-formed
merge-requires-clause-formed g c =
    narrowed_formed g.met.K.WeightKind.lawful _ (leaf_formed_at (here c.args.counts.now c.args.stores.now) c.requires.leaves c.args.first.number c.requires.present) c.args.test

pub returns-in_err-leaf-clause-done : goal.returns-in_err-leaf-clause-done
returns-in_err-leaf-clause-done g c =
    let h = leaf_formed_at (here c.args.counts.now c.args.stores.now) c.requires.leaves c.args.first.number c.requires.present in
    along (passed_on c.from_residual.ensures.1) (narrowed_done g.met.K.WeightKind.lawful _ h c.args.test c.in_err-leaf.ensures.done)

pub returns-clause-done : goal.returns-clause-done
returns-clause-done g c =
    let h = leaf_formed_at (here c.args.counts.now c.args.stores.now) c.requires.leaves c.args.first.number c.requires.present in
    narrowed_done g.met.K.WeightKind.lawful _ h c.args.test c.in_ok-leaf.ensures.done
