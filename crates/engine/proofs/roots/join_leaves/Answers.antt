use Rattle.faults.proofs.PassedOn.{passed_on}
use Rattle.engine.proofs.LeafRules.{here}
use Rattle.engine.proofs.LeafMerges.{neither, leaf_word_only, leaf_formed_at, joined_formed, joined_done, along}
use Rattle.engine.proofs.roots.join_leaves.Goals as goal

pub merge-requires-clause-left : goal.merge-requires-clause-left
merge-requires-clause-left g c = (leaf_word_only c.args.left _ c.number.ensures c.requires.good c.requires.left (neither _ _ c.requires.no_test).0).0

pub merge-requires-clause-right : goal.merge-requires-clause-right
merge-requires-clause-right g c = (leaf_word_only c.args.right _ c.number-2.ensures c.requires.good c.requires.right (neither _ _ c.requires.no_test).1).0

pub merge-requires-clause-formed : goal.merge-requires-clause-formed
merge-requires-clause-formed g c =
    let r = c.requires in
    let e = neither _ _ r.no_test in
    let a = leaf_word_only c.args.left c.number.result c.number.ensures r.good r.left e.0 in
    let b = leaf_word_only c.args.right c.number-2.result c.number-2.ensures r.good r.right e.1 in
    let f = leaf_formed_at (here c.args.counts.now c.args.stores.now) r.leaves in
    let h = f c.number.result.number a.0 in
    let k = f c.number-2.result.number b.0 in
    joined_formed g.met.K.WeightKind.lawful _ _ h k

pub returns-in_err-leaf-clause-done : goal.returns-in_err-leaf-clause-done
returns-in_err-leaf-clause-done g c =
    let r = c.requires in
    let e = neither _ _ r.no_test in
    let a = leaf_word_only c.args.left c.number.result c.number.ensures r.good r.left e.0 in
    let b = leaf_word_only c.args.right c.number-2.result c.number-2.ensures r.good r.right e.1 in
    let f = leaf_formed_at (here c.args.counts.now c.args.stores.now) r.leaves in
    let h = f c.number.result.number a.0 in
    let k = f c.number-2.result.number b.0 in
    along (passed_on c.from_residual.ensures.1) (joined_done g.met.K.WeightKind.lawful _ _ h k a.1 b.1 c.in_err-leaf.ensures.done)

pub returns-clause-done : goal.returns-clause-done
returns-clause-done g c =
    let r = c.requires in
    let e = neither _ _ r.no_test in
    let a = leaf_word_only c.args.left c.number.result c.number.ensures r.good r.left e.0 in
    let b = leaf_word_only c.args.right c.number-2.result c.number-2.ensures r.good r.right e.1 in
    let f = leaf_formed_at (here c.args.counts.now c.args.stores.now) r.leaves in
    let h = f c.number.result.number a.0 in
    let k = f c.number-2.result.number b.0 in
    joined_done g.met.K.WeightKind.lawful _ _ h k a.1 b.1 c.in_ok-leaf.ensures.done
