use Rattle.faults.proofs.PassedOn.{passed_on}
use Rattle.engine.proofs.Composing.{kept_trans}
use Rattle.engine.proofs.FollowRules.{empty_leaf}
use Rattle.engine.proofs.NarrowRules.{here}
use Rattle.engine.proofs.SimpleRules.{test_stops, test_made}
use Rattle.std.proofs.Common.{refl}
use Rattle.engine.proofs.LeafRules.{node_leaves}
use Rattle.engine.proofs.compiling.test_word.Goals as goal

pub returns-in_err-yes-clause-done : goal.returns-in_err-yes-clause-done
returns-in_err-yes-clause-done g c = test_stops c.requires.good c.args.test.field c.args.test.value c.in_err-yes.ensures.done (passed_on c.from_residual.ensures.1)

pub returns-clause-done : goal.returns-clause-done
returns-clause-done g c =
    let d = c.in_ok-yes.ensures.done in
    test_made c.requires.good c.args.test.field c.args.test.value d c.in_ok-yes.ensures.kept d.made.names.stands (empty_leaf (here c.pass.new.counts c.pass.new.stores) _ refl).stands c.enter_node.ensures.done

pub returns-clause-kept : goal.returns-clause-kept
returns-clause-kept g c = kept_trans c.pass.ensures.kept c.enter_node.ensures.kept

pub returns-clause-leaves : goal.returns-clause-leaves
returns-clause-leaves g c = node_leaves _ c.in_ok-yes.ensures.leaves c.enter_node.ensures.done
