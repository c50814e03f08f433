use Rattle.engine.proofs.Composing.{kept_trans}
use Rattle.engine.proofs.LeafRules.{put_makes, put_leaves}
use Rattle.engine.proofs.leaves.put_on.Goals as goal

pub returns-clause-done : goal.returns-clause-done
returns-clause-done g c = put_makes c.in_ok-action.ensures.done c.in_ok-action.ensures.kept c.requires.rest c.enter_cell.ensures.done

pub returns-clause-kept : goal.returns-clause-kept
returns-clause-kept g c = kept_trans c.enter_action.ensures.kept c.enter_cell.ensures.kept

pub returns-clause-leaves : goal.returns-clause-leaves
returns-clause-leaves g c =
    put_leaves c.enter_cell.result c.requires.leaves c.requires.formed (put_makes c.in_ok-action.ensures.done c.in_ok-action.ensures.kept c.requires.rest c.enter_cell.ensures.done)
