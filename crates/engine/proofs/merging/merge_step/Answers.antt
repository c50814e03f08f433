use Rattle.engine.proofs.LeafRules.{here}
use Rattle.engine.proofs.Merged.{merge_none, turn_left, turn_right, turn_less, turn_equal, turn_greater, steps_some, steps_none}
use Rattle.engine.proofs.merging.merge_step.Goals as goal

pub returns-in-Some-None : goal.returns-in-Some-None
returns-in-Some-None g c = turn_left c.requires.right (steps_some c.in-Some-None.is-0 c.first_cell-on_left.ensures) (steps_none (here c.args.counts.now c.args.stores.now) c.args.right c.in-Some-None.is-1 c.first_cell-on_right.ensures)

pub returns-in-None-Some : goal.returns-in-None-Some
returns-in-None-Some g c = turn_right c.requires.left (steps_none (here c.args.counts.now c.args.stores.now) c.args.left c.in-None-Some.is-0 c.first_cell-on_left.ensures) (steps_some c.in-None-Some.is-1 c.first_cell-on_right.ensures)

pub returns-in-None-None : goal.returns-in-None-None
returns-in-None-None g c = merge_none _ _ _ (steps_none (here c.args.counts.now c.args.stores.now) c.args.left c.in-None-None.is-0 c.first_cell-on_left.ensures) (steps_none (here c.args.counts.now c.args.stores.now) c.args.right c.in-None-None.is-1 c.first_cell-on_right.ensures)

pub returns-in-Less : goal.returns-in-Less
returns-in-Less g c =
    turn_less c.requires.right (steps_some c.in-Some-Some.is-0 c.first_cell-on_left.ensures) (steps_some c.in-Some-Some.is-1 c.first_cell-on_right.ensures) c.in-Less.ensures

pub returns-in-Equal : goal.returns-in-Equal
returns-in-Equal g c =
    turn_equal (steps_some c.in-Some-Some.is-0 c.first_cell-on_left.ensures) (steps_some c.in-Some-Some.is-1 c.first_cell-on_right.ensures) c.in-Equal.ensures c.join.ensures.value

pub returns-in-Greater : goal.returns-in-Greater
returns-in-Greater g c =
    turn_greater c.requires.left (steps_some c.in-Some-Some.is-0 c.first_cell-on_left.ensures) (steps_some c.in-Some-Some.is-1 c.first_cell-on_right.ensures) c.in-Greater.ensures
