use Rattle.engine.specs.Greatest.{found_cell}
use Rattle.engine.proofs.Prefixed.{better_less, better_equal, better_greater}
use Rattle.engine.proofs.prefixing.better.Goals as goal

pub returns-in-Less : goal.returns-in-Less
returns-in-Less g c = better_less g.K.WeightKind.ops c.args.here (found_cell c.args.later) c.in-Some.is c.in-Less.ensures c.greater-in-Less.ensures

pub returns-in-Equal : goal.returns-in-Equal
returns-in-Equal g c = better_equal g.K.WeightKind.ops c.args.here (found_cell c.args.later) c.in-Some.is c.in-Equal.ensures

pub returns-in-Greater : goal.returns-in-Greater
returns-in-Greater g c = better_greater g.K.WeightKind.ops c.args.here (found_cell c.args.later) c.in-Some.is c.in-Greater.ensures
