use Rattle.engine.proofs.Prefixed.{greater_less, greater_equal, greater_greater}
use Rattle.engine.proofs.prefixing.greater.Goals as goal

pub returns-in-Less : goal.returns-in-Less
returns-in-Less g c = greater_less g.K.WeightKind.ops c.args.here c.in-Some.is c.in-Less.ensures

pub returns-in-Equal : goal.returns-in-Equal
returns-in-Equal g c = greater_equal g.K.WeightKind.ops c.args.here c.in-Some.is c.in-Equal.ensures c.join.ensures.value

pub returns-in-Greater : goal.returns-in-Greater
returns-in-Greater g c = greater_greater g.K.WeightKind.ops c.args.here c.in-Some.is c.in-Greater.ensures
