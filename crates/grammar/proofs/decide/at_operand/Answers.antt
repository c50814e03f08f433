use Rattle.std.proofs.Common.{refl, ap}
use Rattle.format.specs.Policy.{Policy}
use Rattle.grammar.specs.Trees.{first}
use Rattle.grammar.proofs.decide.at_operand.Goals as goal

pub returns-in-Drop : goal.returns-in-Drop
returns-in-Drop c = (Policy.Drop, ap first c.in-Drop.is, refl)

pub returns-in-Pass : goal.returns-in-Pass
returns-in-Pass c = (Policy.Pass, ap first c.in-Pass.is, refl)
