use Rattle.std.proofs.Common.{rules, ltb}
use Rattle.format.specs.Policy.{Policy}
use Rattle.format.specs.Words.{value_end}
use Rattle.grammar.specs.Trees.{legal}
use Rattle.grammar.proofs.Decisions.{value_decides}
use Rattle.grammar.proofs.machine.Mode.decide.Goals as goal

pub returns-in-Tested : goal.returns-in-Tested
returns-in-Tested c = rw c.in-Tested.is (value_decides (legal c.in-Tested.field) (Policy.Test c.in-Tested.field) (λ n w k. search rules) c.args.symbol _ c.at_value.ensures)

pub returns-in-Assigned : goal.returns-in-Assigned
returns-in-Assigned c = rw c.in-Assigned.is (value_decides (legal c.in-Assigned.field) (Policy.Set c.in-Assigned.field) (λ n w k. search rules) c.args.symbol _ c.at_value-in-Assigned.ensures)

pub returns-in-Price : goal.returns-in-Price
returns-in-Price c = rw c.in-Price.is (value_decides (λ n. ltb n value_end) Policy.Cost (λ n w k. search rules) c.args.symbol _ c.at_value-in-Price.ensures)
