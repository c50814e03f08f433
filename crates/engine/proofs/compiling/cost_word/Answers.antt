use Rattle.engine.proofs.SimpleRules.{cost_done}
use Rattle.engine.proofs.compiling.cost_word.Goals as goal

pub returns-clause-done : goal.returns-clause-done
returns-clause-done g c = cost_done c.requires.good c.keep_all-action.ensures c.cost.ensures.value c.single.ensures.done

pub invariant_of-weight : goal.invariant_of-weight
invariant_of-weight g c = record { fits = g.met.K.WeightKind.lawful.below_end _ (c.cost.ensures.weight c.requires.small) }
