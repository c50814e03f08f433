use Rattle.std.proofs.Common.{rules, None}
use Rattle.format.specs.Actions.{last_set}
use Rattle.actions.proofs.Composing.{joined_each}
use Rattle.actions.proofs.actions.Action.then.Goals as goal

pub returns : goal.returns
returns c = search (rules, joined_each last_set c.args.self.now.sets c.args.other.now.sets c.from_fn-sets.result None None None)
