use Rattle.std.proofs.Common.{rules, None}
use Rattle.format.specs.Actions.{replaced}
use Rattle.actions.proofs.Composing.{joined_each}
use Rattle.actions.proofs.actions.Action.apply.Goals as goal

pub returns : goal.returns
returns c = search (rules, joined_each replaced c.args.self.now.sets c.args.frame.now.values c.from_fn-values.result None 0 0)
