use Rattle.actions.proofs.Alike.{actions_ranked}
use Rattle.actions.proofs.actions.Action.compare.Goals as goal

pub returns : goal.returns
returns c = actions_ranked c.args.self.now c.args.other.now c.cmp.result c.cmp.ensures
