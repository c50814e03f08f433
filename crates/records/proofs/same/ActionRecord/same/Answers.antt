use Rattle.std.proofs.Common.{ap}
use Rattle.std.proofs.lemmas.Bool.Decides.{Decides-like}
use Rattle.std.proofs.lemmas.Slice.Eq.{slice_eq-Decides}
use Rattle.actions.proofs.Alike.{actions_alike}
use Rattle.actions.specs.declared.actions.Action.{Action}
use Rattle.records.proofs.Alike.{sets_told}
use Rattle.records.proofs.same.ActionRecord.same.Goals as goal

pub returns : goal.returns
returns c =
    let a = c.args.self.now in
    let b = c.args.action.now in
    Decides-like _ (actions_alike a b) (ap (λ (x : Action). x.sets)) (slice_eq-Decides sets_told a.sets b.sets c.eq.result c.eq.ensures)
