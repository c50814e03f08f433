use Rattle.std.proofs.Common.{arith}
use Rattle.engine.proofs.EnteringCells.{cells_below, actions_below}
use Rattle.engine.proofs.Negated.{denied, not_longer, not_other, pass_told}
use Rattle.engine.proofs.negating.is_pass.Goals as goal

pub cell-own-requires-clause-held : goal.cell-own-requires-clause-held
cell-own-requires-clause-held g c = (c.requires.full, cells_below _ _ c.requires.good _ c.requires.present)

pub action-kept-requires-clause-held : goal.action-kept-requires-clause-held
action-kept-requires-clause-held g c = actions_below _ _ c.requires.good _ c.cell-own.ensures.action_present

pub returns-then-own-gt0 : goal.returns-then-own-gt0
returns-then-own-gt0 g c = denied (not_longer g.met.K.WeightKind.lawful c.requires.good c.cell-own.ensures c.if-own-gt0.true)

pub returns-then-own-one : goal.returns-then-own-one
returns-then-own-one g c = denied (not_other g.met.K.WeightKind.lawful c.requires.good c.cell-own.ensures c.one.ensures.value c.if-own-one.true)

pub returns : goal.returns
returns g c =
    pass_told g.met.K.WeightKind.lawful c.requires.good c.cell-own.ensures (omega arith) c.one.ensures.value c.if-own-one.false c.action-kept.ensures c.keep_all.ensures c.same.ensures
