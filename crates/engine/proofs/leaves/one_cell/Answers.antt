use Rattle.std.proofs.Common.{refl, ◌∙◌}
use Rattle.engine.proofs.LeafRules.{none_made}
use Rattle.engine.proofs.LeafMerges.{no_cell}
use Rattle.engine.proofs.leaves.one_cell.Goals as goal

pub returns-then-weight-zero-clause-done : goal.returns-then-weight-zero-clause-done
returns-then-weight-zero-clause-done g c = none_made (no_cell g.K.WeightKind.ops c.args.action.sets (c.if-weight-zero.true ∙ c.zero.ensures.value)) refl c.requires.good
