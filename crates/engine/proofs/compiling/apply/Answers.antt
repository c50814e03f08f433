use Rattle.engine.proofs.Unchanged.{word_keeps}
use Rattle.engine.proofs.compiling.apply.Goals as goal

pub returns-in-Drop-clause-memo : goal.returns-in-Drop-clause-memo
returns-in-Drop-clause-memo g c = word_keeps g.met.K.WeightKind.lawful c.args.word _ _ c.requires.memo c.operand_word.ensures.leaves c.operand_word.ensures.done
