use Rattle.engine.proofs.Remembering.{noted_in}
use Rattle.engine.proofs.memo.Memo.note.Goals as goal

pub returns : goal.returns
returns c = noted_in _ _ _ _ c.from.ensures
