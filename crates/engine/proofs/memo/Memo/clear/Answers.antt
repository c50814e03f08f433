use Rattle.engine.proofs.Remembering.{none_written}
use Rattle.engine.proofs.memo.Memo.clear.Goals as goal

pub returns : goal.returns
returns c = λ e h. none_written 1024 h.0 e h.1
