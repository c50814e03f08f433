use Rattle.laws.proofs.Laws.{sequence_is_sequence_lem}
use Rattle.laws.proofs.sequence_is_sequence.Goals as goal

pub returns : goal.returns
returns c = sequence_is_sequence_lem
