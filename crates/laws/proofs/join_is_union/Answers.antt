use Rattle.laws.proofs.Laws.{join_is_union_lem}
use Rattle.laws.proofs.join_is_union.Goals as goal

pub returns : goal.returns
returns c = join_is_union_lem
