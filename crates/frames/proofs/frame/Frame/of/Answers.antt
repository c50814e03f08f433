use Rattle.std.proofs.Common.{arith}
use Rattle.frames.proofs.Words.{words_from_places}
use Rattle.frames.proofs.frame.Frame.of.Goals as goal

pub returns : goal.returns
returns c =
    words_from_places c.args.words c.loop-place.value-items (omega arith) λ k l. (c.loop-place.invariant.right k (omega arith)).0
