use Rattle.meaning.proofs.Starring.{rounds_bound}
use Rattle.engine.specs.Contents.{contents}
use Rattle.engine.specs.State.{state, diagram_of}
use Rattle.engine.specs.Rounds.{rest, next_round}
use Rattle.engine.specs.Memo.{Remembers}
use Rattle.engine.proofs.StarRules.{RoundsMade}
use Rattle.engine.proofs.starring.star.Given as goal

abbrev pub decreases-rounds : goal.decreases-rounds
decreases-rounds g l =
    let s = state (contents l.counts l.stores) in
    let d = diagram_of s l.body in
    rest (next_round g.K.WeightKind.ops d) (rounds_bound d) (diagram_of s l.last)

abbrev pub invariant-rounds : goal.invariant-rounds
invariant-rounds g l =
    RoundsMade g.K.WeightKind.ops l.fn.counts l.fn.stores (diagram_of (state (contents l.fn.counts l.fn.stores)) l.body) l.body l.pass l.counts l.stores l.last × Remembers g.K.WeightKind.ops (state (contents l.counts l.stores)) l.memo.entries
