use Rattle.engine.specs.Contents.{contents}
use Rattle.engine.specs.State.{state}
use Rattle.engine.specs.Memo.{Remembers}
use Rattle.engine.specs.Words.{waiting_words}
use Rattle.engine.proofs.CompileRules.{CompileMade}
use Rattle.engine.proofs.compiling.compile.Given as goal

abbrev pub invariant-words : goal.invariant-words
invariant-words g l =
    CompileMade g.K.WeightKind.ops l.fn.counts l.fn.stores l.words l.bits-index (waiting_words l.waiting) l.counts l.stores × Remembers g.K.WeightKind.ops (state (contents l.counts l.stores)) l.memo.entries
