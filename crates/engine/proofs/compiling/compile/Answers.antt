use Rattle.std.proofs.Common.{ℕ, List, Ok, subst}
use Rattle.faults.proofs.PassedOn.{passed_on}
use Rattle.engine.specs.Compiling.{CompiledFrom}
use Rattle.engine.proofs.Composing.{kept_trans}
use Rattle.engine.proofs.CompileRules.{compile_started, word_known, operands_wait, room_waits, word_stops, word_made, one_waits, compile_ends}
use Rattle.engine.proofs.compiling.compile.Goals as goal

pub words-init : goal.words-init
words-init g c = (compile_started g.met.K.WeightKind.lawful c.words-words.ensures.legal c.requires.good c.none-waiting.ensures, c.requires.memo)

pub word_of-word-requires : goal.word_of-word-requires
word_of-word-requires g c = word_known g.met.K.WeightKind.lawful c.words.invariant.0 c.words-test.true

pub apply-requires-clause-good : goal.apply-requires-clause-good
apply-requires-clause-good g c = c.words.invariant.0.pending.sofar.good

pub apply-requires-clause-enough : goal.apply-requires-clause-enough
apply-requires-clause-enough g c =
    let e = c.word_of-word.ensures in
    operands_wait g.met.K.WeightKind.lawful c.words.invariant.0 c.words-test.true _ e.0 e.1

pub apply-requires-clause-present : goal.apply-requires-clause-present
apply-requires-clause-present g c = c.words.invariant.0.present

pub apply-requires-clause-formed : goal.apply-requires-clause-formed
apply-requires-clause-formed g c = c.words.invariant.0.formed

pub returns-in_err-diagram-clause-done : goal.returns-in_err-diagram-clause-done
returns-in_err-diagram-clause-done g c =
    let e = c.word_of-word.ensures in
    subst (λ (ws : List ℕ). CompiledFrom g.K.WeightKind.ops ws c.args.counts.now c.args.stores.now c.apply.new.counts c.apply.new.stores c.from_residual.result) c.words-words.ensures.same
    (word_stops g.met.K.WeightKind.lawful c.words.invariant.0 c.words-test.true _ e.0 e.1 c.in_err-diagram.ensures.done (passed_on c.from_residual.ensures.1))

pub returns-in_err-diagram-clause-kept : goal.returns-in_err-diagram-clause-kept
returns-in_err-diagram-clause-kept g c = kept_trans c.words.invariant.0.pending.sofar.kept c.apply.ensures.kept

pub push-requires : goal.push-requires
push-requires g c =
    let e = c.word_of-word.ensures in
    room_waits g.met.K.WeightKind.lawful c.words.invariant.0 c.words-test.true _ e.0 e.1 _ c.apply.ensures.left

pub words-preserved : goal.words-preserved
words-preserved g c =
    let e = c.word_of-word.ensures in
    (word_made g.met.K.WeightKind.lawful c.words.invariant.0 c.words-test.true _ e.0 e.1 c.in_ok-diagram.ensures.done c.in_ok-diagram.ensures.kept c.apply.ensures.left c.push.ensures, c.in_ok-diagram.ensures.memo)

pub pop-requires : goal.pop-requires
pop-requires g c = one_waits g.met.K.WeightKind.lawful c.words.invariant.0 c.words-test.false

pub returns-clause-done : goal.returns-clause-done
returns-clause-done g c =
    subst (λ (ws : List ℕ). CompiledFrom g.K.WeightKind.ops ws c.args.counts.now c.args.stores.now c.words.counts c.words.stores (Ok c.pop.result)) c.words-words.ensures.same
    (compile_ends g.met.K.WeightKind.lawful c.words.invariant.0 c.words-test.false c.pop.ensures)

pub returns-clause-kept : goal.returns-clause-kept
returns-clause-kept g c = c.words.invariant.0.pending.sofar.kept

pub apply-requires-clause-memo : goal.apply-requires-clause-memo
apply-requires-clause-memo g c = c.words.invariant.1

pub returns-clause-memo : goal.returns-clause-memo
returns-clause-memo g c = c.words.invariant.1
