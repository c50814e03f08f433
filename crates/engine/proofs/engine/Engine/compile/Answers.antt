use Rattle.std.proofs.Common.{sym, ap, ◌∙◌}
use Rattle.std.specs.Option.{unwrap_or}
use Rattle.checking.specs.Checked.{policy_words}
use Rattle.stored.specs.Calls.{Compile}
use Rattle.engine.proofs.Calls.{remembers_lent, refused_call, refused_engine, built_call, built_engine, compile_rules, compile_builds, compile_formed, compiled_done}
use Rattle.engine.proofs.engine.Engine.compile.Goals as goal

pub compile-answer-requires-clause-memo : goal.compile-answer-requires-clause-memo
compile-answer-requires-clause-memo g c = remembers_lent c.self.invariant c.over-guard.ensures.counts

pub invariant_of-self : goal.invariant_of-self
invariant_of-self g c =
    let k = c.compile-answer.ensures in
    refused_engine c.self.invariant (compile_rules g.K.WeightKind.ops (policy_words c.args.policy.now)) (Compile (policy_words c.args.policy.now))
    (compile_builds c.self.inside.counts) c.over-guard.ensures.counts k.kept
    (c.drop-guard.ensures ∙ ap (λ x. unwrap_or x c.compile-answer.new.counts) c.over-guard.ensures.saved) (compiled_done k.done) (sym c.in_err-word.ensures.same) c.in_err-word.ensures.memo

pub returns-in_err-word : goal.returns-in_err-word
returns-in_err-word g c =
    let k = c.compile-answer.ensures in
    refused_call c.self.invariant (compile_rules g.K.WeightKind.ops (policy_words c.args.policy.now)) (Compile (policy_words c.args.policy.now))
    (compile_builds c.self.inside.counts) c.over-guard.ensures.counts k.kept
    (c.drop-guard.ensures ∙ ap (λ x. unwrap_or x c.compile-answer.new.counts) c.over-guard.ensures.saved) (compiled_done k.done) (sym c.in_err-word.ensures.same)
    c.from_residual.ensures.1 c.self.view_is

pub invariant_of-self-2 : goal.invariant_of-self-2
invariant_of-self-2 g c =
    let k = c.compile-answer.ensures in
    built_engine c.self.invariant (compile_rules g.K.WeightKind.ops (policy_words c.args.policy.now)) (Compile (policy_words c.args.policy.now))
    (compile_builds c.self.inside.counts) c.over-guard.ensures.counts k.kept
    (c.drop-guard-2.ensures ∙ (ap (λ x. unwrap_or x c.keep.new.self.counts.now) c.keep.ensures.kept ∙ c.keep.ensures.counts)) (compiled_done k.done) (sym c.in_ok-word.ensures.same)
    (compile_formed g.met.K.WeightKind.lawful c.self.inside.counts) c.in_ok-word.ensures.memo k.memo

pub returns : goal.returns
returns g c =
    let k = c.compile-answer.ensures in
    built_call c.self.invariant (compile_rules g.K.WeightKind.ops (policy_words c.args.policy.now)) (Compile (policy_words c.args.policy.now))
    (compile_builds c.self.inside.counts) c.over-guard.ensures.counts k.kept
    (c.drop-guard-2.ensures ∙ (ap (λ x. unwrap_or x c.keep.new.self.counts.now) c.keep.ensures.kept ∙ c.keep.ensures.counts)) (compiled_done k.done) (sym c.in_ok-word.ensures.same)
    c.from.ensures.word c.self.view_is
