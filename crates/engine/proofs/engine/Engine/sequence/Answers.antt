use Rattle.std.proofs.Common.{sym, ap, ◌∙◌}
use Rattle.std.specs.Option.{unwrap_or}
use Rattle.stored.specs.Calls.{Sequence, sequence_first, sequence_second}
use Rattle.engine.proofs.Calls.{operand_held, operand_unheld, unheld_refused, operand_present, remembers_lent, refused_call, refused_engine, built_call, built_engine, sequence_rules, sequence_builds, sequence_formed}
use Rattle.engine.proofs.engine.Engine.sequence.Goals as goal

pub returns-in_err-first : goal.returns-in_err-first
returns-in_err-first g c =
    unheld_refused c.self.invariant c.from_residual.ensures.1 c.in_err-first.ensures.0 (sequence_first (operand_unheld c.self.invariant c.in_err-first.ensures)) c.self.view_is

pub returns-in_err-second : goal.returns-in_err-second
returns-in_err-second g c =
    unheld_refused c.self.invariant c.from_residual-in_err-second.ensures.1 c.in_err-second.ensures.0
    (sequence_second (operand_held c.self.invariant c.in_ok-first.first c.in_ok-first.ensures) (operand_unheld c.self.invariant c.in_err-second.ensures)) c.self.view_is

pub sequence-answer-requires-clause-first : goal.sequence-answer-requires-clause-first
sequence-answer-requires-clause-first g c = operand_present c.self.invariant c.over-guard.ensures.counts c.in_ok-first.first c.in_ok-first.ensures

pub sequence-answer-requires-clause-second : goal.sequence-answer-requires-clause-second
sequence-answer-requires-clause-second g c = operand_present c.self.invariant c.over-guard.ensures.counts c.in_ok-second.second c.in_ok-second.ensures

pub sequence-answer-requires-clause-memo : goal.sequence-answer-requires-clause-memo
sequence-answer-requires-clause-memo g c = remembers_lent c.self.invariant c.over-guard.ensures.counts

pub invariant_of-self : goal.invariant_of-self
invariant_of-self g c =
    let k = c.sequence-answer.ensures in
    refused_engine c.self.invariant (sequence_rules g.K.WeightKind.ops c.self.inside.stores c.in_ok-first.first c.in_ok-second.second) (Sequence c.args.first c.args.second)
    (sequence_builds c.self.invariant c.in_ok-first.first c.in_ok-second.second c.in_ok-first.ensures c.in_ok-second.ensures) c.over-guard.ensures.counts k.kept
    (c.drop-guard.ensures ∙ ap (λ x. unwrap_or x c.sequence-answer.new.counts) c.over-guard.ensures.saved) k.done (sym c.in_err-word.ensures.same) c.in_err-word.ensures.memo

pub returns-in_err-word : goal.returns-in_err-word
returns-in_err-word g c =
    let k = c.sequence-answer.ensures in
    refused_call c.self.invariant (sequence_rules g.K.WeightKind.ops c.self.inside.stores c.in_ok-first.first c.in_ok-second.second) (Sequence c.args.first c.args.second)
    (sequence_builds c.self.invariant c.in_ok-first.first c.in_ok-second.second c.in_ok-first.ensures c.in_ok-second.ensures) c.over-guard.ensures.counts k.kept
    (c.drop-guard.ensures ∙ ap (λ x. unwrap_or x c.sequence-answer.new.counts) c.over-guard.ensures.saved) k.done (sym c.in_err-word.ensures.same)
    c.from_residual-in_err-word.ensures.1 c.self.view_is

pub invariant_of-self-2 : goal.invariant_of-self-2
invariant_of-self-2 g c =
    let k = c.sequence-answer.ensures in
    built_engine c.self.invariant (sequence_rules g.K.WeightKind.ops c.self.inside.stores c.in_ok-first.first c.in_ok-second.second) (Sequence c.args.first c.args.second)
    (sequence_builds c.self.invariant c.in_ok-first.first c.in_ok-second.second c.in_ok-first.ensures c.in_ok-second.ensures) c.over-guard.ensures.counts k.kept
    (c.drop-guard-2.ensures ∙ (ap (λ x. unwrap_or x c.keep.new.self.counts.now) c.keep.ensures.kept ∙ c.keep.ensures.counts)) k.done (sym c.in_ok-word.ensures.same)
    (sequence_formed c.self.invariant g.met.K.WeightKind.lawful c.in_ok-first.first c.in_ok-second.second c.in_ok-first.ensures c.in_ok-second.ensures) c.in_ok-word.ensures.memo k.memo

pub returns : goal.returns
returns g c =
    let k = c.sequence-answer.ensures in
    built_call c.self.invariant (sequence_rules g.K.WeightKind.ops c.self.inside.stores c.in_ok-first.first c.in_ok-second.second) (Sequence c.args.first c.args.second)
    (sequence_builds c.self.invariant c.in_ok-first.first c.in_ok-second.second c.in_ok-first.ensures c.in_ok-second.ensures) c.over-guard.ensures.counts k.kept
    (c.drop-guard-2.ensures ∙ (ap (λ x. unwrap_or x c.keep.new.self.counts.now) c.keep.ensures.kept ∙ c.keep.ensures.counts)) k.done (sym c.in_ok-word.ensures.same)
    c.from.ensures.word c.self.view_is
