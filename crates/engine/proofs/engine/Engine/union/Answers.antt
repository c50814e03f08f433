use Rattle.std.proofs.Common.{sym, ap, ◌∙◌}
use Rattle.std.specs.Option.{unwrap_or}
use Rattle.stored.specs.Calls.{Union, union_first, union_second}
use Rattle.engine.proofs.Calls.{operand_held, operand_unheld, unheld_refused, operand_present, remembers_lent, refused_call, refused_engine, built_call, built_engine, union_rules, union_builds, union_formed}
use Rattle.engine.proofs.engine.Engine.union.Goals as goal

pub returns-in_err-left : goal.returns-in_err-left
returns-in_err-left g c =
    unheld_refused c.self.invariant c.from_residual.ensures.1 c.in_err-left.ensures.0 (union_first (operand_unheld c.self.invariant c.in_err-left.ensures)) c.self.view_is

pub returns-in_err-right : goal.returns-in_err-right
returns-in_err-right g c =
    unheld_refused c.self.invariant c.from_residual-in_err-right.ensures.1 c.in_err-right.ensures.0
    (union_second (operand_held c.self.invariant c.in_ok-left.left c.in_ok-left.ensures) (operand_unheld c.self.invariant c.in_err-right.ensures)) c.self.view_is

pub join-answer-requires-clause-left : goal.join-answer-requires-clause-left
join-answer-requires-clause-left g c = operand_present c.self.invariant c.over-guard.ensures.counts c.in_ok-left.left c.in_ok-left.ensures

pub join-answer-requires-clause-right : goal.join-answer-requires-clause-right
join-answer-requires-clause-right g c = operand_present c.self.invariant c.over-guard.ensures.counts c.in_ok-right.right c.in_ok-right.ensures

pub join-answer-requires-clause-memo : goal.join-answer-requires-clause-memo
join-answer-requires-clause-memo g c = remembers_lent c.self.invariant c.over-guard.ensures.counts

pub invariant_of-self : goal.invariant_of-self
invariant_of-self g c =
    let k = c.join-answer.ensures in
    refused_engine c.self.invariant (union_rules g.K.WeightKind.ops c.self.inside.stores c.in_ok-left.left c.in_ok-right.right) (Union c.args.left c.args.right)
    (union_builds c.self.invariant c.in_ok-left.left c.in_ok-right.right c.in_ok-left.ensures c.in_ok-right.ensures) c.over-guard.ensures.counts k.kept
    (c.drop-guard.ensures ∙ ap (λ x. unwrap_or x c.join-answer.new.counts) c.over-guard.ensures.saved) k.done (sym c.in_err-word.ensures.same) c.in_err-word.ensures.memo

pub returns-in_err-word : goal.returns-in_err-word
returns-in_err-word g c =
    let k = c.join-answer.ensures in
    refused_call c.self.invariant (union_rules g.K.WeightKind.ops c.self.inside.stores c.in_ok-left.left c.in_ok-right.right) (Union c.args.left c.args.right)
    (union_builds c.self.invariant c.in_ok-left.left c.in_ok-right.right c.in_ok-left.ensures c.in_ok-right.ensures) c.over-guard.ensures.counts k.kept
    (c.drop-guard.ensures ∙ ap (λ x. unwrap_or x c.join-answer.new.counts) c.over-guard.ensures.saved) k.done (sym c.in_err-word.ensures.same)
    c.from_residual-in_err-word.ensures.1 c.self.view_is

pub invariant_of-self-2 : goal.invariant_of-self-2
invariant_of-self-2 g c =
    let k = c.join-answer.ensures in
    built_engine c.self.invariant (union_rules g.K.WeightKind.ops c.self.inside.stores c.in_ok-left.left c.in_ok-right.right) (Union c.args.left c.args.right)
    (union_builds c.self.invariant c.in_ok-left.left c.in_ok-right.right c.in_ok-left.ensures c.in_ok-right.ensures) c.over-guard.ensures.counts k.kept
    (c.drop-guard-2.ensures ∙ (ap (λ x. unwrap_or x c.keep.new.self.counts.now) c.keep.ensures.kept ∙ c.keep.ensures.counts)) k.done (sym c.in_ok-word.ensures.same)
    (union_formed c.self.invariant g.met.K.WeightKind.lawful c.in_ok-left.left c.in_ok-right.right c.in_ok-left.ensures c.in_ok-right.ensures) c.in_ok-word.ensures.memo k.memo

pub returns : goal.returns
returns g c =
    let k = c.join-answer.ensures in
    built_call c.self.invariant (union_rules g.K.WeightKind.ops c.self.inside.stores c.in_ok-left.left c.in_ok-right.right) (Union c.args.left c.args.right)
    (union_builds c.self.invariant c.in_ok-left.left c.in_ok-right.right c.in_ok-left.ensures c.in_ok-right.ensures) c.over-guard.ensures.counts k.kept
    (c.drop-guard-2.ensures ∙ (ap (λ x. unwrap_or x c.keep.new.self.counts.now) c.keep.ensures.kept ∙ c.keep.ensures.counts)) k.done (sym c.in_ok-word.ensures.same)
    c.from.ensures.word c.self.view_is
