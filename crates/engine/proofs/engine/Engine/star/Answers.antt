use Rattle.std.proofs.Common.{sym, ap, ◌∙◌}
use Rattle.std.specs.Option.{unwrap_or}
use Rattle.stored.specs.Calls.{Star, star_operand}
use Rattle.engine.proofs.Calls.{operand_unheld, unheld_refused, operand_present, operand_formed, remembers_lent, refused_call, refused_engine, built_call, built_engine, star_rules, star_builds, star_formed}
use Rattle.engine.proofs.engine.Engine.star.Goals as goal

pub returns-in_err-body : goal.returns-in_err-body
returns-in_err-body g c =
    unheld_refused c.self.invariant c.from_residual.ensures.1 c.in_err-body.ensures.0 (star_operand (operand_unheld c.self.invariant c.in_err-body.ensures)) c.self.view_is

pub star-answer-requires-clause-body : goal.star-answer-requires-clause-body
star-answer-requires-clause-body g c = operand_present c.self.invariant c.over-guard.ensures.counts c.in_ok-body.body c.in_ok-body.ensures

pub star-answer-requires-clause-formed : goal.star-answer-requires-clause-formed
star-answer-requires-clause-formed g c = operand_formed c.self.invariant c.over-guard.ensures.counts c.in_ok-body.body c.in_ok-body.ensures

pub star-answer-requires-clause-memo : goal.star-answer-requires-clause-memo
star-answer-requires-clause-memo g c = remembers_lent c.self.invariant c.over-guard.ensures.counts

pub invariant_of-self : goal.invariant_of-self
invariant_of-self g c =
    let k = c.star-answer.ensures in
    refused_engine c.self.invariant (star_rules g.K.WeightKind.ops c.self.inside.stores c.in_ok-body.body) (Star c.args.operand)
    (star_builds c.self.invariant c.in_ok-body.body c.in_ok-body.ensures) c.over-guard.ensures.counts k.kept
    (c.drop-guard.ensures ∙ ap (λ x. unwrap_or x c.star-answer.new.counts) c.over-guard.ensures.saved) k.done (sym c.in_err-word.ensures.same) c.in_err-word.ensures.memo

pub returns-in_err-word : goal.returns-in_err-word
returns-in_err-word g c =
    let k = c.star-answer.ensures in
    refused_call c.self.invariant (star_rules g.K.WeightKind.ops c.self.inside.stores c.in_ok-body.body) (Star c.args.operand)
    (star_builds c.self.invariant c.in_ok-body.body c.in_ok-body.ensures) c.over-guard.ensures.counts k.kept
    (c.drop-guard.ensures ∙ ap (λ x. unwrap_or x c.star-answer.new.counts) c.over-guard.ensures.saved) k.done (sym c.in_err-word.ensures.same)
    c.from_residual-in_err-word.ensures.1 c.self.view_is

pub invariant_of-self-2 : goal.invariant_of-self-2
invariant_of-self-2 g c =
    let k = c.star-answer.ensures in
    built_engine c.self.invariant (star_rules g.K.WeightKind.ops c.self.inside.stores c.in_ok-body.body) (Star c.args.operand)
    (star_builds c.self.invariant c.in_ok-body.body c.in_ok-body.ensures) c.over-guard.ensures.counts k.kept
    (c.drop-guard-2.ensures ∙ (ap (λ x. unwrap_or x c.keep.new.self.counts.now) c.keep.ensures.kept ∙ c.keep.ensures.counts)) k.done (sym c.in_ok-word.ensures.same)
    (star_formed c.self.invariant g.met.K.WeightKind.lawful c.in_ok-body.body c.in_ok-body.ensures) c.in_ok-word.ensures.memo k.memo

pub returns : goal.returns
returns g c =
    let k = c.star-answer.ensures in
    built_call c.self.invariant (star_rules g.K.WeightKind.ops c.self.inside.stores c.in_ok-body.body) (Star c.args.operand)
    (star_builds c.self.invariant c.in_ok-body.body c.in_ok-body.ensures) c.over-guard.ensures.counts k.kept
    (c.drop-guard-2.ensures ∙ (ap (λ x. unwrap_or x c.keep.new.self.counts.now) c.keep.ensures.kept ∙ c.keep.ensures.counts)) k.done (sym c.in_ok-word.ensures.same)
    c.from.ensures.word c.self.view_is
