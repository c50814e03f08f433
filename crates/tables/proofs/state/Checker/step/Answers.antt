use Rattle.std.proofs.Common.{arith}
use Rattle.tables.specs.declared.state.State.TheVariants.{Sets}
use Rattle.tables.proofs.Checks.{takes_at, takes_row, takes_weight, takes_none, no_match, no_set, no_kind, unexpected}
use Rattle.tables.proofs.state.Checker.step.Goals as goal

pub returns-in-Head-Head : goal.returns-in-Head-Head
returns-in-Head-Head g c = takes_row _ _ _ _ _ _ (c.head.ensures _) (grind arith) (grind arith) (grind arith)

pub returns-in-Head-End : goal.returns-in-Head-End
returns-in-Head-End g c = takes_row _ _ _ _ _ _ (c.end.ensures _) (grind arith) (grind arith) (grind arith)

pub returns-in-Emissions-Weight : goal.returns-in-Emissions-Weight
returns-in-Emissions-Weight g c = takes_weight _ _ _ _ _ _ _ c.weight.ensures (grind arith) (grind arith) (grind arith)

pub returns-in_ok-new-in-Matches-Match : goal.returns-in_ok-new-in-Matches-Match
returns-in_ok-new-in-Matches-Match g c = takes_at _ _ _ _ _ _ _ (c.matched.ensures _) c.in-Matches-Match.is-0 (grind arith)

pub returns-in_ok-new-in-Sets-Set : goal.returns-in_ok-new-in-Sets-Set
returns-in_ok-new-in-Sets-Set g c =
    takes_at _ _ _ (Sets _ _) _ _ _ (c.set.ensures _ g.met.K.WeightKind.lawful) (grind arith) (grind arith)

pub returns-in_err-next : goal.returns-in_err-next
returns-in_err-next g c =
    takes_none _ _ _ _ _ c.from_residual.ensures
    (unexpected g.met.K.WeightKind.lawful _ _ _ c.requires (no_kind c.args.self.state _ (grind arith)))

pub returns-in_err-new-in-Matches-Match : goal.returns-in_err-new-in-Matches-Match
returns-in_err-new-in-Matches-Match g c =
    let e = c.in_err-new-in-Matches-Match.ensures in
    takes_at _ _ _ _ _ _ _
    (no_match _ _ c.in-Matches-Match.from c.in-Matches-Match.due c.in-Matches-Match.emissions c.in_ok-next.next.field c.in_ok-next.next.value _
    c.from_residual-in_err-new-in-Matches-Match.ensures e.none (omega arith, omega arith) (grind arith))
    c.in-Matches-Match.is-0 (grind arith)

pub returns-in_err-new-in-Sets-Set : goal.returns-in_err-new-in-Sets-Set
returns-in_err-new-in-Sets-Set g c =
    let e = c.in_err-new-in-Sets-Set.ensures in
    takes_at _ _ _ (Sets c.in-Sets-Set.from c.in-Sets-Set.due) _ _ _
    (no_set _ _ g.met.K.WeightKind.lawful c.in-Sets-Set.from c.in-Sets-Set.due c.in_ok-next.next.field c.in_ok-next.next.value _
    c.from_residual-in_err-new-in-Sets-Set.ensures e.none (omega arith, omega arith))
    (grind arith) (grind arith)

pub returns-in_default : goal.returns-in_default
returns-in_default g c = unexpected g.met.K.WeightKind.lawful _ _ _ c.requires (λ x. grind arith)

pub returns-in_default-2 : goal.returns-in_default-2
returns-in_default-2 g c = unexpected g.met.K.WeightKind.lawful _ _ _ c.requires (λ x. grind arith)

pub returns-in_default-3 : goal.returns-in_default-3
returns-in_default-3 g c = unexpected g.met.K.WeightKind.lawful _ _ _ c.requires (λ x. grind arith)

pub returns-in_default-4 : goal.returns-in_default-4
returns-in_default-4 g c = unexpected g.met.K.WeightKind.lawful _ _ _ c.requires (λ x. grind arith)

pub returns-in_default-5 : goal.returns-in_default-5
returns-in_default-5 g c = unexpected g.met.K.WeightKind.lawful _ _ _ c.requires (λ x. grind arith)
