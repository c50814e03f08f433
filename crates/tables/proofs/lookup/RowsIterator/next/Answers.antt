use Rattle.std.proofs.Common.{◌≡◌, ◌∷◌, rules, sym, ◌∙◌}
use Rattle.tables.specs.Scans.{heads_past}
use Rattle.tables.proofs.Scans.{past_head, past_next}
use Rattle.tables.proofs.lookup.RowsIterator.next.Goals as goal

pub returns-then-marks-clause-steps : goal.returns-then-marks-clause-steps
returns-then-marks-clause-steps c =
    let g = c.in_ok-self.ensures.lookup.0 in
    sym c.loop-bits.invariant ∙
    past_head c.loop-bits.self.words.now c.in-Some.bits.now c.in-Some.later.now c.in_ok-self.field-0.now c.counted.result
    c.in-Some.ensures.cases.0 (sym c.marks.ensures ∙ c.if-marks.true) c.counted.ensures g.0 g.2

pub returns-then-marks-clause-goes : goal.returns-then-marks-clause-goes
returns-then-marks-clause-goes c =
    let e : heads_past 0 c.args.self.now.words.now ≡ c.loop-bits.self.words.now ∷ heads_past 0 c.in_ok-self.field-0.now = returns-then-marks-clause-steps c in
    search rules

pub loop-bits-preserved : goal.loop-bits-preserved
loop-bits-preserved c =
    sym (past_next c.loop-bits.self.words.now c.in-Some.bits.now c.in-Some.later.now c.from_next-self.result.now c.in-Some.ensures.cases.0 (sym c.marks.ensures ∙ c.if-marks.false) (sym c.marks-in-Some.ensures ∙ c.if-marks-2.false) c.from_next-self.ensures.next) ∙
    c.loop-bits.invariant
