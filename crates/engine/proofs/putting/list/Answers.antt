use Rattle.std.proofs.Common.{length, ap, refl, sym, subst, ◌∙◌, List, ℕ, arith}
use Rattle.engine.specs.Listed.{AtFront}
use Rattle.engine.specs.Puts.{diagram_in}
use Rattle.engine.proofs.Words.{ways_short}
use Rattle.engine.proofs.InTurn.{list_not, list_full, listed, pushed}
use Rattle.engine.proofs.putting.list.Goals as goal

pub rows_fit-requires-clause-short : goal.rows_fit-requires-clause-short
rows_fit-requires-clause-short g c = omega (arith, ap length c.none-way.ensures, ways_short g.K.WeightKind.ops _ c.requires.formed)

pub returns-in_default : goal.returns-in_default
returns-in_default g c = (refl, list_not (diagram_in c.args.counts.now c.args.stores.now c.args.diagram) c.none-way.ensures c.in_default.ensures, refl)

pub returns-then-left-eq0 : goal.returns-then-left-eq0
returns-then-left-eq0 g c = (refl, list_full (diagram_in c.args.counts.now c.args.stores.now c.args.diagram) c.none-way.ensures c.in-Some.ensures c.if-left-eq0.true, refl)

pub put_rows-requires-clause-short : goal.put_rows-requires-clause-short
put_rows-requires-clause-short g c = omega (arith, ap length c.none-way.ensures, ways_short g.K.WeightKind.ops _ c.requires.formed)

pub returns : goal.returns
returns g c =
    let D = diagram_in c.args.counts.now c.args.stores.now c.args.diagram in
    let start = c.empty-sheet.ensures in
    let p = c.push.ensures in
    let name = sym (p.lender ∙ (c.put_rows.ensures.lender ∙ start.lender)) in
    let done = listed D c.none-way.ensures start.count start.rows c.put_rows.ensures (pushed {s' = c.push.new.self} c.from.ensures p.written p.rows p.lender) in
    subst (λ (is : List ℕ). AtFront D c.args.out.now c.push.new.self.count is) (sym (c.out-1.given.1.1 name))
    (subst (λ (was : List ℕ). AtFront D was c.push.new.self.count c.push.new.self.words.now) start.words done)
