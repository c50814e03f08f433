use Rattle.std.proofs.Common.{◌<◌, sym, ◌∙◌, arith}
use Rattle.std.proofs.lemmas.Bool.{false≢true}
use Rattle.tables.proofs.Checks.{weighed, weight_leads}
use Rattle.tables.proofs.state.Checker.weight.Goals as goal

pub returns-then-due-eq0 : goal.returns-then-due-eq0
returns-then-due-eq0 g c rest r =
    let z = weighed g.met.K.WeightKind.lawful c.args.self.rows c.args.due c.args.next.field c.args.next.value rest (c.args.next.field_fits, c.args.next.value_fits) r in
    elim c.then-due-eq0.branch [
      | goal.then-due-eq0-via-then-due-eq0 w ↦ omega (arith, z.0, w.if-due-eq0.true)
      | goal.then-due-eq0-via-else-due-eq0+then-next-ne0 w ↦ w.if-next-ne0.true z.1
      | goal.then-due-eq0-via-else-due-eq0+else-next-ne0+then-next-zero w ↦ z.3 (w.if-next-zero.true ∙ w.zero.ensures.value)
      | goal.then-due-eq0-via-else-due-eq0+else-next-ne0+else-next-zero+then-not-is_weight w ↦
          false≢true (w.if-not-is_weight.ensures.value ∙ z.2)
    ]

pub returns : goal.returns
returns g c =
    let some : 0 < c.args.due = omega (arith, c.if-due-eq0.false) in
    weight_leads g.K.WeightKind.ops g.met.K.WeightKind.lawful c.args.self.rows c.args.due c.args.next.field c.args.next.value
    (c.args.next.field_fits, c.args.next.value_fits) c.args.self.countable some c.if-next-ne0.false (sym c.if-not-is_weight.ensures.value)
    (λ e. c.if-next-zero.false (e ∙ sym c.zero.ensures.value))
