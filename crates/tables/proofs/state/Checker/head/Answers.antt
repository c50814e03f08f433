use Rattle.std.proofs.Common.{inl, inr, arith}
use Rattle.tables.proofs.Checks.{opened, head_leads}
use Rattle.tables.proofs.state.Checker.head.Goals as goal

pub returns-then-self-ge-VALUE_END : goal.returns-then-self-ge-VALUE_END
returns-then-self-ge-VALUE_END c o rest r =
    let z = opened {o = o} c.args.self.rows c.args.next.field c.args.next.value rest (c.args.next.field_fits, c.args.next.value_fits) c.args.self.countable r in
    elim c.then-self-ge-VALUE_END.either [ inl h ↦ omega (arith, z.0) | inr h ↦ omega (arith, z.1) ]

pub returns : goal.returns
returns c o =
    head_leads o c.args.self.rows c.args.next.field c.args.next.value c.due.result (c.args.next.field_fits, c.args.next.value_fits)
    c.if-self-ge-VALUE_END.false c.if-next-gt-FIELDS.false c.due.ensures
