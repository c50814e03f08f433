use Rattle.tables.proofs.Checks.{ended, end_leads}
use Rattle.tables.proofs.state.Checker.end.Goals as goal

pub returns-then-next-ne0 : goal.returns-then-next-ne0
returns-then-next-ne0 c o rest r =
    let z = ended {o = o} c.args.self.rows c.args.next.field c.args.next.value rest (c.args.next.field_fits, c.args.next.value_fits) r in
    elim c.then-next-ne0.branch [
      | goal.then-next-ne0-via-then-next-ne0 w ↦ w.if-next-ne0.true z.0
      | goal.then-next-ne0-via-else-next-ne0+then-next-self w ↦ w.if-next-self.true z.1
    ]

pub returns : goal.returns
returns c o =
    end_leads o c.args.self.rows c.args.next.field c.args.next.value (c.args.next.field_fits, c.args.next.value_fits) c.args.self.countable
    c.if-next-ne0.false c.if-next-self.false
