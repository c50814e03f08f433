use Rattle.std.proofs.Common.{arith}
use Rattle.tables.proofs.Checks.{matched, match_leads}
use Rattle.tables.proofs.state.Checker.matched.Goals as goal

pub returns-then-setting-from : goal.returns-then-setting-from
returns-then-setting-from c o rest r =
    let s = c.args.setting in
    let z = matched {o = o} c.args.self.rows c.args.from c.args.due c.args.emissions s.field s.value rest
    (omega (arith, s.exists), omega (arith, s.legal)) c.requires.1 r in
    elim c.then-setting-from.branch [
      | goal.then-setting-from-via-then-setting-from w ↦ omega (arith, z.0, w.if-setting-from.true)
      | goal.then-setting-from-via-else-setting-from+then-setting-due-gt-FIELDS w ↦ omega (arith, z.1, w.if-setting-due-gt-FIELDS.true)
    ]

pub returns : goal.returns
returns c o =
    let s = c.args.setting in
    match_leads o c.args.self.rows c.args.from c.args.due c.args.emissions s.field s.value c.due.result
    c.requires s.exists s.legal c.if-setting-from.false c.if-setting-due-gt-FIELDS.false c.due.ensures
