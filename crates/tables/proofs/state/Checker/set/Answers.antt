use Rattle.std.proofs.Common.{arith}
use Rattle.tables.proofs.Checks.{setting, set_leads}
use Rattle.tables.proofs.state.Checker.set.Goals as goal

pub returns-then-setting-from : goal.returns-then-setting-from
returns-then-setting-from c o laws rest r =
    let s = c.args.setting in
    let z = setting laws c.args.self.rows c.args.from c.args.due s.field s.value rest
    (omega (arith, s.exists), omega (arith, s.legal)) r in
    omega (arith, z.0, c.if-setting-from.true)

pub returns : goal.returns
returns c o laws =
    let s = c.args.setting in
    set_leads o laws c.args.self.rows c.args.from c.args.due s.field s.value c.args.self.countable s.exists s.legal c.if-setting-from.false
