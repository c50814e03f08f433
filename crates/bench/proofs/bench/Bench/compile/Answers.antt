use Rattle.bench.proofs.Stepping.{constructed, refusal}
use Rattle.bench.proofs.bench.Bench.compile.Goals as goal

pub returns-in_err-compile : goal.returns-in_err-compile
returns-in_err-compile g c = refusal c.self.inside.table.words.now c.self.inside.table.count c.self.view_is c.from_residual.result c.from_residual.ensures.1 c.in_err-compile.ensures

pub returns : goal.returns
returns g c = constructed c.self.inside.table.words.now c.self.inside.table.count c.self.view_is c.in_ok-compile.ensures
