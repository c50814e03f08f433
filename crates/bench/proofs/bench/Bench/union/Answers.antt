use Rattle.bench.proofs.Stepping.{constructed, refusal}
use Rattle.bench.proofs.bench.Bench.union.Goals as goal

pub returns-in_err-union : goal.returns-in_err-union
returns-in_err-union g c = refusal c.self.inside.table.words.now c.self.inside.table.count c.self.view_is c.from_residual.result c.from_residual.ensures.1 c.in_err-union.ensures

pub returns : goal.returns
returns g c = constructed c.self.inside.table.words.now c.self.inside.table.count c.self.view_is c.in_ok-union.ensures
