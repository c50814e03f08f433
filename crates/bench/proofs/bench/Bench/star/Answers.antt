use Rattle.bench.proofs.Stepping.{constructed, refusal}
use Rattle.bench.proofs.bench.Bench.star.Goals as goal

pub returns-in_err-star : goal.returns-in_err-star
returns-in_err-star g c = refusal c.self.inside.table.words.now c.self.inside.table.count c.self.view_is c.from_residual.result c.from_residual.ensures.1 c.in_err-star.ensures

pub returns : goal.returns
returns g c = constructed c.self.inside.table.words.now c.self.inside.table.count c.self.view_is c.in_ok-star.ensures
