use Rattle.std.proofs.Common.{arith}
use Rattle.engine.proofs.InTurn.{few_sets, cell_fits}
use Rattle.engine.proofs.fitting.cell_fits.Goals as goal

pub overflow_add-set_count : goal.overflow_add-set_count
overflow_add-set_count c = let f = few_sets c.args.kept.now.sets c.set_count.ensures in omega (arith, f, c.args.kept.now.whole)

pub returns : goal.returns
returns c = λ w. cell_fits c.args.room c.args.kept.now.sets w c.checked_sub.result c.set_count.ensures c.checked_sub.ensures
