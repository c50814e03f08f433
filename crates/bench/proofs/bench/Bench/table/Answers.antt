use Rattle.bench.proofs.Forwarding.{table_passes, table_forwards}
use Rattle.bench.proofs.bench.Bench.table.Goals as goal

pub returns-clause-check : goal.returns-clause-check
returns-clause-check g c = table_passes c.self.invariant.lists c.self.view_is

pub returns-clause-forwards : goal.returns-clause-forwards
returns-clause-forwards g c = table_forwards c.self.invariant.lists c.self.view_is
