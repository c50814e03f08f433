use Rattle.std.proofs.Common.{ap}
use Rattle.stored.specs.Stored.{Stored, Holdings}
use Rattle.engine.proofs.Empty.{empty_holdings, empty_engine}
use Rattle.engine.proofs.engine.Engine.open.Goals as goal

pub invariant_of-result : goal.invariant_of-result
invariant_of-result g c = empty_engine _ c.none.result c.none.ensures g.K.WeightKind.ops c.empty.result.entries c.empty.ensures

pub returns-clause-stored : goal.returns-clause-stored
returns-clause-stored g c = ap {B = Stored} (λ (h : Holdings). h.stored) (empty_holdings (record { actions = record { slots = c.args.actions }; cells = record { slots = c.args.cells }; nodes = record { slots = c.args.nodes } }) c.none.result c.none.ensures)
