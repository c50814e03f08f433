use Rattle.std.proofs.Common.{refl}
use Rattle.engine.proofs.Calls.{operand_present, operand_formed}
use Rattle.engine.proofs.Tabulating.{unheld_listed, held_listed, long_listed}
use Rattle.engine.proofs.engine.Engine.list.Goals as goal

pub returns-in_err-diagram : goal.returns-in_err-diagram
returns-in_err-diagram g c = unheld_listed c.self.invariant c.self.view_is c.args.out.now c.from_residual.ensures.1 c.in_err-diagram.ensures

pub list-requires-clause-present : goal.list-requires-clause-present
list-requires-clause-present g c = operand_present c.self.invariant refl c.in_ok-diagram.diagram c.in_ok-diagram.ensures

pub list-requires-clause-formed : goal.list-requires-clause-formed
list-requires-clause-formed g c = operand_formed c.self.invariant refl c.in_ok-diagram.diagram c.in_ok-diagram.ensures

pub returns-in_err-list : goal.returns-in_err-list
returns-in_err-list g c =
    long_listed c.self.invariant c.self.view_is c.in_ok-diagram.diagram c.in_ok-diagram.ensures c.args.out.now c.list.new.out c.min-room.ensures c.from_residual-in_err-list.ensures.1 c.in_err-list.ensures

pub returns : goal.returns
returns g c = held_listed c.self.invariant c.self.view_is c.in_ok-diagram.diagram c.in_ok-diagram.ensures c.args.out.now c.list.new.out c.min-room.ensures c.in_ok-list.ensures
