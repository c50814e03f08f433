use Rattle.engine.proofs.Reading.{action_counted}
use Rattle.engine.proofs.Showing.{shows_none, shows_drop, shows_cell, shows_test}
use Rattle.engine.proofs.engine.Engine.read.Goals as goal

pub returns-in_default : goal.returns-in_default
returns-in_default g c = shows_none c.self.invariant c.self.view_is c.args.word c.in_default.ensures

pub action-requires-clause-held : goal.action-requires-clause-held
action-requires-clause-held g c = let h = c.cell-own.ensures.action_present in (h.0, action_counted _ _ c.self.invariant.good _ h.1)

pub returns-in-Leaf : goal.returns-in-Leaf
returns-in-Leaf g c = shows_drop c.self.invariant c.self.view_is c.args.word c.in-Ok.diagram c.in-Ok.ensures c.in-Leaf.is c.if-first-eq0.true

pub returns-in-Leaf-2 : goal.returns-in-Leaf-2
returns-in-Leaf-2 g c = shows_cell c.self.invariant c.self.view_is c.args.word c.in-Ok.diagram c.in-Ok.ensures c.action.result c.in-Leaf-2.is c.cell-own.ensures c.action.ensures c.from.ensures.word

pub returns-in-Branch : goal.returns-in-Branch
returns-in-Branch g c =
    shows_test c.self.invariant c.self.view_is c.args.word c.in-Ok.diagram c.in-Ok.ensures c.in-Branch.is c.node-root.ensures c.from-in-Branch.ensures.word c.from-in-Branch-2.ensures.word
