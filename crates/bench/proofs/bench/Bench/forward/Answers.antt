use Rattle.std.proofs.Common.{length}
use Rattle.bench.proofs.Forwarding.{forwarded, fault_forwarded}
use Rattle.bench.proofs.bench.Bench.forward.Goals as goal

pub returns-in_err-forward-clause-step : goal.returns-in_err-forward-clause-step
returns-in_err-forward-clause-step g c =
    fault_forwarded c.self.invariant.lists c.args.frame.now c.checked.ensures c.self.view_is c.forward.new.out (length c.args.out.now) c.in_err-forward.field-0.0 c.from_residual.result c.from_residual.ensures.1 c.in_err-forward.ensures.exact

pub returns-clause-step : goal.returns-clause-step
returns-clause-step g c =
    forwarded c.self.invariant.lists c.args.frame.now c.checked.ensures c.self.view_is c.args.out.now c.forward.new.out c.in_ok-forward.field-0 c.in_ok-forward.ensures.within c.in_ok-forward.ensures.exact
