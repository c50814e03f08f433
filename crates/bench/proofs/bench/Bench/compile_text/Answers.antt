use Rattle.bench.specs.Texts.{compiled}
use Rattle.bench.proofs.Texts.{own_fault}
use Rattle.bench.proofs.bench.Bench.compile_text.Goals as goal

pub returns-in_err-policy : goal.returns-in_err-policy
returns-in_err-policy g c = own_fault c.in_err-policy.field-0.0 c.from_residual.result c.read_policy.new.memory c.from_residual.ensures.1 c.in_err-policy.ensures

pub returns : goal.returns
returns g c = compiled c.read_policy.new.memory c.in_ok-policy.ensures c.compile.ensures
