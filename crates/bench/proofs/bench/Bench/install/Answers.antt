use Rattle.bench.proofs.InForce.{table_sound, installs}
use Rattle.bench.proofs.bench.Bench.install.Goals as goal

pub invariant_of-self : goal.invariant_of-self
invariant_of-self g c = table_sound c.self.invariant c.put_in_force.ensures.installs

pub returns : goal.returns
returns g c = installs c.self.view_is c.put_in_force.ensures.installs
