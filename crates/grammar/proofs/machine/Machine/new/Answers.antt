use Rattle.std.proofs.Common.{refl, rules}
use Rattle.grammar.proofs.Finishing.{start_stands}
use Rattle.grammar.proofs.machine.Machine.new.Goals as goal

pub returns-clause-stands : goal.returns-clause-stands
returns-clause-stands c = start_stands _ _ refl (search rules) c.new.ensures refl refl refl
