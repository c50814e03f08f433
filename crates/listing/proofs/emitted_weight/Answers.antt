use Rattle.std.proofs.Common.{rules}
use Rattle.listing.proofs.Emitting.{emits_what_the_diagram_gives}
use Rattle.listing.proofs.emitted_weight.Goals as goal

pub returns-clause-some : goal.returns-clause-some
returns-clause-some g c = let same = emits_what_the_diagram_gives g.met.K.WeightKind.lawful in search rules
