use Rattle.std.proofs.Common.{◌≡◌, length}
use Rattle.scripts.specs.Forwards.{settings_said, zeros}
use Rattle.scripts.specs.Words.{words}
use Rattle.scripts.proofs.forwards.settings.Given as goal

abbrev pub invariant-loop-said : goal.invariant-loop-said
invariant-loop-said l = settings_said l.frame.values (words l.rest) ≡ settings_said zeros (words l.fn.text)

abbrev pub decreases-loop-said : goal.decreases-loop-said
decreases-loop-said l = length l.rest
