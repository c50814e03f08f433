use Rattle.std.proofs.Common.{◌≡◌, ℕ, List, ◌++◌, Ok}
use Rattle.scripts.specs.Lines.{Asked}
use Rattle.scripts.specs.Scripts.{frames_of, script_said}
use Rattle.scripts.proofs.Progress.{lines_left, left}
use Rattle.scripts.proofs.Retrieving.{Retrieved}
use Rattle.scripts.proofs.scripts.read_calls.Given as goal

abbrev pub invariant-loop-rest : goal.invariant-loop-rest
invariant-loop-rest l = (cs : List Asked) (more : List ℕ) → script_said l.fn.script ≡ Ok cs → l.fn.frames ≡ frames_of cs ++ more → Retrieved cs more (lines_left l.rest) l.unread l.count l.calls

abbrev pub decreases-loop-rest : goal.decreases-loop-rest
decreases-loop-rest l = left l.rest
