use Rattle.scripts.proofs.Progress.{Progress, left}
use Rattle.scripts.proofs.scripts.write_frames.Given as goal

abbrev pub invariant-loop-rest : goal.invariant-loop-rest
invariant-loop-rest l = Progress l.fn.script l.rest l.number l.needs l.frames

abbrev pub decreases-loop-rest : goal.decreases-loop-rest
decreases-loop-rest l = left l.rest
