use Rattle.checking.specs.Flags.{flags}
use Rattle.checking.proofs.Verdicts.{Progress}
use Rattle.checking.proofs.checking.check.Given as goal

-- the flags are those of the operands that wait after the words so far
abbrev pub invariant-loop-place : goal.invariant-loop-place
invariant-loop-place l = Progress l.words l.place (flags l.waiting)
