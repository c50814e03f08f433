use Rattle.trials.proofs.Answering.{Progress}
use Rattle.trials.proofs.answers.print_answers.Given as goal

abbrev pub invariant-loop-place : goal.invariant-loop-place
invariant-loop-place l = Progress l.initial.page l.calls l.answers l.fn.words l.place l.rest l.page
