-- What is told fits the memory that was lent for it.
use Rattle.std.proofs.Common.{ℕ, ◌≤◌, List, length, Result, IfOk}
use Rattle.counts.specs.declared.memory.Sizes.{Sizes}
use Rattle.pages.proofs.Saying.{printed_within}
use Rattle.weights.specs.Weights.{Ops}
use Rattle.trials.specs.declared.told.Short.{Short}
use Rattle.trials.specs.declared.told.Told.{Told}
use Rattle.trials.specs.Trials.{Tried, no_call, long_no_call, many, short, told, long, told_length}

pub within : {o : Ops} {z : Sizes} {script was is : List ℕ} {room : ℕ} {r : Result Told Short} → Tried o z script room was r is → IfOk r (λ t. told_length t ≤ length was)
within (no_call e p) = printed_within p
within (long_no_call e p) = tt
within (many e l) = tt
within (short e l h) = tt
within (told t p) = printed_within p
within (long t p) = tt
