-- A policy text, compiled or refused. Assumes nothing.
use Rattle.std.proofs.Common.{◌≡◌, ℕ, List, Result, Err, sym, subst}
use Rattle.std.specs.Result.{IsErrAnd}
use Rattle.faults.proofs.PassedOn.{passed_on}
use Rattle.faults.specs.declared.layers.CompileFault.{CompileFault}
use Rattle.faults.specs.declared.layers.BenchFault.{BenchFault}
use Rattle.faults.specs.declared.layers.BenchFault.TheVariants.{Text}
use Rattle.weights.specs.Weights.{Ops}
use Rattle.policy.specs.Texts.{Judged}
use Rattle.steps.specs.States.{State}
use Rattle.bench.specs.Texts.{CompilesText, text_refused, words_memory}

pub own_fault : {o : Ops} {text : List ℕ} {s : State} (f : CompileFault) (r : Result ℕ BenchFault) (is : List ℕ) → IsErrAnd r (λ e. e ≡ Text f) → Judged text (Err f) words_memory is → CompilesText o text s r s
own_fault {o} {text} {s} f r is i j = subst (λ (x : Result ℕ BenchFault). CompilesText o text s x s) (sym (passed_on i)) (text_refused is j)
