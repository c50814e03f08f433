-- What the engine does is a step of the bench. Assumes nothing.
use Rattle.std.proofs.Common.{◌≡◌, ℕ, List, Result, Ok, Err, sym, subst}
use Rattle.std.specs.Result.{IsErrAnd}
use Rattle.faults.proofs.PassedOn.{passed_on}
use Rattle.faults.specs.declared.layers.StoreFault.{StoreFault}
use Rattle.faults.specs.declared.layers.BenchFault.{BenchFault}
use Rattle.faults.specs.declared.layers.BenchFault.TheVariants.{Store}
use Rattle.weights.specs.Weights.{Ops}
use Rattle.stored.specs.Stored.{Holdings}
use Rattle.stored.specs.Calls.{Call, Constructs, built as was_built, full as was_full, not_held as was_not_held}
use Rattle.steps.specs.States.{State}
use Rattle.steps.specs.Steps.{Word, Refused, Step, refused, built, full, not_held}
use Rattle.bench.specs.Views.{state_of}
use Rattle.bench.specs.Replies.{word_reply}

built_step : {o : Ops} {h h' : Holdings} {c : Call} {w : ℕ} (ws : List ℕ) (n : ℕ) → Constructs o h c (Ok w) h' → Step o (state_of h ws n) c (Word w) (state_of h' ws n)
built_step ws n (was_built b g) = built b g

refused_step : {o : Ops} {h h' : Holdings} {c : Call} {f : StoreFault} (ws : List ℕ) (n : ℕ) → Constructs o h c (Err f) h' → Step o (state_of h ws n) c (Refused (Store f)) (state_of h' ws n)
refused_step ws n (was_full b v) = refused (full b v)
refused_step ws n (was_not_held u) = refused (not_held u)

module _ {o : Ops} {h h' : Holdings} {c : Call} (ws : List ℕ) (n : ℕ) {s : State} (e : state_of h ws n ≡ s) where
  pub constructed : {w : ℕ} → Constructs o h c (Ok w) h' → Step o s c (Word w) (state_of h' ws n)
  constructed {w} k = subst (λ (t : State). Step o t c (Word w) (state_of h' ws n)) e (built_step ws n k)

  pub refusal : (r : Result ℕ BenchFault) {f : StoreFault} → IsErrAnd r (λ e. e ≡ Store f) → Constructs o h c (Err f) h' → Step o s c (word_reply r) (state_of h' ws n)
  refusal r {f} i k =
      subst (λ (t : State). Step o t c (word_reply r) (state_of h' ws n)) e
      (subst (λ (x : Result ℕ BenchFault). Step o (state_of h ws n) c (word_reply x) (state_of h' ws n)) (sym (passed_on i)) (refused_step ws n k))
