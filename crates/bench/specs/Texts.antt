-- What compiling a policy text does.
use Rattle.std.specs.Prelude.{ℕ, List, replicate, Result, Ok, Err}
use Rattle.format.specs.Limits.{words_limit}
use Rattle.faults.specs.declared.layers.CompileFault.{CompileFault}
use Rattle.faults.specs.declared.layers.BenchFault.{BenchFault}
use Rattle.faults.specs.declared.layers.BenchFault.TheVariants.{Text}
use Rattle.weights.specs.Weights.{Ops}
use Rattle.checking.specs.declared.checked.CheckedPolicy.{CheckedPolicy}
use Rattle.checking.specs.Checked.{policy_words}
use Rattle.policy.specs.Texts.{Judged}
use Rattle.steps.specs.States.{State}
use Rattle.steps.specs.Steps.{Compile, Step}
use Rattle.bench.specs.Replies.{word_reply}

-- the memory that a text's words are read into
abbrev pub words_memory : List ℕ
words_memory = replicate words_limit 0

-- the text's own fault, and nothing changes; or the step of compiling its words
pub data CompilesText (o : Ops) (text : List ℕ) (s : State) : Result ℕ BenchFault → State → Type 0 where
  text_refused : {f : CompileFault} (is : List ℕ) → Judged text (Err f) words_memory is → CompilesText o text s (Err (Text f)) s
  compiled :
      {p : CheckedPolicy} (is : List ℕ) {r : Result ℕ BenchFault} {s' : State} →
      Judged text (Ok p) words_memory is →
      Step o s (Compile (policy_words p)) (word_reply r) s' →
      CompilesText o text s r s'
