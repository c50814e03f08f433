-- What a bench is asked for a call, and what an answer says.
use Rattle.std.specs.Prelude.{◌≡◌, ℕ, ◌≤◌, List, length, take, drop, replicate, Option, Some, None, Result, Ok, Err, sum_by}
use Rattle.std.specs.List.{slice_get}
use Rattle.faults.specs.declared.layers.CompileFault.{CompileFault}
use Rattle.checking.specs.declared.checked.CheckedPolicy.{CheckedPolicy}
use Rattle.checking.specs.Checked.{policy_words}
use Rattle.policy.specs.Texts.{Judged}
use Rattle.bench.specs.Texts.{words_memory}
use Rattle.steps.specs.Steps as bench
use Rattle.calls.specs.declared.Operand.{Operand}
use Rattle.calls.specs.declared.Operand.TheVariants as operand
use Rattle.calls.specs.declared.Call.{Call}
use Rattle.calls.specs.declared.Call.TheVariants.{Compile, Union, Sequence, Star, Install, Forward}
use Rattle.series.specs.declared.answers.Answer.{Answer}
use Rattle.series.specs.declared.answers.Answer.TheVariants.{Word, Installed, Written, Refused}

-- how many words of memory a call is given for its answer
abbrev pub part_length : Call → ℕ
part_length (Compile text) = 0
part_length (Union x y) = 0
part_length (Sequence x y) = 0
part_length (Star x) = 0
part_length (Install x) = 0
part_length (Forward frame n) = n

abbrev pub parts_length : List Call → ℕ
parts_length calls = sum_by part_length calls

-- no diagram has this word
abbrev pub no_word : ℕ
no_word = 4294967295

abbrev pub word_given : Option Answer → ℕ
word_given None = no_word
word_given (Some (Word w)) = w
word_given (Some (Installed n)) = no_word
word_given (Some (Written n)) = no_word
word_given (Some (Refused f)) = no_word

-- the word that an operand names after these answers
abbrev pub named : List Answer → Operand → ℕ
named answers (operand.Word w) = w
named answers (operand.Answer n) = word_given (slice_get answers n)

-- what reading a text comes to
pub record Reads (text : List ℕ) (result : Result CheckedPolicy CompileFault) : Type 0 where
  pub words : List ℕ
  pub judged : Judged text result words_memory words

abbrev pub compiles : Result CheckedPolicy CompileFault → Result bench.Call CompileFault
compiles (Ok p) = Ok (bench.Compile (policy_words p))
compiles (Err f) = Err f

-- what a bench is asked for a call after these answers, or why it is asked nothing: a text that is no policy
abbrev pub Asks : List Answer → Call → Result bench.Call CompileFault → Type 0
Asks answers (Compile text) r = (p : Result CheckedPolicy CompileFault) × Reads text.now p × (r ≡ compiles p)
Asks answers (Union x y) r = r ≡ Ok (bench.Union (named answers x) (named answers y))
Asks answers (Sequence x y) r = r ≡ Ok (bench.Sequence (named answers x) (named answers y))
Asks answers (Star x) r = r ≡ Ok (bench.Star (named answers x))
Asks answers (Install x) r = r ≡ Ok (bench.Install (named answers x))
Asks answers (Forward frame n) r = r ≡ Ok (bench.Forward frame.now n)

-- the reply that an answer tells, with the words in its part of memory
abbrev pub told : Answer → List ℕ → bench.Reply
told (Word w) words = bench.Word w
told (Installed n) words = bench.Installed n
told (Written n) words = bench.Written (take n words)
told (Refused f) words = bench.Refused f

-- what an answer leaves of its part of memory: what lies behind the words written is kept, and a refusal leaves zeros
abbrev pub Leaves : Answer → List ℕ → List ℕ → Type 0
Leaves (Word w) was is = is ≡ was
Leaves (Installed n) was is = is ≡ was
Leaves (Written n) was is = (n ≤ length was) × (drop n is ≡ drop n was)
Leaves (Refused f) was is = is ≡ replicate (length was) 0
