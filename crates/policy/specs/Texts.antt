-- What a policy text comes to when it is read and checked.
use Rattle.std.specs.Prelude.{◌≡◌, ℕ, ◌≤◌, List, length, take, replicate, Ok, Err, Result}
use Rattle.faults.specs.declared.layers.CheckFault.{CheckFault}
use Rattle.faults.specs.declared.layers.CompileFault.{CompileFault}
use Rattle.faults.specs.declared.layers.CompileFault.TheVariants.{Text, Check}
use Rattle.format.specs.Limits.{text_limit}
use Rattle.grammar.specs.Reading.{Written, room_in}
use Rattle.checking.specs.Checked.{policy_words}
use Rattle.checking.specs.Checking.{LegalWords, Refused}
use Rattle.policy.specs.Reading.{Rejected}
use Rattle.checking.specs.declared.checked.CheckedPolicy.{CheckedPolicy}

-- the text's words are those of a legal policy, and stand in memory
pub record TextAccepted (text : List ℕ) (c : CheckedPolicy) (was is : List ℕ) : Type 0 where
  pub short : length text ≤ text_limit
  pub written : Written text (room_in (length was)) (length (policy_words c)) was is
  pub words : policy_words c ≡ take (length (policy_words c)) is
  pub legal : LegalWords (policy_words c)

-- the text is a sentence, but the check refuses its words
pub record WordsRefused (text : List ℕ) (e : CheckFault) (was : List ℕ) : Type 0 where
  pub count : ℕ
  pub memory : List ℕ
  pub short : length text ≤ text_limit
  pub written : Written text (room_in (length was)) count was memory
  pub refused : Refused (take count memory) e

-- before a refusal clears the memory
abbrev pub Checks : List ℕ → Result CheckedPolicy CompileFault → List ℕ → List ℕ → Type 0
Checks text (Ok c) was is = TextAccepted text c was is
Checks text (Err (Text e)) was is = Rejected text (room_in (length was)) e
Checks text (Err (Check e)) was is = WordsRefused text e was

-- the policy, or the fault of the layer that refused it; a refusal leaves zeros
abbrev pub Judged : List ℕ → Result CheckedPolicy CompileFault → List ℕ → List ℕ → Type 0
Judged text (Ok c) was is = TextAccepted text c was is
Judged text (Err (Text e)) was is = Rejected text (room_in (length was)) e × (is ≡ replicate (length was) 0)
Judged text (Err (Check e)) was is = WordsRefused text e was × (is ≡ replicate (length was) 0)
