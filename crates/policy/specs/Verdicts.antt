-- What a text is, whatever memory it is read into.
use Rattle.std.specs.Prelude.{ℕ, ◌≤◌, List, [], length}
use Rattle.faults.specs.declared.layers.GrammarFault.{GrammarFault}
use Rattle.faults.specs.declared.layers.CheckFault.{CheckFault}
use Rattle.faults.specs.declared.layers.CompileFault.{CompileFault}
use Rattle.faults.specs.declared.layers.CompileFault.TheVariants.{Text, Check}
use Rattle.format.specs.Limits.{text_limit, words_limit}
use Rattle.grammar.specs.Reading.{Written}
use Rattle.checking.specs.Checking.{Refused}
use Rattle.policy.specs.Reading.{Rejected}

-- the text is a sentence, and these are its words
pub record Reads (text words : List ℕ) : Type 0 where
  pub short : length text ≤ text_limit
  pub written : Written text words_limit (length words) [] words

-- why a text is no legal policy: it is no sentence, or the check refuses its words
pub data NoPolicy (text : List ℕ) : CompileFault → Type 0 where
  no_sentence : {f : GrammarFault} → Rejected text words_limit f → NoPolicy text (Text f)
  not_legal : {words : List ℕ} {f : CheckFault} → Reads text words → Refused words f → NoPolicy text (Check f)
