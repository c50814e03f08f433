-- What reading a policy text answers, and what the memory holds then.
use Rattle.std.specs.Prelude.{◌≡◌, ℕ, ◌<◌, ◌≤◌, List, length, replicate, Ok, Err, Result}
use Rattle.faults.specs.declared.layers.GrammarFault.{GrammarFault}
use Rattle.faults.specs.declared.layers.GrammarFault.TheVariants.{LongText}
use Rattle.format.specs.Limits.{text_limit}
use Rattle.grammar.specs.Reading.{Refused, Written, room_in}

-- why a text is no policy that fits: its length is judged first
pub data Rejected (text : List ℕ) (room : ℕ) : GrammarFault → Type 0 where
  too_long : text_limit < length text → Rejected text room LongText
  refused : {e : GrammarFault} → length text ≤ text_limit → Refused text room e → Rejected text room e

-- a sentence's words are written and what lies after them stays, or the memory is all zeros
abbrev pub Read : List ℕ → Result ℕ GrammarFault → List ℕ → List ℕ → Type 0
Read text (Ok n) was is = (length text ≤ text_limit) × Written text (room_in (length was)) n was is
Read text (Err e) was is = Rejected text (room_in (length was)) e × (is ≡ replicate (length was) 0)

-- the same before the memory is cleared
abbrev pub Scanned : List ℕ → Result ℕ GrammarFault → List ℕ → List ℕ → Type 0
Scanned text (Ok n) was is = (length text ≤ text_limit) × Written text (room_in (length was)) n was is
Scanned text (Err e) was is = Rejected text (room_in (length was)) e

-- no other answer and no other memory would do
abbrev pub OnlyAnswer : List ℕ → Result ℕ GrammarFault → List ℕ → List ℕ → Type 0
OnlyAnswer text r was is = (q : Result ℕ GrammarFault) (also : List ℕ) → Read text q was also → (q ≡ r) × (also ≡ is)
