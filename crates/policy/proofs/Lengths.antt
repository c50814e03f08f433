-- A text that is not too long is answered as the grammar answers it.
use Rattle.std.proofs.Common.{ℕ, ◌≤◌, List, length, Ok, Err, Result}
use Rattle.faults.specs.declared.layers.GrammarFault.{GrammarFault}
use Rattle.format.specs.Limits.{text_limit}
use Rattle.grammar.specs.Reading.{Answers, room_in}
use Rattle.policy.specs.Reading.{Rejected, Scanned}

pub scanned : (text was is : List ℕ) (r : Result ℕ GrammarFault) → length text ≤ text_limit → Answers text (room_in (length was)) r was is → Scanned text r was is
scanned text was is (Ok n) h a = (h, a)
scanned text was is (Err e) h a = Rejected.refused h a
