use Rattle.std.proofs.Common.{◌≡◌, ℕ, ◌<◌, ◌≤◌, length, get_or}
use Rattle.format.specs.Fields.{fields, LegalValue}
use Rattle.format.specs.Words.{word}
use Rattle.frames.proofs.frame.Frame.of.Given as goal

abbrev pub invariant-loop-place : goal.invariant-loop-place
invariant-loop-place l = record {
  one_each : length l.value-items ≡ fields;
  right : (f : ℕ) → f < l.place → (get_or l.fn.words f 0 ≡ word 9 f (get_or l.value-items f 0)) × LegalValue f (get_or l.value-items f 0);
  unread : (f : ℕ) → l.place ≤ f → get_or l.value-items f 0 ≡ get_or l.fn.words f 0;
}
