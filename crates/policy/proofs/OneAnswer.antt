-- A text and a memory have one answer.
use Rattle.std.proofs.Common.{◌≡◌, ℕ, ◌≤◌, List, length, Ok, Err, Result, sym, refl, ap, ◌∙◌, arith}
use Rattle.faults.specs.declared.layers.GrammarFault.{GrammarFault}
use Rattle.format.specs.Limits.{text_limit}
use Rattle.grammar.specs.Reading.{Written}
use Rattle.grammar.proofs.Determined.{accepted_or_refused, one_fault, one_result}
use Rattle.policy.specs.Reading.{Rejected, Read, OnlyAnswer}

pub not_rejected : {text : List ℕ} {room n : ℕ} {was is : List ℕ} {e : GrammarFault} → length text ≤ text_limit → Written text room n was is → Rejected text room e → ⊥
not_rejected h w (Rejected.too_long k) = omega arith
not_rejected h w (Rejected.refused k r) = accepted_or_refused w r

pub one_rejection : {text : List ℕ} {room : ℕ} {e f : GrammarFault} → Rejected text room e → Rejected text room f → e ≡ f
one_rejection (Rejected.too_long h) (Rejected.too_long k) = refl
one_rejection (Rejected.too_long h) (Rejected.refused k r) = absurd (omega arith)
one_rejection (Rejected.refused h r) (Rejected.too_long k) = absurd (omega arith)
one_rejection (Rejected.refused h r) (Rejected.refused k q) = one_fault r q

pub only_answer : (text : List ℕ) (r : Result ℕ GrammarFault) (was is : List ℕ) → Read text r was is → OnlyAnswer text r was is
only_answer text (Ok n) was is a (Ok m) also b = let x = one_result b.1 a.1 in (ap Ok x.0, x.1)
only_answer text (Ok n) was is a (Err e) also b = absurd (not_rejected a.0 a.1 b.0)
only_answer text (Err e) was is a (Ok m) also b = absurd (not_rejected b.0 b.1 a.0)
only_answer text (Err e) was is a (Err f) also b = (ap Err (one_rejection b.0 a.0), b.1 ∙ sym a.1)
