-- Enough of a text is read: one that is too long is refused for what its first bytes show.
use Rattle.std.proofs.Common.{◌≡◌, ℕ, ◌+◌, ◌≤◌, ◌<◌, List, length, take, Err, sym, refl, subst, ⊎_elim, arith}
use Rattle.std.proofs.lemmas.List.{take_all, length-take}
use Rattle.std.proofs.lemmas.Bool.{cases_lt}
use Rattle.format.specs.Limits.{text_limit}
use Rattle.faults.specs.declared.layers.CompileFault.TheVariants as compile
use Rattle.faults.specs.declared.layers.GrammarFault.TheVariants.{LongText}
use Rattle.faults.specs.declared.layers.BenchFault.TheVariants.{Text}
use Rattle.policy.specs.Reading.{too_long}
use Rattle.policy.specs.Verdicts.{no_sentence}
use Rattle.weights.specs.Weights.{Ops}
use Rattle.compiler.specs.Texts.{no_policy, bytes_of, Compiles}
use Rattle.compiler.proofs.Once.{only_bytes}

abbrev long_line : List ℕ
long_line = bytes_of (Err (Text (compile.Text LongText)))

long : (o : Ops) (text : List ℕ) → text_limit < length text → Compiles o text long_line
long o text h = (Err (Text (compile.Text LongText)), no_policy (no_sentence (too_long h)), refl)

whole : (o : Ops) (text bytes : List ℕ) → Compiles o (take (text_limit + 1) text) bytes → Compiles o text bytes
whole o text bytes c =
    ⊎_elim
    (λ (more : text_limit + 1 < length text).
    let cut : text_limit < length (take (text_limit + 1) text) = omega (arith, length-take (text_limit + 1) text) in
    subst (Compiles o text) (sym (only_bytes o _ long_line (long o _ cut) bytes c)) (long o text (omega arith)))
    (λ (all : length text ≤ text_limit + 1). subst (λ (t : List ℕ). Compiles o t bytes) (take_all (text_limit + 1) text all) c)
    (cases_lt (text_limit + 1) (length text))

pub of_front : (o : Ops) (cut bytes : List ℕ) → Compiles o cut bytes → (text : List ℕ) → cut ≡ take (text_limit + 1) text → Compiles o text bytes
of_front o cut bytes c text e = whole o text bytes (subst (λ (t : List ℕ). Compiles o t bytes) e c)
