-- Every answer fits.
use Rattle.std.proofs.Common.{◌≡◌, ℕ, ◌+◌, ◌*◌, ◌^◌, ◌≤◌, ◌<◌, List, [], ◌∷◌, ◌++◌, length, take, drop, decimal, Ok, Err, Result, sym, refl, ap, ◌∙◌, arith, length-append, ◌⊎◌, inl, inr, true≢false}
use Rattle.std.specs.Prelude.{codes}
use Rattle.std.specs.Int.{to_be_bytes, w32}
use Rattle.std.proofs.lemmas.Fmt.{length-decimal-le}
use Rattle.std.proofs.Math.Seq.{take-append_seam, drop-append_seam}
use Rattle.format.specs.Limits.{text_limit}
use Rattle.faults.specs.Lines.{refused_line}
use Rattle.faults.specs.declared.Shown.{Shown}
use Rattle.weights.specs.Weights.{Ops}
use Rattle.pages.specs.declared.page.Page.{Page}
use Rattle.pages.specs.Pages.{Answered, Printed, fits, short}
use Rattle.pages.proofs.Saying.{printed}
use Rattle.compiler.specs.Texts.{sizes, bytes_of_words, Gives, compiled, Compiles, OnlyBytes}
use Rattle.compiler.specs.Printing.{PrintsAnswer}
use Rattle.compiler.proofs.Once.{only_bytes}
use Rattle.compiler.proofs.Cut.{of_front}

four_each : (words : List ℕ) → length (bytes_of_words words) ≡ 4 * length words
four_each [] = refl
four_each (w ∷ words) = omega (arith, four_each words, length-append (to_be_bytes w32 w) (bytes_of_words words))

few_words : {o : Ops} {text words : List ℕ} → Gives o text (Ok words) → length words ≤ sizes.table_words
few_words (compiled h n l) = l

pub short_table : {o : Ops} {text words : List ℕ} → Gives o text (Ok words) → length (bytes_of_words words) ≤ 4 * sizes.table_words
short_table {words = words} g = omega (arith, four_each words, few_words g)

short_number : (n : ℕ) → n < 2 ^ 64 → length (decimal n) ≤ 20
short_number n h = length-decimal-le 20 n (omega arith) (omega arith) h

pub short_line : (s : Shown) → s.number < 2 ^ 64 → s.layer < 2 ^ 64 → s.place < 2 ^ 64 → length (refused_line s) ≤ 4 * sizes.table_words
short_line s n l p =
    let a = length-append (decimal s.number) (codes " layer " ++ (decimal s.layer ++ (codes " place " ++ (decimal s.place ++ (10 ∷ []))))) in
    let b = length-append (decimal s.layer) (codes " place " ++ (decimal s.place ++ (10 ∷ []))) in
    let c = length-append (decimal s.place) (10 ∷ []) in
    omega (arith, a, b, c, short_number s.number n, short_number s.layer l, short_number s.place p)

-- the bytes are in front, and behind them memory is as it was
pub record Front (bytes was : List ℕ) (n : ℕ) (is : List ℕ) : Type 0 where
  pub front : take n is ≡ bytes
  pub behind : drop n is ≡ drop n was

front_of : {bytes was is : List ℕ} {n : ℕ} (r : Result ℕ ℕ) → (r ≡ Ok n) ⊎ (r ≡ Err n) → length bytes ≤ length was → Printed bytes was r is → Front bytes was n is
front_of {bytes} {was} {n = n} r e h (fits k) =
    let size : n ≡ length bytes = elim e [ inl a ↦ cc | inr a ↦ absurd (true≢false (cc)) ] in
    record {
      front = ap (λ (m : ℕ). take m (bytes ++ drop (length bytes) was)) size ∙ take-append_seam bytes (drop (length bytes) was);
      behind = ap (λ (m : ℕ). drop m (bytes ++ drop (length bytes) was)) size ∙ drop-append_seam bytes (drop (length bytes) was) ∙ ap (λ (m : ℕ). drop m was) (sym size);
    }
front_of r e h (short k) = absurd (omega arith)

-- what is said of the first n bytes of memory, and of the rest
pub record Told (o : Ops) (text was is : List ℕ) (n : ℕ) : Type 0 where
  pub bytes : Compiles o text (take n is)
  pub only : OnlyBytes o text (take n is)
  pub front : (whole : List ℕ) → text ≡ take (text_limit + 1) whole → Compiles o whole (take n is)
  pub rest : drop n is ≡ drop n was

pub told :
    {o : Ops} {text was is : List ℕ} {a b : Page} {n : ℕ} (r : Result ℕ ℕ) (p : PrintsAnswer o text a b) →
    a.said ≡ 0 → a.memory.now ≡ was → length was ≡ 4 * sizes.table_words → Answered b.said (length b.memory.now) r → (r ≡ Ok n) ⊎ (r ≡ Err n) → is ≡ b.memory.now →
    Told o text was is n
told {o} {text} {was} {is} {a = a} {b = b} {n = n} r p blank old room answered e new =
    record { bytes = bytes; only = only_bytes o text (take n is) bytes; front = of_front o text (take n is) bytes; rest = ap (drop n) new ∙ f.behind ∙ ap (drop n) old }
  where
    f : Front p.bytes a.memory.now n b.memory.now
    f = front_of r e (let long = ap length old in let l = p.short in omega (arith, long, room, l)) (printed blank refl p.says answered refl)

    bytes : Compiles o text (take n is)
    bytes = (p.compiled.0, p.compiled.1, ap (take n) new ∙ f.front ∙ p.compiled.2)
