-- An emitted frame has as many values as the frame that came in.
use Rattle.std.proofs.Common.{◌≡◌, ℕ, suc, ◌+◌, true, false, cond, ◌&&◌, eqb, List, [], ◌∷◌, length, set, sym, refl, ap, ◌∙◌, inl, inr, length-set}
use native.Mathlib.Decide.{ℕ_discrete}
use Rattle.std.specs.List.{AllByRecursion}
use Rattle.format.specs.Fields.{fields}
use Rattle.frames.specs.Frames.{words_from}
use Rattle.weights.specs.Weights.{Ops}
use Rattle.tables.specs.Rows.{Pair, Emission, Row}
use Rattle.tables.specs.Emits.{Sent, sent_length, sent_words, replaced, same, joins, holds, emits, In}

replaced_length : (ps : List Pair) (s : List ℕ) → length (replaced ps s) ≡ length s
replaced_length [] s = refl
replaced_length (p ∷ ps) s = replaced_length ps (set s p.0 p.1) ∙ length-set s p.0 p.1

-- lists of other lengths are not the same
same_length : (s t : List ℕ) → (length s ≡ length t → ⊥) → same s t ≡ false
same_length [] [] other = absurd (other refl)
same_length [] (n ∷ t) other = refl
same_length (m ∷ s) [] other = refl
same_length (m ∷ s) (n ∷ t) other =
    let rest = same_length s t (λ e. other (ap suc e))
    in elim (eqb m n) as (λ b. (b && same s t) ≡ false) [ true ↦ rest | false ↦ refl ]

joins_other :
    (o : Ops) (s t : List ℕ) (a : ℕ) (es : List Emission) → (length s ≡ length t → ⊥) → joins o s t a es ≡ a
joins_other o s t a [] other = refl
joins_other o s t a (e ∷ es) other =
    let no = same_length (replaced e.sets s) t (λ h. other (sym (replaced_length e.sets s) ∙ h))
    in let step : cond (same (replaced e.sets s) t) (o.join a e.weight) a ≡ a = ap (λ b. cond b (o.join a e.weight) a) no
    in ap (λ w. joins o s t w es) step ∙ joins_other o s t a es other

emits_other :
    (o : Ops) (rows : List Row) (s t : List ℕ) → (length s ≡ length t → ⊥) → emits o rows s t ≡ o.zero
emits_other o [] s t other = refl
emits_other o (r ∷ rows) s t other =
    let here = joins_other o s t o.zero r.emissions other
    in let later = emits_other o rows s t other
    in elim (holds r.matches s) as (λ b. cond b (joins o s t o.zero r.emissions) (emits o rows s t) ≡ o.zero)
    [ true ↦ here | false ↦ later ]

words_length : (f : ℕ) (s : List ℕ) → length (words_from f s) ≡ length s
words_length f [] = refl
words_length f (n ∷ s) = ap suc (words_length (f + 1) s)

-- each emitted frame takes as many words as a weight and the fields
pub answer_wide :
    (o : Ops) (rows : List Row) (s : List ℕ) (answer : List Sent) →
    length s ≡ fields →
    ((x : Sent) → In x answer → (emits o rows s x.frame ≡ x.weight) × (x.weight ≡ o.zero → ⊥)) →
    AllByRecursion (λ x. length (sent_words x) ≡ sent_length) answer
answer_wide o rows s [] eight sound = tt
answer_wide o rows s (x ∷ answer) eight sound =
    let here = sound x (inl refl)
    in let wide : length s ≡ length x.frame =
    elim (ℕ_discrete (length s) (length x.frame))
    [ yes e ↦ e | no n ↦ absurd (here.1 (sym here.0 ∙ emits_other o rows s x.frame n)) ]
    in let w = words_length 0 x.frame
    in let nine : length (sent_words x) ≡ sent_length = ap suc (w ∙ sym wide ∙ eight)
    in (nine, answer_wide o rows s answer eight (λ y i. sound y (inr i)))
