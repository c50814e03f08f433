-- The words of a frame, place by place.
use Rattle.std.proofs.Common.{◌≡◌, ℕ, zero, suc, ◌+◌, ◌<◌, List, [], ◌∷◌, length, get_or, drop, Ok, Err, Result, sym, refl, ap, ◌∙◌, subst, add-zero, arith, MatchResult}
use Rattle.std.proofs.lemmas.List.{ext_get_or}
use Rattle.std.proofs.lemmas.List.FromFn.{fill_by_all}
use Rattle.format.specs.Fields.{fields}
use Rattle.format.specs.Words.{word}
use Rattle.faults.specs.declared.layers.FrameFault.{FrameFault}
use Rattle.faults.specs.declared.layers.FrameFault.TheVariants.{Length, BadWord, NoRoom}
use Rattle.frames.specs.declared.frame.Frame.{Frame}
use Rattle.frames.specs.Frames.{FrameValues, FieldWord, NoFrame, frame_words, words_from, FrameRead}

-- what a frame's type says: the check knows an array's length only where the frame is at hand
pub values_of_frame : (s : Frame) → length s.values ≡ fields → FrameValues s.values
values_of_frame s e = record { one_each = e; in_range = s.legal }

pub length_words : (f : ℕ) (s : List ℕ) → length (words_from f s) ≡ length s
length_words f [] = refl
length_words f (n ∷ s) = ap suc (length_words (f + 1) s)

pub word_at : (f : ℕ) (s : List ℕ) (k : ℕ) → k < length s → get_or (words_from f s) k 0 ≡ word 9 (f + k) (get_or s k 0)
word_at f [] k h = absurd (omega arith)
word_at f (n ∷ s) zero h = ap (λ x. word 9 x n) (sym (add-zero f))
word_at f (n ∷ s) (suc k) h =
    grind (arith, word_at (f + 1) s k)

-- words are those of a frame if each is right
pub words_from_places :
    (ws s : List ℕ) →
    length ws ≡ length s →
    ((k : ℕ) → k < length s → get_or ws k 0 ≡ word 9 k (get_or s k 0)) →
    ws ≡ frame_words s
words_from_places ws s e h =
    ext_get_or 0 ws (frame_words s) (e ∙ sym (length_words 0 s)) λ k l.
    grind (arith, word_at)

pub words_injective : (f : ℕ) (s t : List ℕ) → words_from f s ≡ words_from f t → s ≡ t
words_injective f [] [] e = refl
words_injective f [] (n ∷ t) e = cc
words_injective f (m ∷ s) [] e = cc
words_injective f (m ∷ s) (n ∷ t) e =
    let h : m ≡ n = (let z = ap (λ xs. get_or xs 0 0) e in omega arith) in
    ap (λ x. x ∷ s) h ∙ ap (λ xs. n ∷ xs) (words_injective (f + 1) s t (ap (drop 1) e))

-- every word of a frame is right
pub field_words : (s : List ℕ) → FrameValues s → (f : ℕ) → f < fields → FieldWord f (get_or (frame_words s) f 0)
field_words s v f l =
    let e = word_at 0 s f (omega (arith, v.one_each)) in
    let r = v.in_range f l in
    (omega arith, omega arith)

pub reads_back :
    (ws : List ℕ) (r : Result Frame FrameFault) →
    MatchResult r (λ s. ws ≡ frame_words s.values) (λ e. NoFrame e ws) →
    (s : List ℕ) →
    FrameValues s →
    ws ≡ frame_words s →
    MatchResult r (λ t. t.values ≡ s) (λ _. ⊥)
reads_back ws (Ok t) h s v e = words_injective 0 t.values s (sym h ∙ e)
reads_back ws (Err Length) h s v e = h (ap length e ∙ length_words 0 s ∙ v.one_each)
reads_back ws (Err (BadWord i)) h s v e =
    h.3 (subst (λ (xs : List ℕ). FieldWord i (get_or xs i 0)) (sym e) (field_words s v i h.1))
reads_back ws (Err NoRoom) h s v e = h

-- both of what reading promises, from the first
pub reads : (ws : List ℕ) (r : Result Frame FrameFault) → MatchResult r (λ s. ws ≡ frame_words s.values) (λ e. NoFrame e ws) → FrameRead ws r
reads ws r h = record { read = h; back = reads_back ws r h }

pub eight :
    (ws : List ℕ) →
    length ws ≡ fields →
    ws ≡ get_or ws 0 0 ∷ get_or ws 1 0 ∷ get_or ws 2 0 ∷ get_or ws 3 0 ∷ get_or ws 4 0 ∷ get_or ws 5 0 ∷ get_or ws 6 0 ∷ get_or ws 7 0 ∷ []
eight ws e = fill_by_all (λ k. get_or ws k 0) ws 8 0 e (λ _ _. refl)
