-- The sets of an action, and what they do to a frame. Assumes nothing.
use Rattle.std.proofs.Common.{◌≡◌, ℕ, suc, ◌+◌, ◌<◌, ◌≤◌, [], ◌∷◌, length, get_or, set, Some, None, refl, ap, ◌∙◌, subst, add-zero, arith}
use Rattle.format.specs.Fields.{fields}
use Rattle.format.specs.Actions.{apply, LegalSet}
use Rattle.tables.specs.Rows.{LegalPairs}
use Rattle.tables.specs.Emits.{replaced}
use Rattle.meaning.specs.Leaves.{Action, Frame}
use Rattle.listing.specs.Rows.{sets_from}

-- sets of later fields leave the first field
replaced_later : (f : ℕ) (a : Action) (v : ℕ) (s : Frame) → replaced (sets_from (suc f) a) (v ∷ s) ≡ v ∷ replaced (sets_from f a) s
replaced_later f [] v s = refl
replaced_later f (None ∷ a) v s = replaced_later (suc f) a v s
replaced_later f (Some n ∷ a) v s = replaced_later (suc f) a v (set s f n)

-- the sets of an action do what the action does
pub replaced_sets : (a : Action) (s : Frame) → length a ≡ length s → replaced (sets_from 0 a) s ≡ apply a s
replaced_sets [] [] e = refl
replaced_sets [] (v ∷ s) e = absurd (omega arith)
replaced_sets (x ∷ a) [] e = absurd (omega arith)
replaced_sets (None ∷ a) (v ∷ s) e =
    replaced_later 0 a v s ∙ ap {B = Frame} (λ r. v ∷ r) (replaced_sets a s (omega arith))
replaced_sets (Some n ∷ a) (v ∷ s) e =
    replaced_later 0 a n s ∙ ap {B = Frame} (λ r. n ∷ r) (replaced_sets a s (omega arith))

shift : (f i : ℕ) → f + suc i ≡ suc f + i
shift f i = omega arith

-- the sets of an action with legal values are legal
pub legal_sets :
    (f : ℕ) (a : Action) →
    f + length a ≤ fields →
    ((i : ℕ) → i < length a → LegalSet (f + i) (get_or a i None)) →
    (b : ℕ) →
    b ≤ f →
    LegalPairs b (sets_from f a)
legal_sets f [] room legal b l = tt
legal_sets f (None ∷ a) room legal b l =
    legal_sets (suc f) a (omega arith) (λ i k. subst (λ (g : ℕ). LegalSet g (get_or a i None)) (shift f i) (legal (suc i) (omega arith))) b (omega arith)
legal_sets f (Some n ∷ a) room legal b l = (
  l,
  omega arith,
  subst (λ (g : ℕ). LegalSet g (Some n)) (add-zero f) (legal 0 (omega arith)),
  legal_sets (suc f) a (omega arith) (λ i k. subst (λ (g : ℕ). LegalSet g (get_or a i None)) (shift f i) (legal (suc i) (omega arith))) (suc f) (omega arith),
)
