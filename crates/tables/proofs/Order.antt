-- The order of frames is strict and total, and what is least in it.
use Rattle.std.proofs.Common.{◌≡◌, ℕ, true, false, List, map, Some, None, Option, sym, refl, ap, ◌∙◌, inl, inr, arith}
use Rattle.std.specs.Cmp.{IsStrictWeakOrder}
use Rattle.std.specs.Cmp.Lexicographic.{slice_cmp}
use Rattle.std.specs.Ordering.{nat_cmp, is_lt, is_eq, is_gt}
use Rattle.std.specs.declared.cmp.Ordering.{Ordering}
use Rattle.std.specs.declared.cmp.Ordering.TheVariants.{Less, Equal, Greater}
use Rattle.std.proofs.lemmas.Bool.{cases_Bool, true≢false}
use Rattle.std.proofs.lemmas.Bool.Decides.{nat_tests}
use Rattle.std.proofs.lemmas.Cmp.{nat_list_cmp_total, same_from_slice_cmp}
use Rattle.std.proofs.lemmas.List.MinMax.{ranks_by}
use Rattle.frames.specs.Frames.{before}
use Rattle.tables.specs.Emits.{Sent, same}
use Rattle.tables.specs.Scans.{above}
use Rattle.tables.proofs.Scans.{same_decides}

abbrev pub frames_of : List Sent → List (List ℕ)
frames_of xs = map (λ x. x.frame) xs

-- what comparing two lists of values says
pub lt_before : (s t : List ℕ) → is_lt (slice_cmp nat_cmp s t) ≡ before s t
lt_before s t = same_from_slice_cmp nat_cmp is_lt before refl (λ _ _. refl) (λ _ _. refl) (λ x y xs ys o h. grind (arith, nat_tests)) s t _ refl

gt_before : (s t : List ℕ) → is_gt (slice_cmp nat_cmp s t) ≡ before t s
gt_before s t = same_from_slice_cmp nat_cmp is_gt (λ s t. before t s) refl (λ _ _. refl) (λ _ _. refl) (λ x y xs ys o h. grind (arith, nat_tests)) s t _ refl

eq_same : (s t : List ℕ) → is_eq (slice_cmp nat_cmp s t) ≡ same s t
eq_same s t = same_from_slice_cmp nat_cmp is_eq same refl (λ _ _. refl) (λ _ _. refl) (λ x y xs ys o h. grind (arith, nat_tests)) s t _ refl

-- what comparing two frames says of their order
pub compared : (s t : List ℕ) (o : Ordering) → slice_cmp nat_cmp s t ≡ o → (before s t ≡ is_lt o) × (same s t ≡ is_eq o)
compared s t o e = (sym (lt_before s t) ∙ ap is_lt e, sym (eq_same s t) ∙ ap is_eq e)

pub before_ranks : IsStrictWeakOrder before
before_ranks =
    let o = ranks_by nat_list_cmp_total (λ (s : List ℕ). s) in
    record {
      one_way = λ s t h. sym (lt_before t s) ∙ o.one_way s t (lt_before s t ∙ h);
      chain = λ s t u h i. sym (lt_before s u) ∙ o.chain s t u (lt_before s t ∙ h) (lt_before t u ∙ i);
    }

pub asymmetric : (s t : List ℕ) → before s t ≡ true → before t s ≡ false
asymmetric = before_ranks.one_way

pub irreflexive : (s : List ℕ) → before s s ≡ false
irreflexive s = elim (cases_Bool (before s s)) [ inl h ↦ asymmetric s s h | inr h ↦ h ]

pub connected : (s t : List ℕ) → before s t ≡ false → before t s ≡ false → s ≡ t
connected s t h i = go (slice_cmp nat_cmp s t) (lt_before s t) (eq_same s t) (gt_before s t)
  where
    go : (o : Ordering) → is_lt o ≡ before s t → is_eq o ≡ same s t → is_gt o ≡ before t s → s ≡ t
    go Less a b c = absurd (true≢false (a ∙ h))
    go Equal a b c = (same_decides s t).0 (sym b)
    go Greater a b c = absurd (true≢false (c ∙ i))

-- what is not above a bound is before what is
pub above_between : (last : Option (List ℕ)) (t u : List ℕ) → above last t ≡ true → above last u ≡ false → before u t ≡ true
above_between None t u h i = absurd (true≢false i)
above_between (Some s) t u h i = elim (cases_Bool (before u t)) [
  | inl e ↦ e
  | inr e ↦ absurd (true≢false (sym h ∙ before_ranks.chain s u t i e))
]
