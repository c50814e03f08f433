-- The first word of a line, and the words behind it.
use Rattle.std.proofs.Common.{◌≡◌, ℕ, Bool, false, not, List, [], ◌∷◌, length, take, drop, refl, sym, ap, ◌∙◌, inl, inr, arith, filter, ◌==◌}
use Rattle.std.specs.List.{prefix_len, position_or_len, slice_split}
use Rattle.std.proofs.lemmas.List.Folds.{length-prefix_len}
use Rattle.std.proofs.lemmas.Bool.{cases_Bool}
use Rattle.std.proofs.lemmas.Bool.Decides.{nat_tests}

abbrev filled : List (List ℕ) → List (List ℕ)
filled parts = filter (λ w. not (length w == 0)) parts

kept_first : (w : List ℕ) (rest : List (List ℕ)) → (length w ≡ 0 → ⊥) → filled (w ∷ rest) ≡ w ∷ filled rest
kept_first [] rest h = absurd (h refl)
kept_first (b ∷ bs) rest h = let e : (length (b ∷ bs) == 0) ≡ false = grind (arith, nat_tests) in rw e refl

module _ (p : ℕ → Bool) where
  abbrev cut_words : List ℕ → List (List ℕ)
  cut_words bs = filled (slice_split p bs)

  abbrev skipped : List ℕ → List ℕ
  skipped bs = drop (prefix_len p bs) bs

  words_skipped : (bs : List ℕ) → cut_words (skipped bs) ≡ cut_words bs
  words_skipped [] = refl
  words_skipped (b ∷ bs) = elim (cases_Bool (p b)) [
    | inl e ↦ rw e (grind (arith, words_skipped bs))
    | inr e ↦ rw (e, e) refl
  ]

  skipped_once : (bs : List ℕ) → prefix_len p (skipped bs) ≡ 0
  skipped_once [] = refl
  skipped_once (b ∷ bs) = elim (cases_Bool (p b)) [
    | inl e ↦ rw e (grind (arith, skipped_once bs))
    | inr e ↦ rw (e, e) refl
  ]

  -- the first piece, which may be empty, and the words of what is left
  first_piece : (bs : List ℕ) → (rest : List (List ℕ)) × (slice_split p bs ≡ take (position_or_len p bs) bs ∷ rest) × (filled rest ≡ cut_words (drop (position_or_len p bs) bs))
  first_piece [] = ([], refl, refl)
  first_piece (b ∷ bs) = elim (cases_Bool (p b)) [
    | inl e ↦ (slice_split p bs, rw e refl, rw (e, e) refl)
    | inr e ↦
        let more = first_piece bs in
        (more.0, rw (e, more.1) (grind arith), rw e (grind (arith, more.2)))
  ]

  none_left : (bs : List ℕ) → prefix_len p bs ≡ 0 → position_or_len p bs ≡ 0 → bs ≡ []
  none_left [] h i = refl
  none_left (b ∷ bs) h i = elim (cases_Bool (p b)) [
    | inl e ↦ absurd (omega (arith, rw e at h))
    | inr e ↦ absurd (omega (arith, rw e at i))
  ]

  pub no_word : (bs : List ℕ) → position_or_len p (skipped bs) ≡ 0 → cut_words bs ≡ []
  no_word bs h = sym (words_skipped bs) ∙ ap cut_words (none_left (skipped bs) (skipped_once bs) h)

  pub a_word : (bs : List ℕ) → (position_or_len p (skipped bs) ≡ 0 → ⊥) →
      cut_words bs ≡ take (position_or_len p (skipped bs)) (skipped bs) ∷ cut_words (drop (position_or_len p (skipped bs)) (skipped bs))
  a_word bs h =
      let first = first_piece (skipped bs) in
      let n : length (take (position_or_len p (skipped bs)) (skipped bs)) ≡ position_or_len p (skipped bs) = length-prefix_len (λ x. not (p x)) (skipped bs) in
      sym (words_skipped bs) ∙ ap filled first.1 ∙ kept_first _ first.0 (λ e. h (sym n ∙ e)) ∙ ap (λ ws. take (position_or_len p (skipped bs)) (skipped bs) ∷ ws) first.2
