-- Where the first byte of a kind stands, and the parts before and behind it.
use Rattle.std.proofs.Common.{◌≡◌, ℕ, ◌+◌, ◌<◌, ◌≤◌, Bool, true, false, not, cond, ltb, List, [], ◌∷◌, length, get_or, take, drop, Some, None, refl, sym, ◌∙◌, inl, inr, arith, take_all, ltb-true, ltb-false}
use Rattle.std.specs.List.{position_or_len, slice_split, before_first, after_first}
use Rattle.std.proofs.lemmas.List.{drop_all}
use Rattle.std.proofs.lemmas.List.Splits.{slice_split_first, slice_split_none}
use Rattle.std.proofs.lemmas.List.Sums.{prefix_len_passes}
use Rattle.std.proofs.lemmas.Option.{cond_some, none-some}
use Rattle.std.proofs.lemmas.Bool.{cases_Bool, cond-true}

not_true : (b : Bool) → not b ≡ true → b ≡ false
not_true true e = cc
not_true false e = refl

module _ (p : ℕ → Bool) (xs : List ℕ) where
  abbrev place : ℕ
  place = position_or_len p xs

  pub found : (i : ℕ) → Some i ≡ cond (ltb place (length xs)) (Some place) None → (i ≡ place) × (place < length xs)
  found i e = let h = cond_some (ltb place (length xs)) place i (sym e) in (sym h.1, ltb-true place (length xs) h.0)

  pub absent : None ≡ cond (ltb place (length xs)) (Some place) None → length xs ≤ place
  absent e = elim (cases_Bool (ltb place (length xs))) [
    | inl h ↦ absurd (none-some place (e ∙ cond-true _ _ _ h))
    | inr h ↦ ltb-false place (length xs) h
  ]

  pub split_found : place < length xs → slice_split p xs ≡ take place xs ∷ slice_split p (drop (place + 1) xs)
  split_found h = slice_split_first p xs 0 h

  pub split_absent : length xs ≤ place → slice_split p xs ≡ xs ∷ []
  split_absent h = slice_split_none p xs (λ k d l. not_true (p (get_or xs k d)) (prefix_len_passes (λ x. not (p x)) xs k d (omega arith)))

  pub before_absent : length xs ≤ place → before_first p xs ≡ xs
  before_absent h = take_all place xs h

  pub after_absent : length xs ≤ place → after_first p xs ≡ []
  after_absent h = drop_all (place + 1) xs (omega arith)
