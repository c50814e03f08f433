-- Lists made one after the other.
use Rattle.std.proofs.Common.{◌≡◌, ℕ, zero, suc, ◌+◌, ◌-◌, ◌<◌, ◌≤◌, List, [], ◌∷◌, ◌++◌, length, take, get_or, Some, sym, refl, ap, ◌∙◌, subst, append_assoc, length-append, arith}
use Rattle.std.specs.List.{slice_get}
use Rattle.std.proofs.lemmas.Option.{slice_get-get_or}
use Rattle.stores.specs.Numbers.{Numbered}
use Rattle.engine.specs.Built.{build}
use Rattle.engine.specs.State.{EachFrom}

module _ {R D : Type 0} (g : List D → R → D) where
  pub build_more : (ds : List D) (rs : List R) → (rest : List D) × (build g ds rs ≡ ds ++ rest)
  build_more ds [] = ([], sym (none ds))
    where
      none : (xs : List D) → xs ++ [] ≡ xs
      none [] = refl
      none (x ∷ xs) = ap {B = List D} (λ l. x ∷ l) (none xs)
  build_more ds (r ∷ rs) =
      let m = build_more (ds ++ (g ds r ∷ [])) rs in
      (g ds r ∷ m.0, m.1 ∙ append_assoc ds (g ds r ∷ []) m.0)

  pub build_last : (ds : List D) (rs : List R) (r : R) → build g ds (rs ++ (r ∷ [])) ≡ build g ds rs ++ (g (build g ds rs) r ∷ [])
  build_last ds [] r = refl
  build_last ds (x ∷ rs) r = build_last (ds ++ (g ds x ∷ [])) rs r

  pub build_length : (ds : List D) (rs : List R) → length (build g ds rs) ≡ length ds + length rs
  build_length ds [] = omega arith
  build_length ds (r ∷ rs) = omega (arith, build_length (ds ++ (g ds r ∷ [])) rs, length-append ds (g ds r ∷ []))

  -- what stands at a place was made from what stands before it
  pub build_at :
      (ds : List D) (rs : List R) (i : ℕ) (r : R) →
      slice_get rs i ≡ Some r →
      (before : List D) × (rest : List D) × (length before ≡ length ds + i) × (build g ds rs ≡ before ++ (g before r ∷ rest))
  build_at ds [] i r e = cc
  build_at ds (x ∷ rs) zero r e =
      let m = build_more (ds ++ (g ds x ∷ [])) rs in
      let k : x ≡ r = cc in
      (ds, m.0, omega arith, m.1 ∙ (append_assoc ds (g ds x ∷ []) m.0 ∙ ap (λ (y : R). ds ++ (g ds y ∷ m.0)) k))
  build_at ds (x ∷ rs) (suc i) r e =
      let b = build_at (ds ++ (g ds x ∷ [])) rs i r e in
      (b.0, b.1, omega (arith, b.2, length-append ds (g ds x ∷ [])), b.3)

module _ {X : Type 0} where
  pub at_middle : (xs : List X) (x : X) (ys : List X) (n : ℕ) → n ≡ length xs + 1 → Numbered (xs ++ (x ∷ ys)) n x
  at_middle xs x ys zero e = absurd (omega arith)
  at_middle [] x ys (suc zero) e = refl
  at_middle [] x ys (suc (suc n)) e = absurd (omega arith)
  at_middle (y ∷ xs) x ys (suc zero) e = absurd (omega arith)
  at_middle (y ∷ xs) x ys (suc (suc n)) e = at_middle xs x ys (suc n) (omega arith)

  pub only_one : (xs : List X) (n : ℕ) (x y : X) → Numbered xs n x → Numbered xs n y → x ≡ y
  only_one xs n x y p q = cc

  pub front_at : (k : ℕ) (xs : List X) (i : ℕ) → i < k → slice_get (take k xs) i ≡ slice_get xs i
  front_at zero xs i h = absurd (omega arith)
  front_at (suc k) [] i h = refl
  front_at (suc k) (x ∷ xs) zero h = refl
  front_at (suc k) (x ∷ xs) (suc i) h = front_at k xs i (omega arith)

  pub numbered_slot : (k : ℕ) (xs : List X) (n : ℕ) (d : X) → 0 < n → n ≤ k → n ≤ length xs → Numbered (take k xs) n (get_or xs (n - 1) d)
  numbered_slot k xs zero d p h l = absurd (omega arith)
  numbered_slot k xs (suc n) d p h l =
      let e : suc n - 1 ≡ n = omega arith in
      front_at k xs n (omega arith) ∙ (slice_get-get_or xs n d (omega arith) ∙ ap (λ (i : ℕ). Some (get_or xs i d)) (sym e))

  pub each_in_at : (P : ℕ → X → Type 0) (k : ℕ) (xs : List X) (i : ℕ) (x : X) → EachFrom P k xs → slice_get xs i ≡ Some x → P (k + i) x
  each_in_at P k [] i x h e = cc
  each_in_at P k (y ∷ xs) zero x h e =
      let a : y ≡ x = cc in
      let b : k ≡ k + 0 = omega arith in
      subst (P (k + 0)) a (subst (λ (n : ℕ). P n y) b h.0)
  each_in_at P k (y ∷ xs) (suc i) x h e =
      let b : k + 1 + i ≡ k + suc i = omega arith in
      subst (λ (n : ℕ). P n x) b (each_in_at P (k + 1) xs i x h.1 e)

  pub each_in_last : (P : ℕ → X → Type 0) (k : ℕ) (xs : List X) (x : X) → EachFrom P k xs → P (k + length xs) x → EachFrom P k (xs ++ (x ∷ []))
  each_in_last P k [] x h p =
      let b : k + 0 ≡ k = omega arith in
      (subst (λ (n : ℕ). P n x) b p, tt)
  each_in_last P k (y ∷ xs) x h p =
      let b : k + suc (length xs) ≡ k + 1 + length xs = omega arith in
      (h.0, each_in_last P (k + 1) xs x h.1 (subst (λ (n : ℕ). P n x) b p))

  pub each_in_map : (P Q : ℕ → X → Type 0) → ((n : ℕ) (x : X) → P n x → Q n x) → (k : ℕ) (xs : List X) → EachFrom P k xs → EachFrom Q k xs
  each_in_map P Q f k [] h = tt
  each_in_map P Q f k (x ∷ xs) h = (f k x h.0, each_in_map P Q f (k + 1) xs h.1)

-- two makings that agree on what each asks of those before make the same
module _ {R D : Type 0} (g k : List D → R → D) (P : ℕ → R → Type 0) (same : (ds : List D) (r : R) → P (length ds) r → g ds r ≡ k ds r) where
  pub build_same : (n : ℕ) (ds : List D) (rs : List R) → n ≡ length ds → EachFrom P n rs → build g ds rs ≡ build k ds rs
  build_same n ds [] e h = refl
  build_same n ds (r ∷ rs) e h =
      let q : g ds r ≡ k ds r = same ds r (subst (λ (m : ℕ). P m r) e h.0) in
      build_same (n + 1) (ds ++ (g ds r ∷ [])) rs (omega (arith, e, length-append ds (g ds r ∷ []))) h.1 ∙ ap (λ (d : D). build k (ds ++ (d ∷ [])) rs) q
