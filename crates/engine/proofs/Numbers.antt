-- Elements by their numbers, in lists that grow.
use Rattle.std.proofs.Common.{◌≡◌, ℕ, zero, suc, ◌+◌, ◌*◌, ◌<◌, ◌≤◌, ◌⊎◌, Bool, true, false, true≢false, List, [], ◌∷◌, ◌++◌, length, take, Some, sym, refl, ap, ◌∙◌, inl, inr, arith}
use Rattle.std.specs.List.{slice_get}
use Rattle.weights.specs.Order.{In}
use Rattle.meaning.specs.Leaves.{Each}
use Rattle.stores.specs.Numbers.{record_at, Numbered}
use Rattle.engine.specs.Built.{some_or, numbered_or}

module _ {X : Type 0} where
  pub get_grown : (xs ys : List X) (n : ℕ) → n < length xs → slice_get (xs ++ ys) n ≡ slice_get xs n
  get_grown [] ys n h = absurd (omega arith)
  get_grown (x ∷ xs) ys zero h = refl
  get_grown (x ∷ xs) ys (suc n) h = get_grown xs ys n (omega arith)

  pub at_grown : (xs ys : List X) (n : ℕ) → n ≤ length xs → record_at (xs ++ ys) n ≡ record_at xs n
  at_grown xs ys zero h = refl
  at_grown xs ys (suc n) h = get_grown xs ys n (omega arith)

  pub or_grown : (d : X) (xs ys : List X) (n : ℕ) → n ≤ length xs → numbered_or d (xs ++ ys) n ≡ numbered_or d xs n
  or_grown d xs ys n h = ap (some_or d) (at_grown xs ys n h)

  got_place : (xs : List X) (n : ℕ) (x : X) → slice_get xs n ≡ Some x → n < length xs
  got_place [] n x e = cc
  got_place (y ∷ xs) zero x e = omega arith
  got_place (y ∷ xs) (suc n) x e = omega (arith, got_place xs n x e)

  pub numbered_bound : (xs : List X) (n : ℕ) (x : X) → Numbered xs n x → (0 < n) × (n ≤ length xs)
  numbered_bound xs zero x e = cc
  numbered_bound xs (suc n) x e = (omega arith, omega (arith, got_place xs n x e))

  pub numbered_grown : (xs ys : List X) (n : ℕ) (x : X) → Numbered xs n x → Numbered (xs ++ ys) n x
  numbered_grown xs ys n x e = at_grown xs ys n (numbered_bound xs n x e).1 ∙ e

  got_any : (xs : List X) (n : ℕ) → n < length xs → (x : X) × (slice_get xs n ≡ Some x)
  got_any [] n h = absurd (omega arith)
  got_any (x ∷ xs) zero h = (x, refl)
  got_any (x ∷ xs) (suc n) h = got_any xs n (omega arith)

  pub numbered_any : (xs : List X) (n : ℕ) → 0 < n → n ≤ length xs → (x : X) × Numbered xs n x
  numbered_any xs zero p h = absurd (omega arith)
  numbered_any xs (suc n) p h = got_any xs n (omega arith)

  pub numbered_value : (d : X) (xs : List X) (n : ℕ) (x : X) → Numbered xs n x → numbered_or d xs n ≡ x
  numbered_value d xs n x e = ap (some_or d) e

  pub take_less : (m n : ℕ) (xs : List X) → m ≤ n → take m (take n xs) ≡ take m xs
  take_less zero n xs h = refl
  take_less (suc m) zero xs h = absurd (omega arith)
  take_less (suc m) (suc n) [] h = refl
  take_less (suc m) (suc n) (x ∷ xs) h = ap {B = List X} (λ l. x ∷ l) (take_less m n xs (omega arith))

  pub in_left : (q : X) (a b : List X) → In q a → In q (a ++ b)
  in_left q [] b m = absurd m
  in_left q (x ∷ a) b (inl e) = inl e
  in_left q (x ∷ a) b (inr m) = inr (in_left q a b m)

  pub in_right : (q : X) (a b : List X) → In q b → In q (a ++ b)
  in_right q [] b m = m
  in_right q (x ∷ a) b m = inr (in_right q a b m)

  pub in_split : (q : X) (a b : List X) → In q (a ++ b) → In q a ⊎ In q b
  in_split q [] b m = inr m
  in_split q (x ∷ a) b (inl e) = inl (inl e)
  in_split q (x ∷ a) b (inr m) = go (in_split q a b m)
    where
      go : In q a ⊎ In q b → In q (x ∷ a) ⊎ In q b
      go (inl m) = inl (inr m)
      go (inr m) = inr m

  pub each_map : {P Q : X → Type 0} → ((x : X) → P x → Q x) → (l : List X) → Each P l → Each Q l
  each_map f [] h = tt
  each_map f (x ∷ l) h = (f x h.0, each_map f l h.1)

  pub each_append : (P : X → Type 0) (a b : List X) → Each P a → Each P b → Each P (a ++ b)
  each_append P [] b g h = h
  each_append P (x ∷ a) b g h = (g.0, each_append P a b g.1 h)

pub part_smaller : (y z z' k t : ℕ) → z' ≡ z → k ≡ 1 + (y + z) → 2 * k ≡ t → 2 * z' < t
part_smaller y z z' k t e f g = omega arith

pub parts_smaller : (y z v w k v' w' t : ℕ) → v' ≡ v → w' ≡ w → v ≤ y → w ≤ z → k ≡ 1 + (y + z) → 2 * k ≡ t → 2 * (v' + w') + 1 < t
parts_smaller y z v w k v' w' t e f i j h g = omega arith

pub side_smaller : (y z z' t : ℕ) → z' ≡ z → 2 * (y + z) + 1 ≡ t → 2 * z' < t
side_smaller y z z' t e g = omega arith

pub le_trans_by : {a b d : ℕ} → a ≤ b → b ≡ d → a ≤ d
le_trans_by h e = omega arith

pub never : (b : Bool) → false ≡ b → b ≡ true → ⊥
never b e h = true≢false (sym (e ∙ h))

pub falls_by : (k m t : ℕ) → k < m → m ≡ t → k < t
falls_by k m t h e = omega arith

pub part_smaller3 : (y z z' k t : ℕ) → z' ≡ z → k ≡ 1 + (y + z) → 3 * k ≡ t → 3 * z' + 1 < t
part_smaller3 y z z' k t e f g = omega arith

pub parts_smaller3 : (y z v w k v' w' t : ℕ) → v' ≡ v → w' ≡ w → v ≤ y → w ≤ z → k ≡ 1 + (y + z) → 3 * k ≡ t → 3 * (v' + w') + 2 < t
parts_smaller3 y z v w k v' w' t e f i j h g = omega arith

pub side_smaller3 : (y z z' t : ℕ) → z' ≡ z → 3 * (y + z) + 2 ≡ t → 3 * z' + 1 < t
side_smaller3 y z z' t e g = omega arith

pub falls_twice : (k m t : ℕ) → k < m → 2 * m ≡ t → 2 * k + 1 < t
falls_twice k m t h e = omega arith
