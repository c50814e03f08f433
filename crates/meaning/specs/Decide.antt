-- Decisions: whether two lists, actions or numbers are equal, and which of two comes first.
use Rattle.std.specs.Prelude.{◌≡◌, ℕ, ◌<◌, ◌⊎◌, Bool, true, false, List, [], ◌∷◌, Some, None, Option, refl}
use Rattle.std.proofs.Common.{sym, ap, ap₂, inl, inr, true≢false, arith}
use Rattle.std.proofs.lemmas.Option.{none-some, same_Some}
use Rattle.std.proofs.Math.Decide.{ℕ_discrete, dec_lt}
use Rattle.format.specs.Actions.{SetBelow}

-- one value where A holds, another where not
abbrev pub choice : {A X : Type 0} → Dec A → X → X → X
choice (yes a) x y = x
choice (no h) x y = y

-- exactly one of three holds
pub data Tri (A B C : Type 0) : Type 0 where
  below : A → Tri A B C
  level : B → Tri A B C
  above : C → Tri A B C

abbrev pub three : {A B C X : Type 0} → Tri A B C → X → X → X → X
three (below a) x y z = x
three (level b) x y z = y
three (above c) x y z = z

abbrev pub decide : (m n : ℕ) → Dec (m ≡ n)
decide = ℕ_discrete

abbrev pub order : (m n : ℕ) → Tri (m < n) (m ≡ n) (n < m)
order m n = go (dec_lt m n) (ℕ_discrete m n)
  where
    go : Dec (m < n) → Dec (m ≡ n) → Tri (m < n) (m ≡ n) (n < m)
    go (yes l) e = below l
    go (no h) (yes e) = level e
    go (no h) (no g) = above (omega arith)

-- what an action does to one field, decided
abbrev pub equal_sets : (x y : Option ℕ) → Dec (x ≡ y)
equal_sets None None = yes refl
equal_sets None (Some n) = no (λ e. none-some n e)
equal_sets (Some m) None = no (λ e. none-some m (sym e))
equal_sets (Some m) (Some n) = go (decide m n)
  where
    go : Dec (m ≡ n) → Dec (Some m ≡ Some n)
    go (yes e) = yes (ap {B = Option ℕ} Some e)
    go (no h) = no (λ e. h (same_Some m n e))

abbrev is_empty : {X : Type 0} → List X → Bool
is_empty [] = true
is_empty (x ∷ xs) = false

-- the first element, or d where there is none
abbrev first_or : {X : Type 0} → X → List X → X
first_or d [] = d
first_or d (x ∷ xs) = x

-- all but the first element
abbrev rest_of : {X : Type 0} → List X → List X
rest_of [] = []
rest_of (x ∷ xs) = xs

abbrev pub equal_lists : {X : Type 0} → ((x y : X) → Dec (x ≡ y)) → (xs ys : List X) → Dec (xs ≡ ys)
equal_lists same [] [] = yes refl
equal_lists same [] (y ∷ ys) = no (λ e. true≢false (ap is_empty e))
equal_lists same (x ∷ xs) [] = no (λ e. true≢false (sym (ap is_empty e)))
equal_lists {X} same (x ∷ xs) (y ∷ ys) = go (same x y) (equal_lists same xs ys)
  where
    go : Dec (x ≡ y) → Dec (xs ≡ ys) → Dec (x ∷ xs ≡ y ∷ ys)
    go (yes e) (yes e') = yes (ap₂ {C = List X} (λ (a : X) (b : List X). a ∷ b) e e')
    go (yes e) (no h) = no (λ p. h (ap rest_of p))
    go (no h) d = no (λ p. h (ap (first_or x) p))

-- the first field in which two actions differ decides; an action that ends comes first
abbrev pub Before : List (Option ℕ) → List (Option ℕ) → Type 0
Before [] [] = ⊥
Before [] (y ∷ b) = Unit {0}
Before (x ∷ a) [] = ⊥
Before (x ∷ a) (y ∷ b) = SetBelow x y ⊎ ((x ≡ y) × Before a b)

abbrev pub order_sets : (x y : Option ℕ) → Tri (SetBelow x y) (x ≡ y) (SetBelow y x)
order_sets None None = level refl
order_sets None (Some n) = below tt
order_sets (Some m) None = above tt
order_sets (Some m) (Some n) = go (order m n)
  where
    go : Tri (m < n) (m ≡ n) (n < m) → Tri (m < n) (Some m ≡ Some n) (n < m)
    go (below l) = below l
    go (level e) = level (ap {B = Option ℕ} Some e)
    go (above l) = above l

abbrev pub order_actions : (a b : List (Option ℕ)) → Tri (Before a b) (a ≡ b) (Before b a)
order_actions [] [] = level refl
order_actions [] (y ∷ b) = below tt
order_actions (x ∷ a) [] = above tt
order_actions (x ∷ a) (y ∷ b) = go (order_sets x y) (order_actions a b)
  where
    go : Tri (SetBelow x y) (x ≡ y) (SetBelow y x) → Tri (Before a b) (a ≡ b) (Before b a) → Tri (Before (x ∷ a) (y ∷ b)) (x ∷ a ≡ y ∷ b) (Before (y ∷ b) (x ∷ a))
    go (below l) t = below (inl l)
    go (level e) (below l) = below (inr (e, l))
    go (level e) (level e') = level (ap₂ {C = List (Option ℕ)} (λ (u : Option ℕ) (v : List (Option ℕ)). u ∷ v) e e')
    go (level e) (above l) = above (inr (sym e, l))
    go (above l) t = above (inl l)
