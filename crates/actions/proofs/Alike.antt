-- The order of actions is that of their sets, field by field.
use Rattle.std.proofs.Common.{◌≡◌, ℕ, List, [], ◌∷◌, length, Some, None, Option, Ordering, Less, Equal, Greater, sym, refl, ap, subst, inl, inr, arith, ◌<◌}
use mathlib.Core.HLevel.{Σ_prop_path, Π_prop, ×_prop}
use native.Mathlib.Bridge.{le_prop}
use native.Mathlib.Nat.{ℕ_set}
use Rattle.format.specs.Fields.{fields}
use Rattle.std.specs.Cmp.Lexicographic.{slice_cmp}
use Rattle.std.specs.Option.{option_cmp}
use Rattle.std.specs.Ordering.{MatchOrdering, nat_cmp, ordering_then}
use Rattle.std.proofs.lemmas.Cmp.{ranked}
use Rattle.format.specs.Actions.{SetBelow, ActionBelow, LegalSets}
use Rattle.actions.specs.declared.actions.Action.{Action}

-- what the type promises of an action has one proof only
pub actions_alike : (a b : Action) → a.sets ≡ b.sets → a ≡ b
actions_alike a b e =
    ap
    (λ (t : (s : List (Option ℕ)) × ((length s ≡ fields) × LegalSets s)). record { sets = t.0; whole = t.1.0; legal = t.1.1 })
    (Σ_prop_path
    (λ (s : List (Option ℕ)). ×_prop (ℕ_set (length s) fields) (Π_prop (λ f. Π_prop (λ n. Π_prop (λ _. le_prop)))))
    {u = (a.sets, (a.whole, a.legal))}
    {v = (b.sets, (b.whole, b.legal))}
    e)

set_ranked : (x y : Option ℕ) → MatchOrdering (option_cmp nat_cmp x y) (SetBelow x y) (x ≡ y) (SetBelow y x)
set_ranked None None = refl
set_ranked None (Some n) = tt
set_ranked (Some m) None = tt
set_ranked (Some m) (Some n) = go (nat_cmp m n) (ranked m n _ refl)
  where
    go : (o : Ordering) → MatchOrdering o (m < n) (m ≡ n) (n < m) → MatchOrdering o (m < n) (◌≡◌ {A = Option ℕ} (Some m) (Some n)) (n < m)
    go Less h = h
    go Equal h = ap Some h
    go Greater h = h

sets_ranked : (xs ys : List (Option ℕ)) → length xs ≡ length ys → MatchOrdering (slice_cmp (option_cmp nat_cmp) xs ys) (ActionBelow xs ys) (xs ≡ ys) (ActionBelow ys xs)
sets_ranked [] [] e = refl
sets_ranked [] (y ∷ ys) e = absurd (omega arith)
sets_ranked (x ∷ xs) [] e = absurd (omega arith)
sets_ranked (x ∷ xs) (y ∷ ys) e = go (option_cmp nat_cmp x y) (set_ranked x y) (slice_cmp (option_cmp nat_cmp) xs ys) (sets_ranked xs ys (omega arith))
  where
    go :
        (p : Ordering) →
        MatchOrdering p (SetBelow x y) (x ≡ y) (SetBelow y x) →
        (q : Ordering) →
        MatchOrdering q (ActionBelow xs ys) (xs ≡ ys) (ActionBelow ys xs) →
        MatchOrdering (ordering_then p q) (ActionBelow (x ∷ xs) (y ∷ ys)) (x ∷ xs ≡ y ∷ ys) (ActionBelow (y ∷ ys) (x ∷ xs))
    go Less h q k = inl h
    go Equal h Less k = inr (h, k)
    go Equal h Equal k = cc
    go Equal h Greater k = inr (sym h, k)
    go Greater h q k = inl h

pub actions_ranked :
    (a b : Action) (o : Ordering) →
    o ≡ slice_cmp (option_cmp nat_cmp) a.sets b.sets →
    MatchOrdering o (ActionBelow a.sets b.sets) (a ≡ b) (ActionBelow b.sets a.sets)
actions_ranked a b o e = subst (λ r. MatchOrdering r (ActionBelow a.sets b.sets) (a ≡ b) (ActionBelow b.sets a.sets)) (sym e) (go (slice_cmp (option_cmp nat_cmp) a.sets b.sets) (sets_ranked a.sets b.sets (omega (arith, a.whole, b.whole))))
  where
    go : (r : Ordering) → MatchOrdering r (ActionBelow a.sets b.sets) (a.sets ≡ b.sets) (ActionBelow b.sets a.sets) → MatchOrdering r (ActionBelow a.sets b.sets) (a ≡ b) (ActionBelow b.sets a.sets)
    go Less h = h
    go Equal h = actions_alike a b h
    go Greater h = h
