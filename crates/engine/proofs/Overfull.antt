-- A store that is full of different records.
use Rattle.std.proofs.Common.{◌≡◌, ℕ, zero, suc, ◌≤◌, ◌⊎◌, List, [], ◌∷◌, map, length, Some, sym, refl, ap, ◌∙◌, inl, inr, arith}
use Rattle.weights.specs.Order.{In}
use Rattle.meaning.specs.Leaves.{Each}
use Rattle.stores.specs.Numbers.{Numbered, Absent, Distinct}
use Rattle.requests.specs.Requests.{Request}
use Rattle.engine.specs.State.{State, Has}
use Rattle.engine.specs.Done.{Kind, kind_of, Apart, Over}

module _ {D : Type 0} where
  later : (d : D) (ds : List D) (n : ℕ) (x : D) → Numbered ds n x → Numbered (d ∷ ds) (suc n) x
  later d ds zero x e = cc
  later d ds (suc n) x e = e

  distinct_rest : (d : D) (ds : List D) → Distinct (d ∷ ds) → Distinct ds
  distinct_rest d ds h m n r p q = less (h (suc m) (suc n) r (later d ds m r p) (later d ds n r q))
    where
      less : suc m ≡ suc n → m ≡ n
      less e = omega arith

  in_number : (x : D) (ds : List D) → In x ds → (n : ℕ) × Numbered ds n x
  in_number x [] m = absurd m
  in_number x (d ∷ ds) (inl e) = (1, ap Some (sym e))
  in_number x (d ∷ ds) (inr m) = let r = in_number x ds m in (suc r.0, later d ds r.0 x r.1)

  module _ (to : D → Request) (from : Request → D) (P : D → Type 0) (back : (d : D) → P d → from (to d) ≡ d) where
    inside : (x : D) → P x → (ds : List D) → Each P ds → In (to x) (map to ds) → In x ds
    inside x p [] h m = absurd m
    inside x p (d ∷ ds) h (inl e) = inl (sym (back x p) ∙ (ap from e ∙ back d h.0))
    inside x p (d ∷ ds) h (inr m) = inr (inside x p ds h.1 m)

    apart : (ds : List D) → Each P ds → Distinct ds → Apart (map to ds)
    apart [] h d = tt
    apart (x ∷ ds) h d = (λ m. again (in_number x ds (inside x h.0 ds h.1 m)), apart ds h.1 (distinct_rest x ds d))
      where
        again : (n : ℕ) × Numbered ds n x → ⊥
        again (zero, e) = cc
        again (suc n, e) = absurd_two (d 1 (suc (suc n)) x refl e)
          where
            absurd_two : 1 ≡ suc (suc n) → ⊥
            absurd_two e = omega arith

each_to : {D : Type 0} {P : D → Type 0} (Q : Request → Type 0) (to : D → Request) → ((d : D) → P d → Q (to d)) → (ds : List D) → Each P ds → Each Q (map to ds)
each_to Q to f [] h = tt
each_to Q to f (d ∷ ds) h = (f d h.0, each_to Q to f ds h.1)

map_long : {D : Type 0} (to : D → Request) (ds : List D) → length (map to ds) ≡ length ds
map_long to [] = refl
map_long to (d ∷ ds) = omega (arith, map_long to ds)

pub each_numbered : {D : Type 0} (P : D → Type 0) (ds : List D) → ((n : ℕ) (d : D) → Numbered ds n d → P d) → Each P ds
each_numbered P [] h = tt
each_numbered P (d ∷ ds) h = (h 1 d refl, each_numbered P ds (λ n x e. h (suc n) x (later d ds n x e)))

pub over_full :
    {D : Type 0} (to : D → Request) (from : Request → D) (k : Kind) {size : Kind → ℕ} {s : State} {asks : List Request} (ds : List D) (d : D) →
    from (to d) ≡ d →
    kind_of (to d) ≡ k →
    In (to d) asks →
    Absent ds d →
    Distinct ds →
    ((n : ℕ) (x : D) → Numbered ds n x → (from (to x) ≡ x) × (kind_of (to x) ≡ k) × Has s (to x)) →
    size k ≤ length ds →
    Over size s asks
over_full {D} to from k {size} {s} {asks} ds d b e m a u h l =
    record {
      kind = k;
      records = to d ∷ map to ds;
      different = (λ i. again (in_number d ds (inside to from P (λ x p. p.0) d here ds each i)), apart to from P (λ x p. p.0) ds each u);
      of_kind = (e, each_to (λ (q : Request). kind_of q ≡ k) to (λ x p. p.1) ds each);
      held_or_asked = (inr m, each_to (λ (q : Request). Has s q ⊎ In q asks) to (λ x p. p.2) ds each);
      too_many = omega (arith, map_long to ds);
    }
  where
    P : D → Type 0
    P x = (from (to x) ≡ x) × (kind_of (to x) ≡ k) × (Has s (to x) ⊎ In (to x) asks)

    each : Each P ds
    each = each_numbered P ds (λ n x f. let r = h n x f in (r.0, r.1, inl r.2))

    here : P d
    here = (b, e, inr m)

    again : (n : ℕ) × Numbered ds n d → ⊥
    again (n, f) = a n f
