-- Narrowing twice, well-formedness, and make. Assumes nothing.
use Rattle.std.proofs.Common.{◌≡◌, ℕ, suc, ◌+◌, ◌<◌, ◌≤◌, ◌≢◌, ◌⊎◌, List, [], ◌∷◌, map, get_or, Some, None, Option, sym, refl, ap, ◌∙◌, subst, ap₂, inl, inr, arith}
use mathlib.Core.Path.{fun_ext}
use Rattle.format.specs.Fields.{fields, LegalValue}
use Rattle.format.specs.Actions.{LegalSet}
use Rattle.weights.specs.Weights.{Ops, Weight, Laws}
use Rattle.meaning.specs.Decide.{choice, decide, equal_lists}
use Rattle.meaning.specs.Leaves.{Action, Frame, Cell, Each, Ascending, collect, ActionFormed, CellFormed, LeafFormed}
use Rattle.meaning.specs.Diagrams.{Diagram, Leaf, Node, equal_cells, equal_diagrams, weigh, Facts, known, or_else, also, forget, narrow_action, narrow_cell, narrows, narrow, make, Tests, SetsOf, Sets, After, Unlike, NodeFormed, Formed, extent}
use Rattle.meaning.proofs.Gathering.{choice_yes, choice_no, choice_both, each_map, each_of_map, Additive, Weights, NoZeros, Telling, value, join_not_zero, chosen_additive, gather_collect, collect_each, collect_ascending, collect_weights, leaves_differ, equal_actions}
use Rattle.meaning.proofs.Narrowing.{none_some, known_there, known_only, known_else, Consistent, narrow_narrow_action, get_or-narrow_action, length_narrow_action, agrees_known, Narrowing, yes_side, no_side, merged, kept, narrowing, narrows_leaf, tests_map, tests_both, cells_all, sets_map, sets_both, also_second, tests_narrows, sets_narrows, extent_narrows, Weighted, formed_weighted, weigh_yes, weigh_no, gather_map, weighted_narrows, narrow_cells_weights, weigh_narrows}

-- leaves in order, without zeros, are equal if they give equal weights to each action
pub record Tidy (o : Ops) (l : List Cell) : Type 0 where
  pub weights : Weights o l
  pub no_zeros : NoZeros o l
  pub ascends : Ascending l

module _ {o : Ops} (L : Laws o) where
  pub leaves_equal : (l m : List Cell) → Tidy o l → Tidy o m → ((a : Action) → value o a l ≡ value o a m) → l ≡ m
  leaves_equal l m p q h = go (equal_lists equal_cells l m)
    where
      go : Dec (l ≡ m) → l ≡ m
      go (yes e) = e
      go (no e) = absurd (T.differ (h T.action))
        where
          T : Telling o l m
          T = leaves_differ L l m p.weights q.weights p.no_zeros q.no_zeros p.ascends q.ascends e

  pub collect_tidy : (l : List Cell) → Weights o l → Tidy o (collect o l)
  collect_tidy l h =
      record {
        weights = collect_weights L l h;
        no_zeros = each_map (λ c k. k.1) (collect o l) nonzero;
        ascends = collect_ascending L l;
      }
    where
      nonzero : Each (λ c. Weight o c.1 × (c.1 ≢ o.zero)) (collect o l)
      nonzero =
          collect_each L (λ c. Weight o c.1 × (c.1 ≢ o.zero))
          (λ a v w p q. (L.join_weight v w p.0 q.0, join_not_zero L v w p.0 q.0 p.1))
          (λ c. Weight o c.1) (λ c k e. (k, e)) l h

  pub leaf_tidy : (l : List Cell) → LeafFormed o l → Tidy o l
  leaf_tidy l h = record { weights = each_map (λ c k. k.weight) l h.cells; no_zeros = each_map (λ c k. k.not_zero) l h.cells; ascends = h.ascending }

  value_additive : (a : Action) → Additive o (λ b w. choice (equal_actions b a) w o.zero)
  value_additive a = chosen_additive L (λ b. equal_actions b a)

  -- a leaf is its own collection
  pub collect_same : (l : List Cell) → Tidy o l → collect o l ≡ l
  collect_same l h = leaves_equal (collect o l) l (collect_tidy l h.weights) h (λ a. gather_collect L (value_additive a) l h.weights)

  collect_narrow_narrow : (p q : Facts) (l : List Cell) → Consistent p q → Weights o l → collect o (map (narrow_cell q) (collect o (map (narrow_cell p) l))) ≡ collect o (map (narrow_cell (also p q)) l)
  collect_narrow_narrow p q l k h =
      leaves_equal _ _ (collect_tidy _ twice) (collect_tidy _ (narrow_cells_weights L (also p q) l h)) (λ a.
      gather_collect L (value_additive a) _ twice
      ∙ gather_map o (G a) (λ b. G a (narrow_action q b)) (narrow_cell q) (λ c. refl) (collect o (map (narrow_cell p) l))
      ∙ gather_collect L (chosen_additive L (λ b. equal_actions (narrow_action q b) a)) _ once
      ∙ gather_map o (λ b. G a (narrow_action q b)) (λ b. G a (narrow_action (also p q) b)) (narrow_cell p) (λ c. ap (λ (b : Action). G a b c.1) (narrow_narrow_action p q c.0 k)) l
      ∙ sym (gather_map o (G a) (λ b. G a (narrow_action (also p q) b)) (narrow_cell (also p q)) (λ c. refl) l)
      ∙ sym (gather_collect L (value_additive a) _ (narrow_cells_weights L (also p q) l h)))
    where
      G : Action → Action → ℕ → ℕ
      G a b w = choice (equal_actions b a) w o.zero

      once : Weights o (map (narrow_cell p) l)
      once = narrow_cells_weights L p l h

      twice : Weights o (map (narrow_cell q) (collect o (map (narrow_cell p) l)))
      twice = narrow_cells_weights L q _ (collect_weights L _ once)

-- facts in another order

also_known_left : (p q : Facts) (f n : ℕ) → p f ≡ None → (q f ≡ None) ⊎ (q f ≡ Some n) → also (also p (known f n)) q ≡ also (also p q) (known f n)
also_known_left p q f n e h = fun_ext (λ g. go g (p g) (known f n g) (q g) refl refl refl (decide g f))
  where
    there : (g : ℕ) → g ≡ f → (q g ≡ None) ⊎ (q g ≡ Some n)
    there g r = subst (λ (k : ℕ). (q k ≡ None) ⊎ (q k ≡ Some n)) (sym r) h

    at_f : (x : Option ℕ) → (x ≡ None) ⊎ (x ≡ Some n) → Some n ≡ or_else x (Some n)
    at_f x (inl r) = ap (λ (u : Option ℕ). or_else u (Some n)) (sym r)
    at_f x (inr r) = ap (λ (u : Option ℕ). or_else u (Some n)) (sym r)

    elsewhere : (x y : Option ℕ) → or_else (or_else x None) y ≡ or_else (or_else x y) None
    elsewhere None None = refl
    elsewhere None (Some m) = refl
    elsewhere (Some m) y = refl

    go : (g : ℕ) (x y z : Option ℕ) → p g ≡ x → known f n g ≡ y → q g ≡ z → Dec (g ≡ f) → or_else (or_else (p g) (known f n g)) (q g) ≡ or_else (or_else (p g) (q g)) (known f n g)
    go g x y z ex ey ez (yes r) =
        ap₂ (λ (u v : Option ℕ). or_else (or_else u v) (q g)) pg kg ∙ at_f (q g) (there g r) ∙ sym (ap₂ (λ (u v : Option ℕ). or_else (or_else u (q g)) v) pg kg)
      where
        pg : p g ≡ None
        pg = ap p r ∙ e

        kg : known f n g ≡ Some n
        kg = choice_yes (decide g f) (Some n) None r
    go g x y z ex ey ez (no r) =
        ap (λ (u : Option ℕ). or_else (or_else (p g) u) (q g)) (known_else f n g r) ∙ elsewhere (p g) (q g) ∙ sym (ap (λ (u : Option ℕ). or_else (or_else (p g) (q g)) u) (known_else f n g r))

also_assoc : (p q r : Facts) → also p (also q r) ≡ also (also p q) r
also_assoc p q r = fun_ext (λ g. go (p g) (q g) (r g))
  where
    go : (x y z : Option ℕ) → or_else x (or_else y z) ≡ or_else (or_else x y) z
    go None y z = refl
    go (Some n) y z = refl

also_known_again : (p : Facts) (f n : ℕ) → p f ≡ Some n → also p (known f n) ≡ p
also_known_again p f n e = fun_ext (λ g. go g (decide g f))
  where
    none_right : (x : Option ℕ) → or_else x None ≡ x
    none_right None = refl
    none_right (Some m) = refl

    go : (g : ℕ) → Dec (g ≡ f) → or_else (p g) (known f n g) ≡ p g
    go g (yes r) = ap (λ (u : Option ℕ). or_else u (known f n g)) (ap p r ∙ e) ∙ sym (ap p r ∙ e)
    go g (no r) = ap (or_else (p g)) (known_else f n g r) ∙ none_right (p g)

consistent_also : (p q r : Facts) → Consistent p q → Consistent r q → Consistent (also p r) q
consistent_also p q r h k f n m e e' = go (p f) refl e
  where
    go : (x : Option ℕ) → p f ≡ x → or_else x (r f) ≡ Some n → n ≡ m
    go None s t = k f n m t e'
    go (Some j) s t = h f n m (s ∙ t) e'

pub consistent_known : (f n : ℕ) (q : Facts) → (q f ≡ None) ⊎ (q f ≡ Some n) → Consistent (known f n) q
consistent_known f n q h g k m e e' = go (known_only f n g k e) h
  where
    go : (g ≡ f) × (k ≡ n) → (q f ≡ None) ⊎ (q f ≡ Some n) → k ≡ m
    go r (inl s) = none_some m (sym s ∙ ap q (sym r.0) ∙ e')
    go r (inr s) = r.1 ∙ inject (sym s ∙ ap q (sym r.0) ∙ e')
      where
        inject : Some n ≡ Some m → n ≡ m
        inject t = cc

pub consistent_flip : (p q : Facts) → Consistent p q → Consistent q p
consistent_flip p q h f n m e e' = sym (h f m n e' e)

module _ {o : Ops} (L : Laws o) where
  -- what narrowing by two sets of facts does to a node, given what it does to its sides
  module _ (f n : ℕ) (y z : Diagram)
      (iy : (p q : Facts) → Consistent p q → narrows o (narrows o y p) q ≡ narrows o y (also p q))
      (iz : (p q : Facts) → Consistent p q → narrows o (narrows o z p) q ≡ narrows o z (also p q)) where
    -- the node narrowed by facts that settle it, or not
    to_yes : (r : Facts) → r f ≡ Some n → narrows o (Node f n y z) r ≡ narrows o y r
    to_yes r e = go (narrowing o r f n y z)
      where
        go : Narrowing o r f n y z → narrows o (Node f n y z) r ≡ narrows o y r
        go (yes_side e' q) = q
        go (no_side m e' h q) = absurd (h (cc))
        go (merged e' h q) = none_some n (sym e' ∙ e)
        go (kept e' h q) = none_some n (sym e' ∙ e)

    to_no : (r : Facts) (m : ℕ) → r f ≡ Some m → (m ≡ n → ⊥) → narrows o (Node f n y z) r ≡ narrows o z r
    to_no r m e h = go (narrowing o r f n y z)
      where
        go : Narrowing o r f n y z → narrows o (Node f n y z) r ≡ narrows o z r
        go (yes_side e' q) = absurd (h (cc))
        go (no_side m' e' h' q) = q
        go (merged e' h' q) = q
        go (kept e' h' q) = none_some m (sym e' ∙ e)

    to_merged : (r : Facts) → r f ≡ None → narrows o y (also r (known f n)) ≡ narrows o z (also r (known f n)) → narrows o (Node f n y z) r ≡ narrows o z r
    to_merged r e h = go (narrowing o r f n y z)
      where
        go : Narrowing o r f n y z → narrows o (Node f n y z) r ≡ narrows o z r
        go (yes_side e' q) = none_some n (sym e ∙ e')
        go (no_side m' e' h' q) = q
        go (merged e' h' q) = q
        go (kept e' h' q) = absurd (h' h)

    node_twice : (p q : Facts) → Consistent p q → narrows o (narrows o (Node f n y z) p) q ≡ narrows o (Node f n y z) (also p q)
    node_twice p q k = go (narrowing o p f n y z)
      where
        K : Facts
        K = known f n

        settled : (x : Option ℕ) → q f ≡ x → p f ≡ None → also p q f ≡ x
        settled x e e' = also_second p q f e' ∙ e

        -- the yes side, twice narrowed with the test known
        yes_twice : p f ≡ None → (q f ≡ None) ⊎ (q f ≡ Some n) → narrows o (narrows o y (also p K)) q ≡ narrows o y (also (also p q) K)
        yes_twice e h = iy (also p K) q (consistent_also p q K k (consistent_known f n q h)) ∙ ap (narrows o y) (also_known_left p q f n e h)

        no_twice : p f ≡ None → (q f ≡ None) ⊎ (q f ≡ Some n) → narrows o (narrows o z (also p K)) q ≡ narrows o z (also (also p q) K)
        no_twice e h = iz (also p K) q (consistent_also p q K k (consistent_known f n q h)) ∙ ap (narrows o z) (also_known_left p q f n e h)

        when_merged : p f ≡ None → narrows o y (also p K) ≡ narrows o z (also p K) → (x : Option ℕ) → q f ≡ x → narrows o z (also p q) ≡ narrows o (Node f n y z) (also p q)
        when_merged e h None eq = sym (to_merged (also p q) (settled None eq e) (sym (yes_twice e (inl eq)) ∙ ap (λ (d : Diagram). narrows o d q) h ∙ no_twice e (inl eq)))
        when_merged e h (Some m) eq = inner (decide m n)
          where
            inner : Dec (m ≡ n) → narrows o z (also p q) ≡ narrows o (Node f n y z) (also p q)
            inner (no r) = sym (to_no (also p q) m (settled (Some m) eq e) r)
            inner (yes r) =
                ap (narrows o z) (sym (also_known_again (also p q) f n pq_f)) ∙ sym (no_twice e (inr qn)) ∙ sym (ap (λ (d : Diagram). narrows o d q) h) ∙ yes_twice e (inr qn) ∙ ap (narrows o y) (also_known_again (also p q) f n pq_f) ∙ sym (to_yes (also p q) pq_f)
              where
                qn : q f ≡ Some n
                qn = eq ∙ ap {B = Option ℕ} Some r

                pq_f : also p q f ≡ Some n
                pq_f = settled (Some n) qn e

        Y : Diagram
        Y = narrows o y (also p K)

        Z : Diagram
        Z = narrows o z p

        zz : narrows o Z q ≡ narrows o z (also p q)
        zz = iz p q k

        first : p f ≡ None → q f ≡ None → narrows o Y (also q K) ≡ narrows o y (also (also p q) K)
        first e eq = iy (also p K) (also q K) agree ∙ ap (narrows o y) (also_assoc (also p K) q K ∙ ap (λ (u : Facts). also u K) (also_known_left p q f n e (inl eq)) ∙ also_known_again (also (also p q) K) f n (also_second (also p q) K f (settled None eq e) ∙ known_there f n))
          where
            agree : Consistent (also p K) (also q K)
            agree = consistent_flip (also q K) (also p K) (consistent_also q (also p K) K (consistent_flip (also p K) q (consistent_also p q K k (consistent_known f n q (inl eq)))) (consistent_known f n (also p K) (inr (also_second p K f e ∙ known_there f n))))

        second : p f ≡ None → narrows o Z (also q K) ≡ narrows o z (also (also p q) K)
        second e = iz p (also q K) (consistent_flip (also q K) p (consistent_also q p K (consistent_flip p q k) (consistent_known f n p (inl e)))) ∙ ap (narrows o z) (also_assoc p q K)

        when_kept : p f ≡ None → Narrowing o q f n Y Z → narrows o (Node f n Y Z) q ≡ narrows o (Node f n y z) (also p q)
        when_kept e (yes_side eq r) =
            r ∙ yes_twice e (inr eq) ∙ ap (narrows o y) (also_known_again (also p q) f n pq_f) ∙ sym (to_yes (also p q) pq_f)
          where
            pq_f : also p q f ≡ Some n
            pq_f = settled (Some n) eq e
        when_kept e (no_side m eq h r) = r ∙ zz ∙ sym (to_no (also p q) m (settled (Some m) eq e) h)
        when_kept e (merged eq h r) = r ∙ zz ∙ sym (to_merged (also p q) (settled None eq e) (sym (first e eq) ∙ h ∙ second e))
        when_kept e (kept eq h r) = r ∙ both (narrowing o (also p q) f n y z)
          where
            none_here : also p q f ≡ None
            none_here = settled None eq e

            both : Narrowing o (also p q) f n y z → Node f n (narrows o Y (also q K)) (narrows o Z q) ≡ narrows o (Node f n y z) (also p q)
            both (yes_side e' s) = none_some n (sym none_here ∙ e')
            both (no_side m e' h' s) = none_some m (sym none_here ∙ e')
            both (merged e' h' s) = absurd (h (first e eq ∙ h' ∙ sym (second e)))
            both (kept e' h' s) = ap₂ {C = Diagram} (λ (u v : Diagram). Node f n u v) (first e eq) zz ∙ sym s

        go : Narrowing o p f n y z → narrows o (narrows o (Node f n y z) p) q ≡ narrows o (Node f n y z) (also p q)
        go (yes_side e r) = ap (λ (d : Diagram). narrows o d q) r ∙ iy p q k ∙ sym (to_yes (also p q) (ap (λ (u : Option ℕ). or_else u (q f)) e))
        go (no_side m e h r) = ap (λ (d : Diagram). narrows o d q) r ∙ iz p q k ∙ sym (to_no (also p q) m (ap (λ (u : Option ℕ). or_else u (q f)) e) h)
        go (merged e h r) = ap (λ (d : Diagram). narrows o d q) r ∙ iz p q k ∙ when_merged e h (q f) refl
        go (kept e h r) = ap (λ (d : Diagram). narrows o d q) r ∙ when_kept e (narrowing o q f n Y Z)

  pub narrows_narrows : (d : Diagram) (p q : Facts) → Weighted o d → Consistent p q → narrows o (narrows o d p) q ≡ narrows o d (also p q)
  narrows_narrows (Leaf l) p q h k =
      ap (λ (d : Diagram). narrows o d q) (narrows_leaf o p l) ∙ narrows_leaf o q (collect o (map (narrow_cell p) l)) ∙ ap {B = Diagram} Leaf (collect_narrow_narrow L p q l k h) ∙ sym (narrows_leaf o (also p q) l)
  narrows_narrows (Node f n y z) p q h k = node_twice f n y z (λ p' q' k'. narrows_narrows y p' q' h.0 k') (λ p' q' k'. narrows_narrows z p' q' h.1 k') p q k

  pub cell_narrow : (p : Facts) (c : Cell) → ActionFormed c.0 → ActionFormed (narrow_action p c.0)
  cell_narrow p c h =
      record {
        all_fields = length_narrow_action p c.0 ∙ h.all_fields;
        legal = λ f l. subst (LegalSet f) (sym (get_or-narrow_action p c.0 f)) (go f (p f) (get_or c.0 f None) (h.legal f (subst (λ (k : ℕ). f < k) (length_narrow_action p c.0) l)));
      }
    where
      go : (f : ℕ) (x y : Option ℕ) → LegalSet f y → LegalSet f (forget x y)
      go f None y k = k
      go f (Some n) None k = tt
      go f (Some n) (Some m) k = choice_both (LegalSet f) (decide m n) None (Some m) (λ e. tt) (λ e. k)

  -- a leaf of formed actions and weights, collected, is formed
  pub collect_formed : (l : List Cell) → Each (λ c. ActionFormed c.0 × Weight o c.1) l → LeafFormed o (collect o l)
  collect_formed l h =
      record {
        cells = collect_each L (CellFormed o) (λ a v w p q. record { action = p.action; weight = L.join_weight v w p.weight q.weight; not_zero = join_not_zero L v w p.weight q.weight p.not_zero }) (λ c. ActionFormed c.0 × Weight o c.1) (λ c k e. record { action = k.0; weight = k.1; not_zero = e }) l h;
        ascending = collect_ascending L l;
      }

  pub formed_narrows : (d : Diagram) (p : Facts) → Formed o d → Formed o (narrows o d p)
  formed_narrows (Leaf l) p h =
      subst (Formed o) (sym (narrows_leaf o p l))
      (collect_formed (map (narrow_cell p) l) (each_of_map (CellFormed o) (λ c. ActionFormed c.0 × Weight o c.1) (narrow_cell p) (λ c k. (cell_narrow p c k.action, k.weight)) l h.cells))
  formed_narrows (Node f n y z) p h =
      go (narrowing o p f n y z) (formed_narrows y p h.1) (formed_narrows z p h.2) (formed_narrows y (also p (known f n)) h.1)
    where
      go : Narrowing o p f n y z → Formed o (narrows o y p) → Formed o (narrows o z p) → Formed o (narrows o y (also p (known f n))) → Formed o (narrows o (Node f n y z) p)
      go (yes_side e r) a b c = subst (Formed o) (sym r) a
      go (no_side m e k r) a b c = subst (Formed o) (sym r) b
      go (merged e k r) a b c = subst (Formed o) (sym r) b
      go (kept e k r) a b c = subst (Formed o) (sym r) (node, c, b)
        where
          Y : Diagram
          Y = narrows o y (also p (known f n))

          node : NodeFormed o f n Y (narrows o z p)
          node =
              record {
                field_exists = h.0.field_exists;
                value_legal = h.0.value_legal;
                yes_greater_fields = tests_map _ _ (λ g m t. t.0) Y (tests_narrows (λ g m. f < g) o y (also p (known f n)) h.0.yes_greater_fields);
                no_greater_tests = tests_map _ _ (λ g m t. t.0) (narrows o z p) (tests_narrows (After f n) o z p h.0.no_greater_tests);
                yes_narrowed = sets_map _ _ (λ g m t. t.0) Y (sets_narrows (Unlike f n) L y (also p (known f n)) h.0.yes_narrowed);
                sides_differ = λ q. k (sym (sym (narrows_narrows z p (known f n) (formed_weighted o z h.2) (consistent_flip (known f n) p (consistent_known f n p (inl e)))) ∙ q));
              }

  -- facts that the diagram neither tests nor sets leave it as it is
  pub narrows_still : (d : Diagram) (p : Facts) → Formed o d → Tests (λ f n. p f ≡ None) d → Sets (λ f n. p f ≡ Some n → ⊥) d → narrows o d p ≡ d
  narrows_still (Leaf l) p h t u =
      narrows_leaf o p l ∙ ap {B = Diagram} Leaf (ap (collect o) (cells l u) ∙ collect_same L l (leaf_tidy L l h))
    where
      sets : (a : Action) (q : Facts) → SetsOf (λ f n. q f ≡ Some n → ⊥) a → narrow_action q a ≡ a
      sets [] q k = refl
      sets (x ∷ a) q k = ap₂ {C = Action} (λ (c : Option ℕ) (r : Action). c ∷ r) (go (q 0) x (k 0)) (sets a (λ f. q (suc f)) (λ f. k (suc f)))
        where
          go : (k' x' : Option ℕ) → ((n : ℕ) → x' ≡ Some n → k' ≡ Some n → ⊥) → forget k' x' ≡ x'
          go None x' r = refl
          go (Some n) None r = refl
          go (Some n) (Some m) r = choice_no (decide m n) None (Some m) (λ e. r m refl (ap {B = Option ℕ} Some (sym e)))

      cells : (m : List Cell) → Each (λ c. SetsOf (λ f n. p f ≡ Some n → ⊥) c.0) m → map (narrow_cell p) m ≡ m
      cells [] k = refl
      cells (c ∷ m) k = ap₂ {C = List Cell} (λ (a : Action) (r : List Cell). (a, c.1) ∷ r) (sets c.0 p k.0) (cells m k.1)
  narrows_still (Node f n y z) p h t u =
      go (narrowing o p f n y z) (narrows_still y (also p (known f n)) h.1) (narrows_still z p h.2 t.2 u.1)
    where
      K : Facts
      K = known f n

      known_apart : (g : ℕ) → f < g → known f n g ≡ None
      known_apart g l = known_else f n g (λ q. omega arith)

      both : (g m : ℕ) → (p g ≡ None) × (f < g) → also p K g ≡ None
      both g m k = also_second p K g k.0 ∙ known_apart g k.1

      pair_tests : (d : Diagram) → Tests (λ g m. p g ≡ None) d → Tests (λ g m. f < g) d → Tests (λ g m. also p K g ≡ None) d
      pair_tests d a b = tests_map _ _ both d (tests_both _ _ d a b)

      one_set : (g m : ℕ) → (p g ≡ Some m → ⊥) → Unlike f n g m → also p K g ≡ Some m → ⊥
      one_set g m a b e = cases (p g) refl e
        where
          cases : (x : Option ℕ) → p g ≡ x → or_else x (K g) ≡ Some m → ⊥
          cases None q r = b (known_only f n g m r).0 (known_only f n g m r).1
          cases (Some j) q r = a (q ∙ r)

      pair_sets : (d : Diagram) → Sets (λ g m. p g ≡ Some m → ⊥) d → Sets (Unlike f n) d → Sets (λ g m. also p K g ≡ Some m → ⊥) d
      pair_sets d a b = sets_map _ _ (λ g m k. one_set g m k.0 k.1) d (sets_both _ _ d a b)

      go : Narrowing o p f n y z → (Tests (λ g m. also p K g ≡ None) y → Sets (λ g m. also p K g ≡ Some m → ⊥) y → narrows o y (also p K) ≡ y) → narrows o z p ≡ z → narrows o (Node f n y z) p ≡ Node f n y z
      go (yes_side e r) iy iz = none_some n (sym t.0 ∙ e)
      go (no_side m e k r) iy iz = none_some m (sym t.0 ∙ e)
      go (merged e k r) iy iz =
          absurd (h.0.sides_differ (ap (λ (d : Diagram). narrows o d K) (sym iz) ∙ narrows_narrows z p K (formed_weighted o z h.2) (consistent_flip K p (consistent_known f n p (inl e))) ∙ sym k ∙ iy (pair_tests y t.1 h.0.yes_greater_fields) (pair_sets y u.0 h.0.yes_narrowed)))
      go (kept e k r) iy iz =
          r ∙ ap₂ {C = Diagram} (λ (a b : Diagram). Node f n a b) (iy (pair_tests y t.1 h.0.yes_greater_fields) (pair_sets y u.0 h.0.yes_narrowed)) iz

  -- make

  pub data Making (f n : ℕ) (y z : Diagram) : Type 0 where
    alike : narrow o y f n ≡ narrow o z f n → make o f n y z ≡ z → Making f n y z
    apart : (narrow o y f n ≡ narrow o z f n → ⊥) → make o f n y z ≡ Node f n (narrow o y f n) z → Making f n y z

  pub making : (f n : ℕ) (y z : Diagram) → Making f n y z
  making f n y z = go (equal_diagrams Y Z)
    where
      Y : Diagram
      Y = narrow o y f n

      Z : Diagram
      Z = narrow o z f n

      go : Dec (Y ≡ Z) → Making f n y z
      go (yes e) = alike e (choice_yes (equal_diagrams Y Z) z (Node f n Y z) e)
      go (no e) = apart e (choice_no (equal_diagrams Y Z) z (Node f n Y z) e)

  pub make_tests : (P : ℕ → ℕ → Type 0) (f n : ℕ) (y z : Diagram) → P f n → Tests P y → Tests P z → Tests P (make o f n y z)
  make_tests P f n y z h a b = go (making f n y z)
    where
      go : Making f n y z → Tests P (make o f n y z)
      go (alike e r) = subst (Tests P) (sym r) b
      go (apart e r) = subst (Tests P) (sym r) (h, tests_map _ P (λ g m t. t.0) (narrow o y f n) (tests_narrows P o y (known f n) a), b)

  pub make_sets : (P : ℕ → ℕ → Type 0) (f n : ℕ) (y z : Diagram) → Sets P y → Sets P z → Sets P (make o f n y z)
  make_sets P f n y z a b = go (making f n y z)
    where
      go : Making f n y z → Sets P (make o f n y z)
      go (alike e r) = subst (Sets P) (sym r) b
      go (apart e r) = subst (Sets P) (sym r) (sets_map _ P (λ g m t. t.0) (narrow o y f n) (sets_narrows P L y (known f n) a), b)

  pub make_weighted : (f n : ℕ) (y z : Diagram) → Weighted o y → Weighted o z → Weighted o (make o f n y z)
  make_weighted f n y z a b = go (making f n y z)
    where
      go : Making f n y z → Weighted o (make o f n y z)
      go (alike e r) = subst (Weighted o) (sym r) b
      go (apart e r) = subst (Weighted o) (sym r) (weighted_narrows L y (known f n) a, b)

  pub make_weighs_yes : (f n : ℕ) (y z : Diagram) (s t : Frame) → Weighted o y → Weighted o z → get_or s f 0 ≡ n → weigh o (make o f n y z) s t ≡ weigh o y s t
  make_weighs_yes f n y z s t a b e = go (making f n y z)
    where
      W : Diagram → ℕ
      W d = weigh o d s t

      keeps : (d : Diagram) → Weighted o d → W (narrow o d f n) ≡ W d
      keeps d h = weigh_narrows L d (known f n) s t h (agrees_known f n s e)

      go : Making f n y z → W (make o f n y z) ≡ W y
      go (alike q r) = ap W r ∙ sym (keeps z b) ∙ sym (ap W q) ∙ keeps y a
      go (apart q r) = ap W r ∙ weigh_yes o f n (narrow o y f n) z s t e ∙ keeps y a

  pub make_weighs_no : (f n : ℕ) (y z : Diagram) (s t : Frame) → (get_or s f 0 ≡ n → ⊥) → weigh o (make o f n y z) s t ≡ weigh o z s t
  make_weighs_no f n y z s t e = go (making f n y z)
    where
      W : Diagram → ℕ
      W d = weigh o d s t

      go : Making f n y z → W (make o f n y z) ≡ W z
      go (alike q r) = ap W r
      go (apart q r) = ap W r ∙ weigh_no o f n (narrow o y f n) z s t e

  pub make_formed : (f n : ℕ) (y z : Diagram) → f < fields → LegalValue f n → Formed o y → Formed o z → Tests (λ g m. f ≤ g) y → Tests (After f n) z → Formed o (make o f n y z)
  make_formed f n y z p q a b t u = go (making f n y z)
    where
      go : Making f n y z → Formed o (make o f n y z)
      go (alike e r) = subst (Formed o) (sym r) b
      go (apart e r) = subst (Formed o) (sym r) (node, formed_narrows y (known f n) a, b)
        where
          greater : (g m : ℕ) → (f ≤ g) × (known f n g ≡ None) → f < g
          greater g m k = strictly (decide g f)
            where
              strictly : Dec (g ≡ f) → f < g
              strictly (yes h) = none_some n (sym k.1 ∙ choice_yes (decide g f) (Some n) None h)
              strictly (no h) = less k.0 (λ r'. h (sym r'))
                where
                  less : f ≤ g → (f ≡ g → ⊥) → f < g
                  less i j = omega arith

          node : NodeFormed o f n (narrow o y f n) z
          node =
              record {
                field_exists = p;
                value_legal = q;
                yes_greater_fields = tests_map _ _ greater (narrow o y f n) (tests_narrows (λ g m. f ≤ g) o y (known f n) t);
                no_greater_tests = u;
                yes_narrowed = sets_map _ _ (λ g m k i j. k.1 (ap (known f n) i ∙ known_there f n ∙ ap {B = Option ℕ} Some (sym j))) (narrow o y f n) (sets_narrows (λ g m. Unit {0}) L y (known f n) (cells_all _ (λ c g m e. tt) y));
                sides_differ = λ r'. e (sym r');
              }

  pub make_extent : (f n : ℕ) (y z : Diagram) → extent (make o f n y z) ≤ 1 + (extent y + extent z)
  make_extent f n y z = go (making f n y z) (extent_narrows o y (known f n))
    where
      go : Making f n y z → extent (narrow o y f n) ≤ extent y → extent (make o f n y z) ≤ 1 + (extent y + extent z)
      go (alike e r) h = subst (λ (d : Diagram). extent d ≤ 1 + (extent y + extent z)) (sym r) (omega arith)
      go (apart e r) h = subst (λ (d : Diagram). extent d ≤ 1 + (extent y + extent z)) (sym r) (omega arith)
