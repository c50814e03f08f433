-- Narrow and make by the rules give what they are worked out to. Assumes nothing.
use Rattle.std.proofs.Common.{◌≡◌, ℕ, zero, suc, ◌+◌, ◌<◌, ◌≤◌, ◌≢◌, List, [], ◌∷◌, ◌++◌, None, sym, ap, ◌∙◌, subst, arith}
use Rattle.format.specs.Fields.{fields, LegalValue}
use Rattle.weights.specs.Weights.{Ops, Laws}
use Rattle.meaning.specs.Leaves.{Cell, Each, LeafFormed}
use Rattle.meaning.specs.Diagrams.{Diagram, Leaf, Node, known, also, narrows, narrow, make, Tests, After, Formed, extent}
use Rattle.meaning.proofs.Gathering.{each_append}
use Rattle.meaning.proofs.Narrowing.{none_some, known_there, known_only, known_else, Consistent, Narrowing, yes_side, no_side, merged, kept, narrowing, tests_map, sets_map, tests_narrows, extent_narrows, formed_weighted}
use Rattle.meaning.proofs.Making.{narrows_narrows, formed_narrows, narrows_still, Making, alike, apart, making, make_formed}
use Rattle.meaning.proofs.Canonicity.{extent_positive}
use Rattle.requests.specs.Requests.{Request, node, leaf_records, RecordFormed}
use Rattle.requests.proofs.Acting.{narrow_of_leaf}
use Rattle.requests.specs.Rules.{narrow_leaf, Narrows, narrows_leaf, narrows_yes, narrows_no, narrows_both, Makes, makes_no, makes_node}

-- the construction gives r by the rules R, and requests well-formed records only
pub record Given (o : Ops) (R : Diagram → List Request → Type 0) (r : Diagram) : Type 0 where
  pub asks : List Request
  pub built : R r asks
  pub sound : Each (RecordFormed o) asks

pub leaf_sound : (o : Ops) (l : List Cell) → LeafFormed o l → Each (RecordFormed o) (leaf_records l)
leaf_sound o [] h = tt
leaf_sound o (c ∷ l) h = (h.cells.0.action, (h, leaf_sound o l (record { cells = h.cells.1; ascending = h.ascending.1 })))

pub sound_two : (o : Ops) (a b : List Request) → Each (RecordFormed o) a → Each (RecordFormed o) b → Each (RecordFormed o) (a ++ b)
sound_two o a b p q = each_append (RecordFormed o) a b p q

pub sound_three : (o : Ops) (a b c : List Request) → Each (RecordFormed o) a → Each (RecordFormed o) b → Each (RecordFormed o) c → Each (RecordFormed o) (a ++ (b ++ c))
sound_three o a b c p q r = sound_two o a (b ++ c) p (sound_two o b c q r)

-- what a make asks of its operands
pub record Ready (o : Ops) (f n : ℕ) (y z : Diagram) : Type 0 where
  pub exists : f < fields
  pub legal : LegalValue f n
  pub yes_formed : Formed o y
  pub no_formed : Formed o z
  pub yes_fields : Tests (λ g m. f ≤ g) y
  pub no_after : Tests (After f n) z

module _ {o : Ops} (L : Laws o) where
  -- every diagram of at most k parts is narrowed by the rules
  abbrev NarrowsUpTo : ℕ → Type 0
  NarrowsUpTo k = (d : Diagram) (f n : ℕ) → extent d ≤ k → Formed o d → Given o (Narrows o d f n) (narrow o d f n)

  make_given_by : (k : ℕ) → NarrowsUpTo k → (f n : ℕ) (y z : Diagram) → extent y ≤ k → extent z ≤ k → Ready o f n y z → Given o (Makes o f n y z) (make o f n y z)
  make_given_by k ih f n y z i j h = go (making L f n y z)
    where
      Y : Given o (Narrows o y f n) (narrow o y f n)
      Y = ih y f n i h.yes_formed

      Z : Given o (Narrows o z f n) (narrow o z f n)
      Z = ih z f n j h.no_formed

      go : Making L f n y z → Given o (Makes o f n y z) (make o f n y z)
      go (alike e r) =
          subst (Given o (Makes o f n y z)) (sym r)
          (record { asks = Y.asks ++ Z.asks; built = makes_no Y.built Z.built e; sound = sound_two o Y.asks Z.asks Y.sound Z.sound })
      go (apart e r) =
          subst (Given o (Makes o f n y z)) (sym r)
          (record {
            asks = Y.asks ++ (Z.asks ++ (node f n (narrow o y f n) z ∷ []));
            built = makes_node Y.built Z.built e;
            sound = sound_three o Y.asks Z.asks (node f n (narrow o y f n) z ∷ []) Y.sound Z.sound (made, tt);
          })
        where
          made : Formed o (Node f n (narrow o y f n) z)
          made = subst (Formed o) r (make_formed L f n y z h.exists h.legal h.yes_formed h.no_formed h.yes_fields h.no_after)

  module _ (k : ℕ) (ih : NarrowsUpTo k) (g m : ℕ) (y z : Diagram) (f n : ℕ) (b : extent y + extent z ≤ k) (h : Formed o (Node g m y z)) where
    yes_small : extent y ≤ k
    yes_small = omega arith

    no_small : extent z ≤ k
    no_small = omega arith

    -- the yes side of this test knows it already
    yes_still : g ≡ f → m ≡ n → narrow o y f n ≡ y
    yes_still p q = narrows_still L y (known f n) h.1 (tests_map _ _ (λ j i l. known_else f n j (λ e. apart_fields l e p)) y h.0.yes_greater_fields) (sets_map _ _ (λ j i u e. u ((known_only f n j i e).0 ∙ sym p) ((known_only f n j i e).1 ∙ sym q)) y h.0.yes_narrowed)
      where
        apart_fields : {j : ℕ} → g < j → j ≡ f → g ≡ f → ⊥
        apart_fields l e p' = omega arith

    other_field : known f n g ≡ None → g ≢ f
    other_field e q = none_some n (sym e ∙ ap (known f n) q ∙ known_there f n)

    consistent : g ≢ f → Consistent (known f n) (known g m)
    consistent q j i i' e e' = absurd (q (sym (known_only g m j i' e').0 ∙ (known_only f n j i e).0))

    twice : (x : Diagram) → Formed o x → g ≢ f → narrow o (narrow o x f n) g m ≡ narrows o x (also (known f n) (known g m))
    twice x k' q = narrows_narrows L x (known f n) (known g m) (formed_weighted o x k') (consistent q)

    ready : Ready o g m (narrow o y f n) (narrow o z f n)
    ready =
        record {
          exists = h.0.field_exists;
          legal = h.0.value_legal;
          yes_formed = formed_narrows L y (known f n) h.1;
          no_formed = formed_narrows L z (known f n) h.2;
          yes_fields = tests_map _ _ (λ j i t. weaker t.0) (narrow o y f n) (tests_narrows (λ j i. g < j) o y (known f n) h.0.yes_greater_fields);
          no_after = tests_map _ _ (λ j i t. t.0) (narrow o z f n) (tests_narrows (After g m) o z (known f n) h.0.no_greater_tests);
        }
      where
        weaker : {j : ℕ} → g < j → g ≤ j
        weaker l = omega arith

    -- a node of another field is made from both sides, narrowed
    across : g ≢ f → make o g m (narrow o y f n) (narrow o z f n) ≡ narrow o (Node g m y z) f n → Given o (Narrows o (Node g m y z) f n) (narrow o (Node g m y z) f n)
    across q e =
        subst (Given o (Narrows o (Node g m y z) f n)) e
        (record {
          asks = Y.asks ++ (Z.asks ++ M.asks);
          built = narrows_both q Y.built Z.built M.built;
          sound = sound_three o Y.asks Z.asks M.asks Y.sound Z.sound M.sound;
        })
      where
        Y : Given o (Narrows o y f n) (narrow o y f n)
        Y = ih y f n yes_small h.1

        Z : Given o (Narrows o z f n) (narrow o z f n)
        Z = ih z f n no_small h.2

        shrunk : {u v : ℕ} → u ≤ v → v ≤ k → u ≤ k
        shrunk i j = omega arith

        M : Given o (Makes o g m (narrow o y f n) (narrow o z f n)) (make o g m (narrow o y f n) (narrow o z f n))
        M = make_given_by k ih g m (narrow o y f n) (narrow o z f n) (shrunk (extent_narrows o y (known f n)) yes_small) (shrunk (extent_narrows o z (known f n)) no_small) ready

    node_given : Given o (Narrows o (Node g m y z) f n) (narrow o (Node g m y z) f n)
    node_given = go (narrowing o (known f n) g m y z)
      where
        when_merged : g ≢ f → narrows o y (also (known f n) (known g m)) ≡ narrows o z (also (known f n) (known g m)) → narrow o (Node g m y z) f n ≡ (narrow o z f n) → Making L g m (narrow o y f n) (narrow o z f n) → make o g m (narrow o y f n) (narrow o z f n) ≡ narrow o (Node g m y z) f n
        when_merged q e r (alike e' r') = r' ∙ sym r
        when_merged q e r (apart e' r') = absurd (e' (twice y h.1 q ∙ e ∙ sym (twice z h.2 q)))

        when_kept : g ≢ f → (narrows o y (also (known f n) (known g m)) ≡ narrows o z (also (known f n) (known g m)) → ⊥) → narrow o (Node g m y z) f n ≡ Node g m (narrows o y (also (known f n) (known g m))) (narrow o z f n) → Making L g m (narrow o y f n) (narrow o z f n) → make o g m (narrow o y f n) (narrow o z f n) ≡ narrow o (Node g m y z) f n
        when_kept q e r (alike e' r') = absurd (e (sym (twice y h.1 q) ∙ e' ∙ twice z h.2 q))
        when_kept q e r (apart e' r') = r' ∙ ap (λ (x : Diagram). Node g m x (narrow o z f n)) (twice y h.1 q) ∙ sym r

        go : Narrowing o (known f n) g m y z → Given o (Narrows o (Node g m y z) f n) (narrow o (Node g m y z) f n)
        go (yes_side e r) =
            let q = known_only f n g m e in
            subst (Given o (Narrows o (Node g m y z) f n)) (sym (r ∙ yes_still q.0 q.1)) (record { asks = []; built = narrows_yes q.0 q.1; sound = tt })
        go (no_side j e u r) =
            let q = known_only f n g j e in
            let Z = ih z f n no_small h.2 in
            subst (Given o (Narrows o (Node g m y z) f n)) (sym r) (record { asks = Z.asks; built = narrows_no q.0 (λ i. u (q.1 ∙ sym i)) Z.built; sound = Z.sound })
        go (merged e u r) = across (other_field e) (when_merged (other_field e) u r (making L g m (narrow o y f n) (narrow o z f n)))
        go (kept e u r) = across (other_field e) (when_kept (other_field e) u r (making L g m (narrow o y f n) (narrow o z f n)))

  leaf_given : (l : List Cell) (f n : ℕ) → Formed o (Leaf l) → Given o (Narrows o (Leaf l) f n) (narrow o (Leaf l) f n)
  leaf_given l f n h =
      subst (Given o (Narrows o (Leaf l) f n)) (sym (narrow_of_leaf o l f n))
      (record { asks = leaf_records (narrow_leaf o l f n); built = narrows_leaf; sound = leaf_sound o (narrow_leaf o l f n) (subst (Formed o) (narrow_of_leaf o l f n) (formed_narrows L (Leaf l) (known f n) h)) })

  narrow_given_by : (k : ℕ) → NarrowsUpTo k
  narrow_given_by zero d f n b h = absurd (none (extent_positive L d) b)
    where
      none : 1 ≤ extent d → extent d ≤ 0 → ⊥
      none i j = omega arith
  narrow_given_by (suc k) (Leaf l) f n b h = leaf_given l f n h
  narrow_given_by (suc k) (Node g m y z) f n b h = node_given k (narrow_given_by k) g m y z f n (within b) h
    where
      within : 1 + (extent y + extent z) ≤ suc k → extent y + extent z ≤ k
      within c = omega arith

  pub narrow_given : (d : Diagram) (f n : ℕ) → Formed o d → Given o (Narrows o d f n) (narrow o d f n)
  narrow_given d f n h = narrow_given_by (extent d) d f n (self (extent d)) h
    where
      self : (k : ℕ) → k ≤ k
      self k = omega arith

  pub make_given : (f n : ℕ) (y z : Diagram) → Ready o f n y z → Given o (Makes o f n y z) (make o f n y z)
  make_given f n y z h = make_given_by (extent y + extent z) (narrow_given_by (extent y + extent z)) f n y z (left (extent y) (extent z)) (right (extent y) (extent z)) h
    where
      left : (i j : ℕ) → i ≤ i + j
      left i j = omega arith

      right : (i j : ℕ) → j ≤ i + j
      right i j = omega arith
