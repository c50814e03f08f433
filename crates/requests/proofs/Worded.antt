-- Join and choose as they are worked out satisfy their rules, whatever their fuel. Assumes nothing.
use Rattle.std.proofs.Common.{◌≡◌, ℕ, zero, suc, ◌+◌, ◌<◌, ◌≤◌, ◌≢◌, ◌⊎◌, List, ◌++◌, Some, Option, sym, refl, ap, ◌∙◌, ap₂, arith}
use Rattle.weights.specs.Weights.{Ops, Laws}
use Rattle.meaning.specs.Decide.{decide}
use Rattle.meaning.specs.Leaves.{Cell, collect}
use Rattle.meaning.specs.Diagrams.{Diagram, Leaf, make, After, extent}
use Rattle.meaning.specs.Constructions.{equal_tests, Tested, root, earlier, first_root, at, off, join_at, join_by, join, choose_at, choose_by, choose}
use Rattle.meaning.proofs.Gathering.{choice_yes, choice_no}
use Rattle.meaning.proofs.Splitting.{after_unlike, Rooted, Heads, leaves, split, heads, split_shrinks}
use Rattle.meaning.proofs.Joining.{Least, own, other, least}
use Rattle.meaning.proofs.Canonicity.{extent_positive}

self : (k : ℕ) → k ≤ k
self k = omega arith

module _ {o : Ops} (L : Laws o) where
  no_fuel : {A : Type 0} (d e : Diagram) → extent d + extent e ≤ 0 → A
  no_fuel d e b = absurd (none (extent_positive L d) b)
    where
      none : 1 ≤ extent d → extent d + extent e ≤ 0 → ⊥
      none i j = omega arith

  -- both sides of a split need less fuel
  split_fits : (f n k : ℕ) (d e : Diagram) → Rooted f n d ⊎ Rooted f n e → extent d + extent e ≤ suc k → (extent (at o d f n) + extent (at o e f n) ≤ k) × (extent (off d f n) + extent (off e f n) ≤ k)
  split_fits f n k d e r b = fits (split_shrinks L f n d e r)
    where
      fits : (extent (at o d f n) + extent (at o e f n) < extent d + extent e) × (extent (off d f n) + extent (off e f n) < extent d + extent e) → (extent (at o d f n) + extent (at o e f n) ≤ k) × (extent (off d f n) + extent (off e f n) ≤ k)
      fits z = (omega arith, omega arith)

  join_steady : (i j : ℕ) (d e : Diagram) → extent d + extent e ≤ i → extent d + extent e ≤ j → join_by o i d e ≡ join_by o j d e
  unfolding join_by
  join_steady zero j d e b c = no_fuel d e b
  join_steady (suc i) zero d e b c = no_fuel d e c
  join_steady (suc i) (suc j) d e b c = go (heads d e) (join_steady i j)
    where
      go : Heads d e → ((v w : Diagram) → extent v + extent w ≤ i → extent v + extent w ≤ j → join_by o i v w ≡ join_by o j v w) → join_at o (join_by o i) (first_root (root d) (root e)) d e ≡ join_at o (join_by o j) (first_root (root d) (root e)) d e
      go (leaves l m p q h) ih = ap (λ (x : Option Tested). join_at o (join_by o i) x d e) h ∙ sym (ap (λ (x : Option Tested). join_at o (join_by o j) x d e) h)
      go (split f n h p q r) ih =
          let s = split_fits f n i d e r b in
          let t = split_fits f n j d e r c in
          ap (λ (x : Option Tested). join_at o (join_by o i) x d e) h
          ∙ ap₂ (make o f n) (ih (at o d f n) (at o e f n) s.0 t.0) (ih (off d f n) (off e f n) s.1 t.1)
          ∙ sym (ap (λ (x : Option Tested). join_at o (join_by o j) x d e) h)

  join_whole : (k : ℕ) (d e : Diagram) → extent d + extent e ≤ k → join_by o k d e ≡ join o d e
  unfolding join
  join_whole k d e b = join_steady k (extent d + extent e) d e b (self (extent d + extent e))

  pub join_of_leaves : (l m : List Cell) → join o (Leaf l) (Leaf m) ≡ Leaf (collect o (l ++ m))
  unfolding join_by
  join_of_leaves l m = sym (join_whole 2 (Leaf l) (Leaf m) (self 2))

  pub join_of_split : (d e : Diagram) (f n : ℕ) → first_root (root d) (root e) ≡ Some (f, n) → Rooted f n d ⊎ Rooted f n e → join o d e ≡ make o f n (join o (at o d f n) (at o e f n)) (join o (off d f n) (off e f n))
  unfolding join_by
  join_of_split d e f n h r =
      let k = extent d + extent e in
      let s = split_fits f n k d e r (more k) in
      sym (join_whole (suc k) d e (more k))
      ∙ ap (λ (x : Option Tested). join_at o (join_by o k) x d e) h
      ∙ ap₂ (make o f n) (join_whole k (at o d f n) (at o e f n) s.0) (join_whole k (off d f n) (off e f n) s.1)
    where
      more : (k : ℕ) → k ≤ suc k
      more k = omega arith

  -- choose, by what the least test is
  module _ (F : Diagram → Diagram → Diagram) (f n : ℕ) (y z : Diagram) where
    choose_at_own : choose_at o F (f, n) f n y z ≡ make o f n y (off z f n)
    choose_at_own = choice_yes (equal_tests f n f n) _ _ (refl, refl)

    choose_at_same : (g m : ℕ) → g ≡ f → ((g ≡ f) × (m ≡ n) → ⊥) → choose_at o F (g, m) f n y z ≡ make o g m (at o z g m) (F (off y g m) (off z g m))
    choose_at_same g m e u = choice_no (equal_tests g m f n) _ _ u ∙ ap (λ (x : Diagram). make o g m x (F (off y g m) (off z g m))) (choice_yes (decide g f) _ _ e)

    choose_at_other : (g m : ℕ) → g ≢ f → ((g ≡ f) × (m ≡ n) → ⊥) → choose_at o F (g, m) f n y z ≡ make o g m (F (at o y g m) (at o z g m)) (F (off y g m) (off z g m))
    choose_at_other g m e u = choice_no (equal_tests g m f n) _ _ u ∙ ap (λ (x : Diagram). make o g m x (F (off y g m) (off z g m))) (choice_no (decide g f) _ _ e)

  differ : (g m f n : ℕ) → After g m f n → (g ≡ f) × (m ≡ n) → ⊥
  differ g m f n a h = after_unlike g m f n a (sym h.0) (sym h.1)

  choose_steady : (f n i j : ℕ) (y z : Diagram) → extent y + extent z ≤ i → extent y + extent z ≤ j → choose_by o i f n y z ≡ choose_by o j f n y z
  unfolding choose_by
  choose_steady f n zero j y z b c = no_fuel y z b
  choose_steady f n (suc i) zero y z b c = no_fuel y z c
  choose_steady f n (suc i) (suc j) y z b c = go (least f n y z) (choose_steady f n i j)
    where
      A : (Diagram → Diagram → Diagram) → Tested → Diagram
      A F u = choose_at o F u f n y z

      I : Diagram → Diagram → Diagram
      I = choose_by o i f n

      J : Diagram → Diagram → Diagram
      J = choose_by o j f n

      go : Least f n y z → ((v w : Diagram) → extent v + extent w ≤ i → extent v + extent w ≤ j → choose_by o i f n v w ≡ choose_by o j f n v w) → A I (earlier (earlier (f, n) (root y)) (root z)) ≡ A J (earlier (earlier (f, n) (root y)) (root z))
      go (own e p q) ih = ap (A I) e ∙ choose_at_own I f n y z ∙ sym (choose_at_own J f n y z) ∙ sym (ap (A J) e)
      go (other g m e a p q r) ih = ap (A I) e ∙ inner (decide g f) ∙ sym (ap (A J) e)
        where
          s : (extent (at o y g m) + extent (at o z g m) ≤ i) × (extent (off y g m) + extent (off z g m) ≤ i)
          s = split_fits g m i y z r b

          t : (extent (at o y g m) + extent (at o z g m) ≤ j) × (extent (off y g m) + extent (off z g m) ≤ j)
          t = split_fits g m j y z r c

          offs : I (off y g m) (off z g m) ≡ J (off y g m) (off z g m)
          offs = ih (off y g m) (off z g m) s.1 t.1

          inner : Dec (g ≡ f) → A I (g, m) ≡ A J (g, m)
          inner (yes h) =
              choose_at_same I f n y z g m h (differ g m f n a) ∙ ap (make o g m (at o z g m)) offs ∙ sym (choose_at_same J f n y z g m h (differ g m f n a))
          inner (no h) =
              choose_at_other I f n y z g m h (differ g m f n a)
              ∙ ap₂ (make o g m) (ih (at o y g m) (at o z g m) s.0 t.0) offs
              ∙ sym (choose_at_other J f n y z g m h (differ g m f n a))

  choose_whole : (f n k : ℕ) (y z : Diagram) → extent y + extent z ≤ k → choose_by o k f n y z ≡ choose o f n y z
  unfolding choose
  choose_whole f n k y z b = choose_steady f n k (extent y + extent z) y z b (self (extent y + extent z))

  -- one step of choose, with the least test read off
  choose_step : (f n : ℕ) (y z : Diagram) (g m : ℕ) → earlier (earlier (f, n) (root y)) (root z) ≡ (g, m) → choose o f n y z ≡ choose_at o (choose_by o (extent y + extent z) f n) (g, m) f n y z
  unfolding choose_by
  choose_step f n y z g m e = sym (choose_whole f n (suc (extent y + extent z)) y z (more (extent y + extent z))) ∙ ap (λ (u : Tested). choose_at o (choose_by o (extent y + extent z) f n) u f n y z) e
    where
      more : (k : ℕ) → k ≤ suc k
      more k = omega arith

  pub choose_own : (f n : ℕ) (y z : Diagram) → earlier (earlier (f, n) (root y)) (root z) ≡ (f, n) → choose o f n y z ≡ make o f n y (off z f n)
  choose_own f n y z e = choose_step f n y z f n e ∙ choose_at_own (choose_by o (extent y + extent z) f n) f n y z

  module _ (f n : ℕ) (y z : Diagram) (g m : ℕ) (e : earlier (earlier (f, n) (root y)) (root z) ≡ (g, m)) (a : After g m f n) (r : Rooted g m y ⊎ Rooted g m z) where
    fits : (extent (at o y g m) + extent (at o z g m) ≤ extent y + extent z) × (extent (off y g m) + extent (off z g m) ≤ extent y + extent z)
    fits = split_fits g m (extent y + extent z) y z r (more (extent y + extent z))
      where
        more : (k : ℕ) → k ≤ suc k
        more k = omega arith

    pub choose_same_field : g ≡ f → choose o f n y z ≡ make o g m (at o z g m) (choose o f n (off y g m) (off z g m))
    choose_same_field h =
        choose_step f n y z g m e
        ∙ choose_at_same (choose_by o (extent y + extent z) f n) f n y z g m h (differ g m f n a)
        ∙ ap (make o g m (at o z g m)) (choose_whole f n (extent y + extent z) (off y g m) (off z g m) fits.1)

    pub choose_other_field : g ≢ f → choose o f n y z ≡ make o g m (choose o f n (at o y g m) (at o z g m)) (choose o f n (off y g m) (off z g m))
    choose_other_field h =
        choose_step f n y z g m e
        ∙ choose_at_other (choose_by o (extent y + extent z) f n) f n y z g m h (differ g m f n a)
        ∙ ap₂ (make o g m) (choose_whole f n (extent y + extent z) (at o y g m) (at o z g m) fits.0) (choose_whole f n (extent y + extent z) (off y g m) (off z g m) fits.1)
