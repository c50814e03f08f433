-- A diagram at a test and off it. Assumes nothing.
use Rattle.std.proofs.Common.{◌≡◌, ℕ, ◌+◌, ◌<◌, ◌≤◌, ◌⊎◌, List, get_or, Some, None, Option, sym, refl, ap, ◌∙◌, subst, inl, inr, arith}
use Rattle.format.specs.Fields.{fields, LegalValue}
use Rattle.weights.specs.Weights.{Ops, Laws}
use Rattle.meaning.specs.Decide.{decide, three, Tri, below, level, above}
use Rattle.meaning.specs.Leaves.{Frame, Cell}
use Rattle.meaning.specs.Diagrams.{Diagram, Leaf, Node, weigh, known, narrow, Tests, Cells, Sets, After, Unlike, Formed, extent}
use Rattle.meaning.specs.Constructions.{equal_tests, order_tests, root, first_root, at, off}
use Rattle.meaning.proofs.Gathering.{choice_yes, choice_no}
use Rattle.meaning.proofs.Narrowing.{none_some, known_there, agrees_known, tests_map, sets_map, cells_all, tests_narrows, sets_narrows, extent_narrows, Weighted, weigh_yes, weigh_no, weighted_narrows, weigh_narrows}
use Rattle.meaning.proofs.Making.{formed_narrows}

-- the order of tests

pub after_trans : (f n g m h k : ℕ) → After f n g m → After g m h k → After f n h k
after_trans f n g m h k (inl p) (inl q) = inl (omega arith)
after_trans f n g m h k (inl p) (inr q) = inl (subst (λ (x : ℕ). f < x) q.0 p)
after_trans f n g m h k (inr p) (inl q) = inl (subst (λ (x : ℕ). x < h) (sym p.0) q)
after_trans f n g m h k (inr p) (inr q) = inr (p.0 ∙ q.0, less p.1 q.1)
  where
    less : n < m → m < k → n < k
    less a b = omega arith

pub after_field : (f n g m : ℕ) → After f n g m → f ≤ g
after_field f n g m (inl p) = omega arith
after_field f n g m (inr p) = equal p.0
  where
    equal : f ≡ g → f ≤ g
    equal e = omega arith

pub after_unlike : (f n g m : ℕ) → After f n g m → Unlike f n g m
after_unlike f n g m (inl p) e q = omega arith
after_unlike f n g m (inr p) e q = less p.1 q
  where
    less : n < m → m ≡ n → ⊥
    less a b = omega arith

-- (g, m) is (f, n) or comes after it
abbrev pub AtLeast : ℕ → ℕ → ℕ → ℕ → Type 0
AtLeast f n g m = After f n g m ⊎ ((g ≡ f) × (m ≡ n))

-- the root test, if there is one, is (f, n) or comes after it
abbrev pub From : ℕ → ℕ → Diagram → Type 0
From f n (Leaf l) = Unit {0}
From f n (Node g m y z) = AtLeast f n g m

abbrev pub Unrooted : ℕ → ℕ → Diagram → Type 0
Unrooted f n (Leaf l) = Unit {0}
Unrooted f n (Node g m y z) = (g ≡ f) × (m ≡ n) → ⊥

-- the test is the root of the diagram
abbrev pub Rooted : ℕ → ℕ → Diagram → Type 0
Rooted f n (Leaf l) = ⊥
Rooted f n (Node g m y z) = (g ≡ f) × (m ≡ n)

pub data Splitting (o : Ops) (f n : ℕ) (d : Diagram) : Type 0 where
  rooted : (y z : Diagram) → d ≡ Node f n y z → at o d f n ≡ y → off d f n ≡ z → Splitting o f n d
  unrooted : Unrooted f n d → at o d f n ≡ narrow o d f n → off d f n ≡ d → Splitting o f n d

pub splitting : (o : Ops) (f n : ℕ) (d : Diagram) → Splitting o f n d
splitting o f n (Leaf l) = unrooted tt refl refl
splitting o f n (Node g m y z) = go (equal_tests g m f n)
  where
    go : Dec ((g ≡ f) × (m ≡ n)) → Splitting o f n (Node g m y z)
    go (yes e) = rooted y z (λ i. Node (e.0 i) (e.1 i) y z) (choice_yes (equal_tests g m f n) y (narrow o (Node g m y z) f n) e) (choice_yes (equal_tests g m f n) z (Node g m y z) e)
    go (no e) = unrooted e (choice_no (equal_tests g m f n) y (narrow o (Node g m y z) f n) e) (choice_no (equal_tests g m f n) z (Node g m y z) e)

-- in a formed diagram all tests come after the root
pub tests_after : (o : Ops) (f n : ℕ) (d : Diagram) → Formed o d → From f n d → Unrooted f n d → Tests (After f n) d
tests_after o f n (Leaf l) h r u = tt
tests_after o f n (Node g m y z) h (inr e) u = absurd (u e)
tests_after o f n (Node g m y z) h (inl p) u =
    (p, tests_map _ _ (λ k j q. inl (field k q)) y h.0.yes_greater_fields, tests_map _ _ (λ k j q. after_trans f n g m k j p q) z h.0.no_greater_tests)
  where
    field : (k : ℕ) → g < k → f < k
    field k q = less (after_field f n g m p)
      where
        less : f ≤ g → f < k
        less a = omega arith

module _ {o : Ops} (L : Laws o) (f n : ℕ) where
  pub at_tests : (P : ℕ → ℕ → Type 0) (d : Diagram) → Tests P d → Tests P (at o d f n)
  at_tests P d t = go (splitting o f n d)
    where
      go : Splitting o f n d → Tests P (at o d f n)
      go (rooted y z e a b) = subst (Tests P) (sym a) (subst (Tests P) e t).1
      go (unrooted u a b) = subst (Tests P) (sym a) (tests_map _ P (λ g m k. k.0) (narrow o d f n) (tests_narrows P o d (known f n) t))

  pub off_tests : (P : ℕ → ℕ → Type 0) (d : Diagram) → Tests P d → Tests P (off d f n)
  off_tests P d t = go (splitting o f n d)
    where
      go : Splitting o f n d → Tests P (off d f n)
      go (rooted y z e a b) = subst (Tests P) (sym b) (subst (Tests P) e t).2
      go (unrooted u a b) = subst (Tests P) (sym b) t

  pub at_formed : (d : Diagram) → Formed o d → Formed o (at o d f n)
  at_formed d h = go (splitting o f n d)
    where
      go : Splitting o f n d → Formed o (at o d f n)
      go (rooted y z e a b) = subst (Formed o) (sym a) (subst (Formed o) e h).1
      go (unrooted u a b) = subst (Formed o) (sym a) (formed_narrows L d (known f n) h)

  pub off_formed : (d : Diagram) → Formed o d → Formed o (off d f n)
  off_formed d h = go (splitting o f n d)
    where
      go : Splitting o f n d → Formed o (off d f n)
      go (rooted y z e a b) = subst (Formed o) (sym b) (subst (Formed o) e h).2
      go (unrooted u a b) = subst (Formed o) (sym b) h

  pub at_greater : (d : Diagram) → Formed o d → From f n d → Tests (λ g m. f < g) (at o d f n)
  at_greater d h r = go (splitting o f n d)
    where
      later : (g m : ℕ) → After f n g m × (known f n g ≡ None) → f < g
      later g m (inl p, k) = p
      later g m (inr p, k) = none_some n (sym k ∙ choice_yes (decide g f) (Some n) None (sym p.0))

      go : Splitting o f n d → Tests (λ g m. f < g) (at o d f n)
      go (rooted y z e a b) = subst (Tests (λ g m. f < g)) (sym a) (subst (Formed o) e h).0.yes_greater_fields
      go (unrooted u a b) = subst (Tests (λ g m. f < g)) (sym a) (tests_map _ _ later (narrow o d f n) (tests_narrows (After f n) o d (known f n) (tests_after o f n d h r u)))

  pub off_after : (d : Diagram) → Formed o d → From f n d → Tests (After f n) (off d f n)
  off_after d h r = go (splitting o f n d)
    where
      go : Splitting o f n d → Tests (After f n) (off d f n)
      go (rooted y z e a b) = subst (Tests (After f n)) (sym b) (subst (Formed o) e h).0.no_greater_tests
      go (unrooted u a b) = subst (Tests (After f n)) (sym b) (tests_after o f n d h r u)

  pub at_unlike : (d : Diagram) → Formed o d → Sets (Unlike f n) (at o d f n)
  at_unlike d h = go (splitting o f n d)
    where
      go : Splitting o f n d → Sets (Unlike f n) (at o d f n)
      go (rooted y z e a b) = subst (Sets (Unlike f n)) (sym a) (subst (Formed o) e h).0.yes_narrowed
      go (unrooted u a b) =
          subst (Sets (Unlike f n)) (sym a)
          (sets_map _ _ (λ g m k i j. k.1 (ap (known f n) i ∙ known_there f n ∙ ap {B = Option ℕ} Some (sym j))) (narrow o d f n)
          (sets_narrows (λ g m. Unit {0}) L d (known f n) (cells_all _ (λ c g m e. tt) d)))

  pub at_sets : (P : ℕ → ℕ → Type 0) (d : Diagram) → Sets P d → Sets P (at o d f n)
  at_sets P d t = go (splitting o f n d)
    where
      go : Splitting o f n d → Sets P (at o d f n)
      go (rooted y z e a b) = subst (Sets P) (sym a) (subst (Sets P) e t).0
      go (unrooted u a b) = subst (Sets P) (sym a) (sets_map _ P (λ g m k. k.0) (narrow o d f n) (sets_narrows P L d (known f n) t))

  pub off_cells : (P : Cell → Type 0) (d : Diagram) → Cells P d → Cells P (off d f n)
  off_cells P d t = go (splitting o f n d)
    where
      go : Splitting o f n d → Cells P (off d f n)
      go (rooted y z e a b) = subst (Cells P) (sym b) (subst (Cells P) e t).1
      go (unrooted u a b) = subst (Cells P) (sym b) t

  pub at_weighted : (d : Diagram) → Weighted o d → Weighted o (at o d f n)
  at_weighted d t = go (splitting o f n d)
    where
      go : Splitting o f n d → Weighted o (at o d f n)
      go (rooted y z e a b) = subst (Weighted o) (sym a) (subst (Weighted o) e t).0
      go (unrooted u a b) = subst (Weighted o) (sym a) (weighted_narrows L d (known f n) t)

  pub at_weighs : (d : Diagram) (s t : Frame) → Weighted o d → get_or s f 0 ≡ n → weigh o (at o d f n) s t ≡ weigh o d s t
  at_weighs d s t h q = go (splitting o f n d)
    where
      W : Diagram → ℕ
      W x = weigh o x s t

      go : Splitting o f n d → W (at o d f n) ≡ W d
      go (rooted y z e a b) = ap W a ∙ sym (weigh_yes o f n y z s t q) ∙ sym (ap W e)
      go (unrooted u a b) = ap W a ∙ weigh_narrows L d (known f n) s t h (agrees_known f n s q)

  pub off_weighs : (d : Diagram) (s t : Frame) → (get_or s f 0 ≡ n → ⊥) → weigh o (off d f n) s t ≡ weigh o d s t
  off_weighs d s t q = go (splitting o f n d)
    where
      W : Diagram → ℕ
      W x = weigh o x s t

      go : Splitting o f n d → W (off d f n) ≡ W d
      go (rooted y z e a b) = ap W b ∙ sym (weigh_no o f n y z s t q) ∙ sym (ap W e)
      go (unrooted u a b) = ap W b

  pub at_extent : (d : Diagram) → extent (at o d f n) ≤ extent d
  at_extent d = go (splitting o f n d)
    where
      go : Splitting o f n d → extent (at o d f n) ≤ extent d
      go (rooted y z e a b) = subst (λ (x : Diagram). extent (at o d f n) ≤ extent x) (sym e) (subst (λ (x : Diagram). extent x ≤ 1 + (extent y + extent z)) (sym a) (omega arith))
      go (unrooted u a b) = subst (λ (x : Diagram). extent x ≤ extent d) (sym a) (extent_narrows o d (known f n))

  pub off_extent : (d : Diagram) → extent (off d f n) ≤ extent d
  off_extent d = go (splitting o f n d)
    where
      go : Splitting o f n d → extent (off d f n) ≤ extent d
      go (rooted y z e a b) = subst (λ (x : Diagram). extent (off d f n) ≤ extent x) (sym e) (subst (λ (x : Diagram). extent x ≤ 1 + (extent y + extent z)) (sym b) (omega arith))
      go (unrooted u a b) = subst (λ (x : Diagram). extent x ≤ extent d) (sym b) (omega arith)

  pub rooted_extent : (d : Diagram) → Rooted f n d → (extent (at o d f n) < extent d) × (extent (off d f n) < extent d)
  rooted_extent (Leaf l) r = absurd r
  rooted_extent (Node g m y z) r = go (splitting o f n (Node g m y z))
    where
      go : Splitting o f n (Node g m y z) → (extent (at o (Node g m y z) f n) < extent (Node g m y z)) × (extent (off (Node g m y z) f n) < extent (Node g m y z))
      go (rooted y' z' e a b) =
          subst (λ (x : Diagram). (extent (at o (Node g m y z) f n) < extent x) × (extent (off (Node g m y z) f n) < extent x)) (sym e)
          (subst (λ (x : Diagram). extent x < 1 + (extent y' + extent z')) (sym a) (omega arith), subst (λ (x : Diagram). extent x < 1 + (extent y' + extent z')) (sym b) (omega arith))
      go (unrooted u a b) = absurd (u r)

-- the smaller root of two diagrams

pub data Heads (d e : Diagram) : Type 0 where
  leaves : (l m : List Cell) → d ≡ Leaf l → e ≡ Leaf m → first_root (root d) (root e) ≡ None → Heads d e
  split : (f n : ℕ) → first_root (root d) (root e) ≡ Some (f, n) → From f n d → From f n e → Rooted f n d ⊎ Rooted f n e → Heads d e

pub heads : (d e : Diagram) → Heads d e
heads (Leaf l) (Leaf m) = leaves l m refl refl refl
heads (Leaf l) (Node f n y z) = split f n refl tt (inr (refl, refl)) (inr (refl, refl))
heads (Node f n y z) (Leaf l) = split f n refl (inr (refl, refl)) tt (inl (refl, refl))
heads (Node f n y z) (Node g m v w) = go (order_tests f n g m) refl
  where
    T : Type 0
    T = Tri (After f n g m) ((f ≡ g) × (n ≡ m)) (After g m f n)

    go : (t : T) → order_tests f n g m ≡ t → Heads (Node f n y z) (Node g m v w)
    go (below a) e = split f n (ap (λ (t : T). Some (three t (f, n) (f, n) (g, m))) e) (inr (refl, refl)) (inl a) (inl (refl, refl))
    go (level a) e = split f n (ap (λ (t : T). Some (three t (f, n) (f, n) (g, m))) e) (inr (refl, refl)) (inr (sym a.0, sym a.1)) (inl (refl, refl))
    go (above a) e = split g m (ap (λ (t : T). Some (three t (f, n) (f, n) (g, m))) e) (inl a) (inr (refl, refl)) (inr (refl, refl))

module _ {o : Ops} (L : Laws o) (f n : ℕ) where
  -- both sides of a split are smaller
  pub split_shrinks : (d e : Diagram) → Rooted f n d ⊎ Rooted f n e → (extent (at o d f n) + extent (at o e f n) < extent d + extent e) × (extent (off d f n) + extent (off e f n) < extent d + extent e)
  split_shrinks d e (inl r) = go (rooted_extent L f n d r) (at_extent L f n e) (off_extent L f n e)
    where
      go : (extent (at o d f n) < extent d) × (extent (off d f n) < extent d) → extent (at o e f n) ≤ extent e → extent (off e f n) ≤ extent e → (extent (at o d f n) + extent (at o e f n) < extent d + extent e) × (extent (off d f n) + extent (off e f n) < extent d + extent e)
      go a b c = (omega arith, omega arith)
  split_shrinks d e (inr r) = go (rooted_extent L f n e r) (at_extent L f n d) (off_extent L f n d)
    where
      go : (extent (at o e f n) < extent e) × (extent (off e f n) < extent e) → extent (at o d f n) ≤ extent d → extent (off d f n) ≤ extent d → (extent (at o d f n) + extent (at o e f n) < extent d + extent e) × (extent (off d f n) + extent (off e f n) < extent d + extent e)
      go a b c = (omega arith, omega arith)

-- what holds of all tests holds of the root
pub rooted_test : (P : ℕ → ℕ → Type 0) (f n : ℕ) (d : Diagram) → Rooted f n d → Tests P d → P f n
rooted_test P f n (Leaf l) r t = absurd r
rooted_test P f n (Node g m y z) r t = subst (λ (x : ℕ). P x n) r.0 (subst (λ (x : ℕ). P g x) r.1 t.0)

pub rooted_either : (P : ℕ → ℕ → Type 0) (f n : ℕ) (d e : Diagram) → Rooted f n d ⊎ Rooted f n e → Tests P d → Tests P e → P f n
rooted_either P f n d e (inl r) t u = rooted_test P f n d r t
rooted_either P f n d e (inr r) t u = rooted_test P f n e r u

pub formed_tests_legal : (o : Ops) (d : Diagram) → Formed o d → Tests (λ f n. (f < fields) × LegalValue f n) d
formed_tests_legal o (Leaf l) h = tt
formed_tests_legal o (Node f n y z) h = ((h.0.field_exists, h.0.value_legal), formed_tests_legal o y h.1, formed_tests_legal o z h.2)
