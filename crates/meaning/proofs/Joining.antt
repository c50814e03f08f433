-- Join and choose: forms and weights. Assumes nothing.
use Rattle.std.proofs.Common.{◌≡◌, ℕ, zero, suc, ◌+◌, ◌<◌, ◌≤◌, ◌⊎◌, List, ◌++◌, map, get_or, Some, None, Option, sym, refl, ap, ◌∙◌, subst, ap₂, subst₂, inl, inr, arith}
use Rattle.format.specs.Fields.{fields, LegalValue}
use Rattle.format.specs.Actions.{compose}
use Rattle.weights.specs.Weights.{Ops, Weight, Laws}
use Rattle.meaning.specs.Decide.{choice, decide, three, Tri, below, level, above}
use Rattle.meaning.specs.Leaves.{Action, Frame, Cell, Each, collect, ActionFormed}
use Rattle.meaning.specs.Diagrams.{Diagram, Leaf, Node, weigh, Facts, known, also, narrow_action, narrow_cell, narrows, make, Tests, Cells, After, Formed, extent}
use Rattle.meaning.specs.Constructions.{equal_tests, order_tests, Tested, root, earlier, first_root, at, off, join_at, join_by, join, choose_at, choose_by, choose}
use Rattle.meaning.proofs.Gathering.{choice_yes, choice_no, each_map, each_append, each_of_map, collect_each, Weights, gather_append, gather_collect}
use Rattle.meaning.proofs.Narrowing.{Narrowing, yes_side, no_side, merged, kept, narrowing, narrows_leaf, tests_map, Weighted, formed_weighted, emits_additive}
use Rattle.meaning.proofs.Making.{collect_formed, Making, alike, apart, making, make_tests, make_formed, make_weighs_yes, make_weighs_no}
use Rattle.meaning.proofs.Splitting.{after_trans, after_field, after_unlike, AtLeast, From, Rooted, Splitting, rooted, unrooted, splitting, Heads, leaves, split, heads, split_shrinks, rooted_either, formed_tests_legal, at_tests, off_tests, at_formed, off_formed, at_greater, off_after, off_cells, at_weighs, off_weighs}
use Rattle.meaning.proofs.Canonicity.{extent_positive}

-- what joining, narrowing and composing keep of a cell
pub record Closed (o : Ops) (Q : Cell → Type 0) : Type 0 where
  pub joins : (a : Action) (v w : ℕ) → Q (a, v) → Q (a, w) → Q (a, o.join v w)
  pub narrows : (p : Facts) (a : Action) (w : ℕ) → Q (a, w) → Q (narrow_action p a, w)
  pub composes : (a b : Action) (v w : ℕ) → Q (a, v) → Q (b, w) → Q (compose a b, o.times v w)

module _ {o : Ops} (L : Laws o) {Q : Cell → Type 0} (K : Closed o Q) where
  pub cells_collect : (l : List Cell) → Each Q l → Each Q (collect o l)
  cells_collect l h = collect_each L Q K.joins Q (λ c k e. k) l h

  pub cells_narrows : (d : Diagram) (p : Facts) → Cells Q d → Cells Q (narrows o d p)
  cells_narrows (Leaf l) p h = subst (Cells Q) (sym (narrows_leaf o p l)) (cells_collect (map (narrow_cell p) l) (each_of_map Q Q (narrow_cell p) (λ c k. K.narrows p c.0 c.1 k) l h))
  cells_narrows (Node f n y z) p h =
      go (narrowing o p f n y z) (cells_narrows y p h.0) (cells_narrows z p h.1) (cells_narrows y (also p (known f n)) h.0)
    where
      go : Narrowing o p f n y z → Cells Q (narrows o y p) → Cells Q (narrows o z p) → Cells Q (narrows o y (also p (known f n))) → Cells Q (narrows o (Node f n y z) p)
      go (yes_side e r) a b c = subst (Cells Q) (sym r) a
      go (no_side m e k r) a b c = subst (Cells Q) (sym r) b
      go (merged e k r) a b c = subst (Cells Q) (sym r) b
      go (kept e k r) a b c = subst (Cells Q) (sym r) (c, b)

  pub cells_make : (f n : ℕ) (y z : Diagram) → Cells Q y → Cells Q z → Cells Q (make o f n y z)
  cells_make f n y z a b = go (making L f n y z)
    where
      go : Making L f n y z → Cells Q (make o f n y z)
      go (alike e r) = subst (Cells Q) (sym r) b
      go (apart e r) = subst (Cells Q) (sym r) (cells_narrows y (known f n) a, b)

  pub cells_at : (f n : ℕ) (d : Diagram) → Cells Q d → Cells Q (at o d f n)
  cells_at f n d t = go (splitting o f n d)
    where
      go : Splitting o f n d → Cells Q (at o d f n)
      go (rooted y z e a b) = subst (Cells Q) (sym a) (subst (Cells Q) e t).0
      go (unrooted u a b) = subst (Cells Q) (sym a) (cells_narrows d (known f n) t)

-- r is the join of d and e
pub record Joined (o : Ops) (d e r : Diagram) : Type 1 where
  pub tests : (P : ℕ → ℕ → Type 0) → Tests P d → Tests P e → Tests P r
  pub cells : (Q : Cell → Type 0) → Closed o Q → Cells Q d → Cells Q e → Cells Q r
  pub formed : Formed o r
  pub weighs : (s t : Frame) → weigh o r s t ≡ o.join (weigh o d s t) (weigh o e s t)

-- in a formed diagram the fields tested are not before the root's
pub tests_fields : (o : Ops) (f n : ℕ) (d : Diagram) → Formed o d → From f n d → Tests (λ g m. f ≤ g) d
tests_fields o f n (Leaf l) h r = tt
tests_fields o f n (Node g m y z) h r =
    (first r, tests_map _ _ (λ k j p. wider (first r) p) y h.0.yes_greater_fields, tests_map _ _ (λ k j p. widest (first r) (after_field g m k j p)) z h.0.no_greater_tests)
  where
    first : AtLeast f n g m → f ≤ g
    first (inl a) = after_field f n g m a
    first (inr a) = same a.0
      where
        same : g ≡ f → f ≤ g
        same e = omega arith

    wider : {k : ℕ} → f ≤ g → g < k → f ≤ k
    wider a b = omega arith

    widest : {k : ℕ} → f ≤ g → g ≤ k → f ≤ k
    widest a b = omega arith

pub weaker : (f : ℕ) (d : Diagram) → Tests (λ g m. f < g) d → Tests (λ g m. f ≤ g) d
weaker f d t = tests_map _ _ (λ g m h. less g h) d t
  where
    less : (g : ℕ) → f < g → f ≤ g
    less g h = omega arith

module _ {o : Ops} (L : Laws o) where
  joined_leaves : (l m : List Cell) → Formed o (Leaf l) → Formed o (Leaf m) → Joined o (Leaf l) (Leaf m) (Leaf (collect o (l ++ m)))
  joined_leaves l m p q =
      record {
        tests = λ P t u. tt;
        cells = λ Q K t u. cells_collect L K (l ++ m) (each_append Q l m t u);
        formed = collect_formed L (l ++ m) (each_append (λ c. ActionFormed c.0 × Weight o c.1) l m (each_map (λ c k. (k.action, k.weight)) l p.cells) (each_map (λ c k. (k.action, k.weight)) m q.cells));
        weighs = λ s t. gather_collect L (emits_additive L s t) (l ++ m) (each_append (λ c. Weight o c.1) l m wl wm) ∙ gather_append L (emits_additive L s t) l m wl wm;
      }
    where
      wl : Weights o l
      wl = each_map (λ c k. k.weight) l p.cells

      wm : Weights o m
      wm = each_map (λ c k. k.weight) m q.cells

  joined_split : (f n : ℕ) (d e a b : Diagram) → Formed o d → Formed o e → From f n d → From f n e → Rooted f n d ⊎ Rooted f n e → Joined o (at o d f n) (at o e f n) a → Joined o (off d f n) (off e f n) b → Joined o d e (make o f n a b)
  joined_split f n d e a b p q i j r A B =
      record {
        tests = λ P t u. make_tests L P f n a b (rooted_either P f n d e r t u) (A.tests P (at_tests L f n P d t) (at_tests L f n P e u)) (B.tests P (off_tests L f n P d t) (off_tests L f n P e u));
        cells = λ Q K t u. cells_make L K f n a b (A.cells Q K (cells_at L K f n d t) (cells_at L K f n e u)) (B.cells Q K (off_cells L f n Q d t) (off_cells L f n Q e u));
        formed =
            make_formed L f n a b legal.0 legal.1 A.formed B.formed
            (weaker f a (A.tests (λ g m. f < g) (at_greater L f n d p i) (at_greater L f n e q j)))
            (B.tests (After f n) (off_after L f n d p i) (off_after L f n e q j));
        weighs = λ s t. go s t (decide (get_or s f 0) n);
      }
    where
      legal : (f < fields) × LegalValue f n
      legal = rooted_either (λ g m. (g < fields) × LegalValue g m) f n d e r (formed_tests_legal o d p) (formed_tests_legal o e q)

      go : (s t : Frame) → Dec (get_or s f 0 ≡ n) → weigh o (make o f n a b) s t ≡ o.join (weigh o d s t) (weigh o e s t)
      go s t (yes h) =
          make_weighs_yes L f n a b s t (formed_weighted o a A.formed) (formed_weighted o b B.formed) h
          ∙ A.weighs s t
          ∙ ap₂ o.join (at_weighs L f n d s t (formed_weighted o d p) h) (at_weighs L f n e s t (formed_weighted o e q) h)
      go s t (no h) = make_weighs_no L f n a b s t h ∙ B.weighs s t ∙ ap₂ o.join (off_weighs L f n d s t h) (off_weighs L f n e s t h)

  pub joined_by : (k : ℕ) (d e : Diagram) → extent d + extent e ≤ k → Formed o d → Formed o e → Joined o d e (join_by o k d e)
  unfolding join_by
  joined_by zero d e b p q = absurd (none (extent_positive L d) b)
    where
      none : 1 ≤ extent d → extent d + extent e ≤ 0 → ⊥
      none i j = omega arith
  joined_by (suc k) d e b p q = go (heads d e) (joined_by k)
    where
      go : Heads d e → ((d' e' : Diagram) → extent d' + extent e' ≤ k → Formed o d' → Formed o e' → Joined o d' e' (join_by o k d' e')) → Joined o d e (join_at o (join_by o k) (first_root (root d) (root e)) d e)
      go (leaves l m i j c) ih =
          subst (λ (x : Option Tested). Joined o d e (join_at o (join_by o k) x d e)) (sym c)
          (subst₂ (λ (x y : Diagram). Joined o x y (join_at o (join_by o k) None x y)) (sym i) (sym j) (joined_leaves l m (subst (Formed o) i p) (subst (Formed o) j q)))
      go (split f n c i j r) ih =
          subst (λ (x : Option Tested). Joined o d e (join_at o (join_by o k) x d e)) (sym c)
          (joined_split f n d e (join_by o k (at o d f n) (at o e f n)) (join_by o k (off d f n) (off e f n)) p q i j r
          (ih (at o d f n) (at o e f n) shrinks.0 (at_formed L f n d p) (at_formed L f n e q))
          (ih (off d f n) (off e f n) shrinks.1 (off_formed L f n d p) (off_formed L f n e q)))
        where
          shrinks : (extent (at o d f n) + extent (at o e f n) ≤ k) × (extent (off d f n) + extent (off e f n) ≤ k)
          shrinks = fits (split_shrinks L f n d e r)
            where
              fits : (extent (at o d f n) + extent (at o e f n) < extent d + extent e) × (extent (off d f n) + extent (off e f n) < extent d + extent e) → (extent (at o d f n) + extent (at o e f n) ≤ k) × (extent (off d f n) + extent (off e f n) ≤ k)
              fits z = (omega arith, omega arith)

  pub joined : (d e : Diagram) → Formed o d → Formed o e → Joined o d e (join o d e)
  unfolding join
  joined d e p q = joined_by (extent d + extent e) d e (self (extent d + extent e)) p q
    where
      self : (n : ℕ) → n ≤ n
      self n = omega arith

-- the least of a test and two roots

from_earlier : (g m f n : ℕ) (d : Diagram) → After g m f n → From f n d → From g m d
from_earlier g m f n (Leaf l) a r = tt
from_earlier g m f n (Node h k y z) a (inl r) = inl (after_trans g m f n h k a r)
from_earlier g m f n (Node h k y z) a (inr r) = inl (subst (λ (x : ℕ). After g m x k) (sym r.0) (subst (λ (x : ℕ). After g m f x) (sym r.1) a))

data Earlier (f n : ℕ) (d : Diagram) : Type 0 where
  stays : earlier (f, n) (root d) ≡ (f, n) → From f n d → Earlier f n d
  moves : (g m : ℕ) → earlier (f, n) (root d) ≡ (g, m) → After g m f n → From g m d → Rooted g m d → Earlier f n d

earliest : (f n : ℕ) (d : Diagram) → Earlier f n d
earliest f n (Leaf l) = stays refl tt
earliest f n (Node g m y z) = go (order_tests f n g m) refl
  where
    T : Type 0
    T = Tri (After f n g m) ((f ≡ g) × (n ≡ m)) (After g m f n)

    at_order : (t : T) → order_tests f n g m ≡ t → earlier (f, n) (Some (g, m)) ≡ three t (f, n) (f, n) (g, m)
    at_order t e = ap (λ (x : T). three x (f, n) (f, n) (g, m)) e

    go : (t : T) → order_tests f n g m ≡ t → Earlier f n (Node g m y z)
    go (below a) e = stays (at_order (below a) e) (inl a)
    go (level a) e = stays (at_order (level a) e) (inr (sym a.0, sym a.1))
    go (above a) e = moves g m (at_order (above a) e) a (inr (refl, refl)) (refl, refl)

pub data Least (f n : ℕ) (y z : Diagram) : Type 0 where
  own : earlier (earlier (f, n) (root y)) (root z) ≡ (f, n) → From f n y → From f n z → Least f n y z
  other : (g m : ℕ) → earlier (earlier (f, n) (root y)) (root z) ≡ (g, m) → After g m f n → From g m y → From g m z → Rooted g m y ⊎ Rooted g m z → Least f n y z

pub least : (f n : ℕ) (y z : Diagram) → Least f n y z
least f n y z = go (earliest f n y)
  where
    second : (h k : ℕ) → earlier (f, n) (root y) ≡ (h, k) → earlier (earlier (f, n) (root y)) (root z) ≡ earlier (h, k) (root z)
    second h k e = ap (λ (t : Tested). earlier t (root z)) e

    go_stay : earlier (f, n) (root y) ≡ (f, n) → From f n y → Earlier f n z → Least f n y z
    go_stay e r (stays e' r') = own (second f n e ∙ e') r r'
    go_stay e r (moves g m e' a r' b) = other g m (second f n e ∙ e') a (from_earlier g m f n y a r) r' (inr b)

    go_move : (g m : ℕ) → earlier (f, n) (root y) ≡ (g, m) → After g m f n → From g m y → Rooted g m y → Earlier g m z → Least f n y z
    go_move g m e a r b (stays e' r') = other g m (second g m e ∙ e') a r r' (inl b)
    go_move g m e a r b (moves h k e' a' r' b') = other h k (second g m e ∙ e') (after_trans h k g m f n a' a) (from_earlier h k g m y a' r) r' (inr b')

    go : Earlier f n y → Least f n y z
    go (stays e r) = go_stay e r (earliest f n z)
    go (moves g m e a r b) = go_move g m e a r b (earliest g m z)

-- r is y where field f holds n, and else z
pub record Chosen (o : Ops) (f n : ℕ) (y z r : Diagram) : Type 1 where
  pub tests : (P : ℕ → ℕ → Type 0) → P f n → Tests P y → Tests P z → Tests P r
  pub cells : (Q : Cell → Type 0) → Closed o Q → Cells Q y → Cells Q z → Cells Q r
  pub formed : Formed o r
  pub weighs_yes : (s t : Frame) → get_or s f 0 ≡ n → weigh o r s t ≡ weigh o y s t
  pub weighs_no : (s t : Frame) → (get_or s f 0 ≡ n → ⊥) → weigh o r s t ≡ weigh o z s t

module _ {o : Ops} (L : Laws o) (f n : ℕ) (f_exists : f < fields) (n_legal : LegalValue f n) where
  chosen_own : (y z : Diagram) → Formed o y → Formed o z → From f n y → From f n z → Chosen o f n y z (make o f n y (off z f n))
  chosen_own y z p q i j =
      record {
        tests = λ P h t u. make_tests L P f n y (off z f n) h t (off_tests L f n P z u);
        cells = λ Q K t u. cells_make L K f n y (off z f n) t (off_cells L f n Q z u);
        formed = make_formed L f n y (off z f n) f_exists n_legal p (off_formed L f n z q) (tests_fields o f n y p i) (off_after L f n z q j);
        weighs_yes = λ s t h. make_weighs_yes L f n y (off z f n) s t (formed_weighted o y p) (off_cells L f n _ z (formed_weighted o z q)) h;
        weighs_no = λ s t h. make_weighs_no L f n y (off z f n) s t h ∙ off_weighs L f n z s t h;
      }

  module _ (g m : ℕ) (y z c : Diagram) (p : Formed o y) (q : Formed o z) (a : After g m f n) (i : From g m y) (j : From g m z) (r : Rooted g m y ⊎ Rooted g m z) (C : Chosen o f n (off y g m) (off z g m) c) where
    legal : (g < fields) × LegalValue g m
    legal = rooted_either (λ h k. (h < fields) × LegalValue h k) g m y z r (formed_tests_legal o y p) (formed_tests_legal o z q)

    after_c : Tests (After g m) c
    after_c = C.tests (After g m) a (off_after L g m y p i) (off_after L g m z q j)

    -- another value of the same field: there the test (f, n) fails
    chosen_same_field : g ≡ f → Chosen o f n y z (make o g m (at o z g m) c)
    chosen_same_field e =
        record {
          tests = λ P h t u. make_tests L P g m (at o z g m) c (rooted_either P g m y z r t u) (at_tests L g m P z u) (C.tests P h (off_tests L g m P y t) (off_tests L g m P z u));
          cells = λ Q K t u. cells_make L K g m (at o z g m) c (cells_at L K g m z u) (C.cells Q K (off_cells L g m Q y t) (off_cells L g m Q z u));
          formed = make_formed L g m (at o z g m) c legal.0 legal.1 (at_formed L g m z q) C.formed (weaker g (at o z g m) (at_greater L g m z q j)) after_c;
          weighs_yes = λ s t h. yes_go s t h (decide (get_or s g 0) m);
          weighs_no = λ s t h. no_go s t h (decide (get_or s g 0) m);
        }
      where
        clash : (s : Frame) → get_or s f 0 ≡ n → get_or s g 0 ≡ m → ⊥
        clash s h k = after_unlike g m f n a (sym e) (sym h ∙ ap (λ (x : ℕ). get_or s x 0) (sym e) ∙ k)

        yes_go : (s t : Frame) → get_or s f 0 ≡ n → Dec (get_or s g 0 ≡ m) → weigh o (make o g m (at o z g m) c) s t ≡ weigh o y s t
        yes_go s t h (yes k) = absurd (clash s h k)
        yes_go s t h (no k) = make_weighs_no L g m (at o z g m) c s t k ∙ C.weighs_yes s t h ∙ off_weighs L g m y s t k

        no_go : (s t : Frame) → (get_or s f 0 ≡ n → ⊥) → Dec (get_or s g 0 ≡ m) → weigh o (make o g m (at o z g m) c) s t ≡ weigh o z s t
        no_go s t h (yes k) = make_weighs_yes L g m (at o z g m) c s t (formed_weighted o _ (at_formed L g m z q)) (formed_weighted o c C.formed) k ∙ at_weighs L g m z s t (formed_weighted o z q) k
        no_go s t h (no k) = make_weighs_no L g m (at o z g m) c s t k ∙ C.weighs_no s t h ∙ off_weighs L g m z s t k

    chosen_other_field : (b : Diagram) → Chosen o f n (at o y g m) (at o z g m) b → Chosen o f n y z (make o g m b c)
    chosen_other_field b B =
        record {
          tests = λ P h t u. make_tests L P g m b c (rooted_either P g m y z r t u) (B.tests P h (at_tests L g m P y t) (at_tests L g m P z u)) (C.tests P h (off_tests L g m P y t) (off_tests L g m P z u));
          cells = λ Q K t u. cells_make L K g m b c (B.cells Q K (cells_at L K g m y t) (cells_at L K g m z u)) (C.cells Q K (off_cells L g m Q y t) (off_cells L g m Q z u));
          formed =
              make_formed L g m b c legal.0 legal.1 B.formed C.formed
              (B.tests (λ h k. g ≤ h) (after_field g m f n a) (weaker g (at o y g m) (at_greater L g m y p i)) (weaker g (at o z g m) (at_greater L g m z q j))) after_c;
          weighs_yes = λ s t h. yes_go s t h (decide (get_or s g 0) m);
          weighs_no = λ s t h. no_go s t h (decide (get_or s g 0) m);
        }
      where
        wb : Weighted o b
        wb = formed_weighted o b B.formed

        wc : Weighted o c
        wc = formed_weighted o c C.formed

        yes_go : (s t : Frame) → get_or s f 0 ≡ n → Dec (get_or s g 0 ≡ m) → weigh o (make o g m b c) s t ≡ weigh o y s t
        yes_go s t h (yes k) = make_weighs_yes L g m b c s t wb wc k ∙ B.weighs_yes s t h ∙ at_weighs L g m y s t (formed_weighted o y p) k
        yes_go s t h (no k) = make_weighs_no L g m b c s t k ∙ C.weighs_yes s t h ∙ off_weighs L g m y s t k

        no_go : (s t : Frame) → (get_or s f 0 ≡ n → ⊥) → Dec (get_or s g 0 ≡ m) → weigh o (make o g m b c) s t ≡ weigh o z s t
        no_go s t h (yes k) = make_weighs_yes L g m b c s t wb wc k ∙ B.weighs_no s t h ∙ at_weighs L g m z s t (formed_weighted o z q) k
        no_go s t h (no k) = make_weighs_no L g m b c s t k ∙ C.weighs_no s t h ∙ off_weighs L g m z s t k

  pub chosen_by : (k : ℕ) (y z : Diagram) → extent y + extent z ≤ k → Formed o y → Formed o z → Chosen o f n y z (choose_by o k f n y z)
  unfolding choose_by
  chosen_by zero y z b p q = absurd (none (extent_positive L y) b)
    where
      none : 1 ≤ extent y → extent y + extent z ≤ 0 → ⊥
      none i j = omega arith
  chosen_by (suc k) y z b p q = go (least f n y z) (chosen_by k)
    where
      R : Diagram → Diagram → Diagram
      R = choose_by o k f n

      go : Least f n y z → ((y' z' : Diagram) → extent y' + extent z' ≤ k → Formed o y' → Formed o z' → Chosen o f n y' z' (choose_by o k f n y' z')) → Chosen o f n y z (choose_at o R (earlier (earlier (f, n) (root y)) (root z)) f n y z)
      go (own e i j) ih =
          subst (λ (u : Tested). Chosen o f n y z (choose_at o R u f n y z)) (sym e)
          (subst (Chosen o f n y z) (sym (choice_yes (equal_tests f n f n) _ _ (refl, refl))) (chosen_own y z p q i j))
      go (other g m e a i j r) ih =
          subst (λ (u : Tested). Chosen o f n y z (choose_at o R u f n y z)) (sym e)
          (subst (Chosen o f n y z) (sym (choice_no (equal_tests g m f n) _ _ (λ h. after_unlike g m f n a (sym h.0) (sym h.1)))) (inner (decide g f)))
        where
          shrinks : (extent (at o y g m) + extent (at o z g m) ≤ k) × (extent (off y g m) + extent (off z g m) ≤ k)
          shrinks = fits (split_shrinks L g m y z r)
            where
              fits : (extent (at o y g m) + extent (at o z g m) < extent y + extent z) × (extent (off y g m) + extent (off z g m) < extent y + extent z) → (extent (at o y g m) + extent (at o z g m) ≤ k) × (extent (off y g m) + extent (off z g m) ≤ k)
              fits h = (omega arith, omega arith)

          C : Chosen o f n (off y g m) (off z g m) (R (off y g m) (off z g m))
          C = ih (off y g m) (off z g m) shrinks.1 (off_formed L g m y p) (off_formed L g m z q)

          B : Chosen o f n (at o y g m) (at o z g m) (R (at o y g m) (at o z g m))
          B = ih (at o y g m) (at o z g m) shrinks.0 (at_formed L g m y p) (at_formed L g m z q)

          inner : (d : Dec (g ≡ f)) → Chosen o f n y z (make o g m (choice d (at o z g m) (R (at o y g m) (at o z g m))) (R (off y g m) (off z g m)))
          inner (yes h) = chosen_same_field g m y z (R (off y g m) (off z g m)) p q a i j r C h
          inner (no h) = chosen_other_field g m y z (R (off y g m) (off z g m)) p q a i j r C (R (at o y g m) (at o z g m)) B

  pub chosen : (y z : Diagram) → Formed o y → Formed o z → Chosen o f n y z (choose o f n y z)
  unfolding choose
  chosen y z p q = chosen_by (extent y + extent z) y z (self (extent y + extent z)) p q
    where
      self : (k : ℕ) → k ≤ k
      self k = omega arith
