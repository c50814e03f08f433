-- The constructions on diagrams, and the diagrams of policies.
use Rattle.std.specs.Prelude.{◌≡◌, ℕ, zero, suc, ◌+◌, ◌<◌, List, [], ◌∷◌, ◌++◌, map, Some, None, Option, slice_index_or, slice_set}
use Rattle.std.proofs.Common.{sym, inl, inr}
use Rattle.format.specs.Actions.{compose, keep_all}
use Rattle.format.specs.Policy.{Policy, Drop, Pass, Test, Set, Cost, Not, Union, Sequence, Star}
use Rattle.weights.specs.Weights.{Ops}
use Rattle.meaning.specs.Decide.{choice, three, decide, order, Tri, below, level, above}
use Rattle.meaning.specs.Leaves.{Action, Cell, enter, collect}
use Rattle.meaning.specs.Diagrams.{Diagram, Leaf, Node, equal_diagrams, narrow, make, After, extent}

-- whether two tests are the same
abbrev pub equal_tests : (g m f n : ℕ) → Dec ((g ≡ f) × (m ≡ n))
equal_tests g m f n = go (decide g f) (decide m n)
  where
    go : Dec (g ≡ f) → Dec (m ≡ n) → Dec ((g ≡ f) × (m ≡ n))
    go (yes p) (yes q) = yes (p, q)
    go (yes p) (no h) = no (λ r. h r.1)
    go (no h) d = no (λ r. h r.0)

-- tests are ordered by field, then by value
abbrev pub order_tests : (f n g m : ℕ) → Tri (After f n g m) ((f ≡ g) × (n ≡ m)) (After g m f n)
order_tests f n g m = go (order f g) (order n m)
  where
    go : Tri (f < g) (f ≡ g) (g < f) → Tri (n < m) (n ≡ m) (m < n) → Tri (After f n g m) ((f ≡ g) × (n ≡ m)) (After g m f n)
    go (below l) t = below (inl l)
    go (level e) (below l) = below (inr (e, l))
    go (level e) (level q) = level (e, q)
    go (level e) (above l) = above (inr (sym e, l))
    go (above l) t = above (inl l)

-- a test: its field and its value
abbrev pub Tested : Type 0
Tested = ℕ × ℕ

abbrev pub root : Diagram → Option Tested
root (Leaf l) = None
root (Node f n y z) = Some (f, n)

-- the smaller test
abbrev pub earlier : Tested → Option Tested → Tested
earlier t None = t
earlier t (Some u) = three (order_tests t.0 t.1 u.0 u.1) t t u

-- the smaller root test, if there is one
abbrev pub first_root : Option Tested → Option Tested → Option Tested
first_root None u = u
first_root (Some t) u = Some (earlier t u)

-- the yes side of a root (f, n), else the diagram narrowed
abbrev pub at : Ops → Diagram → ℕ → ℕ → Diagram
at o (Leaf l) f n = narrow o (Leaf l) f n
at o (Node g m y z) f n = choice (equal_tests g m f n) y (narrow o (Node g m y z) f n)

-- the no side of a root (f, n), else the diagram itself
abbrev pub off : Diagram → ℕ → ℕ → Diagram
off (Leaf l) f n = Leaf l
off (Node g m y z) f n = choice (equal_tests g m f n) z (Node g m y z)

abbrev pub cells_of : Diagram → List Cell
cells_of (Leaf l) = l
cells_of (Node f n y z) = []

-- two leaves are collected; else the smaller root test splits both
abbrev pub join_at : Ops → (Diagram → Diagram → Diagram) → Option Tested → Diagram → Diagram → Diagram
join_at o further None d e = Leaf (collect o (cells_of d ++ cells_of e))
join_at o further (Some t) d e =
    make o t.0 t.1 (further (at o d t.0 t.1) (at o e t.0 t.1)) (further (off d t.0 t.1) (off e t.0 t.1))

unfoldable pub join_by : Ops → ℕ → Diagram → Diagram → Diagram
join_by o zero d e = Leaf []
join_by o (suc k) d e = join_at o (join_by o k) (first_root (root d) (root e)) d e

-- the union of two diagrams
unfoldable pub join : Ops → Diagram → Diagram → Diagram
join o d e = join_by o (extent d + extent e) d e

-- by the least of the test (f, n) and the root tests of both sides
abbrev pub choose_at : Ops → (Diagram → Diagram → Diagram) → Tested → ℕ → ℕ → Diagram → Diagram → Diagram
choose_at o further u f n y z =
    choice (equal_tests u.0 u.1 f n)
    (make o f n y (off z f n))
    (make o u.0 u.1
    (choice (decide u.0 f) (at o z u.0 u.1) (further (at o y u.0 u.1) (at o z u.0 u.1)))
    (further (off y u.0 u.1) (off z u.0 u.1)))

unfoldable pub choose_by : Ops → ℕ → ℕ → ℕ → Diagram → Diagram → Diagram
choose_by o zero f n y z = Leaf []
choose_by o (suc k) f n y z = choose_at o (choose_by o k f n) (earlier (earlier (f, n) (root y)) (root z)) f n y z

-- y where field f holds n, else z
unfoldable pub choose : Ops → ℕ → ℕ → Diagram → Diagram → Diagram
choose o f n y z = choose_by o (extent y + extent z) f n y z

-- the action a before the cell's, w times its weight
abbrev pub prefix_cell : Ops → Action → ℕ → Cell → Cell
prefix_cell o a w c = (compose a c.0, o.times w c.1)

-- the side that the value set selects, or both
abbrev pub prefix_node : Ops → ℕ → ℕ → Option ℕ → Diagram → Diagram → Diagram
prefix_node o f n None y z = make o f n y z
prefix_node o f n (Some m) y z = choice (decide m n) y z

-- the action a with weight w, and then the diagram
unfoldable pub prefix : Ops → Action → ℕ → Diagram → Diagram
prefix o a w (Leaf l) = Leaf (collect o (map (prefix_cell o a w) l))
prefix o a w (Node f n y z) = prefix_node o f n (slice_index_or a f None) (prefix o a w y) (prefix o a w z)

-- joins the prefix of e for each cell, in order
unfoldable pub sequence_cells : Ops → Diagram → Diagram → List Cell → Diagram
sequence_cells o e sofar [] = sofar
sequence_cells o e sofar (c ∷ l) = sequence_cells o e (join o sofar (prefix o c.0 c.1 e)) l

-- the first diagram, then the second
unfoldable pub sequence : Ops → Diagram → Diagram → Diagram
sequence o (Leaf l) e = sequence_cells o e (Leaf []) l
sequence o (Node f n y z) e = choose o f n (sequence o y e) (sequence o z e)

-- a leaf of one cell, or drop if its weight is zero
abbrev pub single : Ops → Action → ℕ → Diagram
single o a w = Leaf (enter o a w [])

abbrev pub drop_diagram : Diagram
drop_diagram = Leaf []

abbrev pub pass_diagram : Ops → Diagram
pass_diagram o = single o keep_all o.one

abbrev pub test_diagram : Ops → ℕ → ℕ → Diagram
test_diagram o f n = Node f n (pass_diagram o) drop_diagram

-- exchanges the leaf drop and the leaf pass
abbrev pub negate_leaf : Ops → Diagram → Diagram
negate_leaf o d = choice (equal_diagrams d drop_diagram) (pass_diagram o) (choice (equal_diagrams d (pass_diagram o)) drop_diagram d)

-- exchanges drop and pass, and makes each node again
unfoldable pub negate : Ops → Diagram → Diagram
negate o (Leaf l) = negate_leaf o (Leaf l)
negate o (Node f n y z) = make o f n (negate o y) (negate o z)

-- the rounds of star: pass, and each next is pass or the diagram and then the last
unfoldable pub round : Ops → Diagram → ℕ → Diagram
round o d zero = pass_diagram o
round o d (suc k) = join o (pass_diagram o) (sequence o d (round o d k))

-- the diagram of a policy; a star's is the round that the next one repeats
pub data Compiles (o : Ops) : Policy → Diagram → Type 0 where
  drops : Compiles o Drop drop_diagram
  passes : Compiles o Pass (pass_diagram o)
  tests : (f n : ℕ) → Compiles o (Test f n) (test_diagram o f n)
  sets : (f n : ℕ) → Compiles o (Set f n) (single o (slice_set keep_all f (Some n)) o.one)
  costs : (n : ℕ) → Compiles o (Cost n) (single o keep_all (o.cost n))
  nots : {p : Policy} {d : Diagram} → Compiles o p d → Compiles o (Not p) (negate o d)
  unions : {p q : Policy} {d e : Diagram} → Compiles o p d → Compiles o q e → Compiles o (Union p q) (join o d e)
  sequences : {p q : Policy} {d e : Diagram} → Compiles o p d → Compiles o q e → Compiles o (Sequence p q) (sequence o d e)
  stars : {p : Policy} {d : Diagram} (k : ℕ) → Compiles o p d → round o d k ≡ round o d (suc k) → Compiles o (Star p) (round o d k)
