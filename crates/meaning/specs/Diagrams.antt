-- Diagrams: decisions by tests of fields, with leaves at the ends.
use Rattle.std.specs.Prelude.{◌≡◌, ℕ, Bool, true, false, zero, suc, ◌+◌, ◌<◌, ◌≢◌, ◌⊎◌, List, [], ◌∷◌, map, Some, None, Option, slice_index, slice_index_or}
use Rattle.std.proofs.Common.{sym, ap, true≢false}
use Rattle.format.specs.Fields.{fields, LegalValue}
use Rattle.format.specs.Actions.{apply}
use Rattle.weights.specs.Weights.{Ops}
use Rattle.meaning.specs.Decide.{choice, decide, equal_lists, equal_sets}
use Rattle.meaning.specs.Leaves.{Action, Frame, Cell, Each, gather, collect, LeafFormed}

-- a leaf, or a test of a field for a value with a yes side and a no side
pub data Diagram : Type 0 where
  Leaf : List Cell → Diagram
  Node : ℕ → ℕ → Diagram → Diagram → Diagram

abbrev pub equal_cells : (c e : Cell) → Dec (c ≡ e)
equal_cells c e = go (equal_lists equal_sets c.0 e.0) (decide c.1 e.1)
  where
    go : Dec (c.0 ≡ e.0) → Dec (c.1 ≡ e.1) → Dec (c ≡ e)
    go (yes p) (yes q) = yes (λ i. (p i, q i))
    go (yes p) (no h) = no (λ r. h (ap (λ (x : Cell). x.1) r))
    go (no h) d = no (λ r. h (ap (λ (x : Cell). x.0) r))

-- the parts of a diagram, and anything where it has none
abbrev is_leaf : Diagram → Bool
is_leaf (Leaf l) = true
is_leaf (Node f n y z) = false

abbrev leaf_cells : Diagram → List Cell
leaf_cells (Leaf l) = l
leaf_cells (Node f n y z) = []

abbrev root_field : Diagram → ℕ
root_field (Leaf l) = 0
root_field (Node f n y z) = f

abbrev root_value : Diagram → ℕ
root_value (Leaf l) = 0
root_value (Node f n y z) = n

abbrev yes_side : Diagram → Diagram
yes_side (Leaf l) = Leaf l
yes_side (Node f n y z) = y

abbrev no_side : Diagram → Diagram
no_side (Leaf l) = Leaf l
no_side (Node f n y z) = z

-- whether two diagrams are the same
abbrev pub equal_diagrams : (d e : Diagram) → Dec (d ≡ e)
equal_diagrams (Leaf l) (Leaf m) = go (equal_lists equal_cells l m)
  where
    go : Dec (l ≡ m) → Dec (Leaf l ≡ Leaf m)
    go (yes p) = yes (ap {B = Diagram} Leaf p)
    go (no h) = no (λ r. h (ap leaf_cells r))
equal_diagrams (Leaf l) (Node f n y z) = no (λ r. true≢false (ap is_leaf r))
equal_diagrams (Node f n y z) (Leaf l) = no (λ r. true≢false (sym (ap is_leaf r)))
equal_diagrams (Node f n y z) (Node g m v w) = go (decide f g) (decide n m) (equal_diagrams y v) (equal_diagrams z w)
  where
    go : Dec (f ≡ g) → Dec (n ≡ m) → Dec (y ≡ v) → Dec (z ≡ w) → Dec (Node f n y z ≡ Node g m v w)
    go (yes p) (yes q) (yes r) (yes s) = yes (λ i. Node (p i) (q i) (r i) (s i))
    go (yes p) (yes q) (yes r) (no h) = no (λ e. h (ap no_side e))
    go (yes p) (yes q) (no h) s = no (λ e. h (ap yes_side e))
    go (yes p) (no h) r s = no (λ e. h (ap root_value e))
    go (no h) q r s = no (λ e. h (ap root_field e))

-- the leaf that the frame reaches
abbrev pub reach : Diagram → Frame → List Cell
reach (Leaf l) s = l
reach (Node f n y z) s = choice (decide (slice_index s f) n) (reach y s) (reach z s)

-- the weight of an action that turns s into t, and else zero
abbrev pub emits : Ops → Frame → Frame → Action → ℕ → ℕ
emits o s t a w = choice (equal_lists decide (apply a s) t) w o.zero

-- the weight that the diagram gives to frame s in and frame t out
abbrev pub weigh : Ops → Diagram → Frame → Frame → ℕ
weigh o d s t = gather o (emits o s t) (reach d s)

-- what is known of the fields
abbrev pub Facts : Type 0
Facts = ℕ → Option ℕ

-- field f holds n
abbrev pub known : ℕ → ℕ → Facts
known f n = λ g. choice (decide g f) (Some n) None

abbrev pub or_else : Option ℕ → Option ℕ → Option ℕ
or_else None y = y
or_else (Some n) y = Some n

-- what the first says, and else what the second says
abbrev pub also : Facts → Facts → Facts
also p q = λ g. or_else (p g) (q g)

-- a set to the value that the field is known to hold keeps the field instead
abbrev pub forget : Option ℕ → Option ℕ → Option ℕ
forget None x = x
forget (Some n) None = None
forget (Some n) (Some m) = choice (decide m n) None (Some m)

abbrev pub narrow_action : Facts → Action → Action
narrow_action p [] = []
narrow_action p (x ∷ a) = forget (p zero) x ∷ narrow_action (λ f. p (suc f)) a

abbrev pub narrow_cell : Facts → Cell → Cell
narrow_cell p c = (narrow_action p c.0, c.1)

-- the node of (f, n) under what is known of f: a side, or both sides narrowed with (f, n) known on the yes side
abbrev pub branch : ℕ → ℕ → Option ℕ → Diagram → Diagram → Diagram → Diagram → Diagram
branch f n (Some m) yes_side no_side yes_known no_known = choice (decide m n) yes_side no_side
branch f n None yes_side no_side yes_known no_known = choice (equal_diagrams yes_known no_known) no_side (Node f n yes_known no_side)

-- the diagram for frames of which the facts are known
unfoldable pub narrows : Ops → Diagram → Facts → Diagram
narrows o (Leaf l) p = Leaf (collect o (map (narrow_cell p) l))
narrows o (Node f n y z) p =
    branch f n (p f) (narrows o y p) (narrows o z p) (narrows o y (also p (known f n))) (narrows o z (also p (known f n)))

-- the diagram for frames whose field f holds n
abbrev pub narrow : Ops → Diagram → ℕ → ℕ → Diagram
narrow o d f n = narrows o d (known f n)

-- the no side alone where the test makes no difference
abbrev pub make : Ops → ℕ → ℕ → Diagram → Diagram → Diagram
make o f n y z = choice (equal_diagrams (narrow o y f n) (narrow o z f n)) z (Node f n (narrow o y f n) z)

-- every test of the diagram satisfies P
abbrev pub Tests : (ℕ → ℕ → Type 0) → Diagram → Type 0
Tests P (Leaf l) = Unit {0}
Tests P (Node f n y z) = P f n × Tests P y × Tests P z

-- every value that the action sets satisfies P
abbrev pub SetsOf : (ℕ → ℕ → Type 0) → Action → Type 0
SetsOf P a = (f n : ℕ) → slice_index_or a f None ≡ Some n → P f n

-- every cell of the diagram satisfies Q
abbrev pub Cells : (Cell → Type 0) → Diagram → Type 0
Cells Q (Leaf l) = Each Q l
Cells Q (Node f n y z) = Cells Q y × Cells Q z

-- every value that an action of the diagram sets satisfies P
abbrev pub Sets : (ℕ → ℕ → Type 0) → Diagram → Type 0
Sets P = Cells (λ c. SetsOf P c.0)

-- the test (g, m) comes after the test (f, n): by field, then by value
abbrev pub After : ℕ → ℕ → ℕ → ℕ → Type 0
After f n g m = (f < g) ⊎ ((f ≡ g) × (n < m))

-- not both the field f and the value n
abbrev pub Unlike : ℕ → ℕ → ℕ → ℕ → Type 0
Unlike f n g m = (g ≡ f) → (m ≡ n) → ⊥

-- what a node asks of its test and its two sides
pub record NodeFormed (o : Ops) (f n : ℕ) (y z : Diagram) : Type 0 where
  pub field_exists : f < fields
  pub value_legal : LegalValue f n
  pub yes_greater_fields : Tests (λ g m. f < g) y
  pub no_greater_tests : Tests (After f n) z
  -- no action of the yes side sets what the test has shown
  pub yes_narrowed : Sets (Unlike f n) y
  -- the test makes a difference
  pub sides_differ : narrow o z f n ≢ y

-- well-formed
abbrev pub Formed : Ops → Diagram → Type 0
Formed o (Leaf l) = LeafFormed o l
Formed o (Node f n y z) = NodeFormed o f n y z × Formed o y × Formed o z

-- how many nodes and leaves
abbrev pub extent : Diagram → ℕ
extent (Leaf l) = 1
extent (Node f n y z) = 1 + (extent y + extent z)
