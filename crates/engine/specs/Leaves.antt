-- Leaves in store. It serves proofs alone: what the engine promises is in Views, Listed and what they cite.
use Rattle.std.specs.Prelude.{◌≡◌, ℕ, ◌≤◌, ◌⊎◌, List, [], ◌∷◌, length, Some, None, Option, slice_index_or}
use Rattle.weights.specs.Weights.{Ops}
use Rattle.format.specs.declared.settings.Setting.{Setting}
use Rattle.meaning.specs.Constructions.{Tested}
use Rattle.meaning.specs.Leaves.{Action, Cell}
use Rattle.meaning.specs.Diagrams.{Diagram, Leaf, Node as MNode}
use Rattle.records.specs.declared.kinds.Node.{Node}
use Rattle.records.specs.declared.kinds.Diagram.{Diagram as WordOfDiagram}
use Rattle.records.specs.declared.kinds.Diagram.TheVariants.{Leaf as LeafWord, Branch}
use Rattle.requests.specs.Requests.{Request, leaf_records}
use Rattle.requests.specs.Rules.{narrow_leaf, prefix_leaf}
use Rattle.engine.specs.Built.{numbered_or}
use Rattle.engine.specs.State.{State, Present, diagram_of}

abbrev pub LeafPresent : State → ℕ → Type 0
LeafPresent s n = n ≤ length s.leaves

abbrev pub leaf_at : State → ℕ → List Cell
leaf_at s n = numbered_or [] s.leaves n

-- an action of the leaf sets the field f to n
abbrev pub SetsTo : ℕ → ℕ → List Cell → Type 0
SetsTo f n [] = ⊥
SetsTo f n (c ∷ l) = (slice_index_or c.0 f None ≡ Some n) ⊎ SetsTo f n l

-- a leaf in which no action does
abbrev pub Stays : ℕ → ℕ → Diagram → Type 0
Stays f n (Leaf l) = SetsTo f n l → ⊥
Stays f n (MNode g m y z) = ⊥

-- the word of drop
abbrev pub IsDrop : WordOfDiagram → Type 0
IsDrop (LeafWord n) = n.number ≡ 0
IsDrop (Branch n) = ⊥

abbrev pub LeafNarrows : Ops → List Cell → ℕ → ℕ → Diagram → List Request → Type 0
LeafNarrows o l f n r a = (r ≡ Leaf (narrow_leaf o l f n)) × (a ≡ leaf_records (narrow_leaf o l f n))

-- a test as a pair
abbrev pub tested : Option Setting → Option Tested
tested None = None
tested (Some t) = Some (t.field, t.value)

-- the node x stands for d, whose root is the test (f, n)
pub record Split (s : State) (d : Diagram) (f n : ℕ) (x : Node) : Type 0 where
  pub whole : d ≡ MNode f n (diagram_of s x.yes) (diagram_of s x.no)
  pub yes_present : Present s x.yes
  pub no_present : Present s x.no

abbrev pub LeafPrefixes : Ops → Action → ℕ → List Cell → Diagram → List Request → Type 0
LeafPrefixes o a w l r x = (r ≡ Leaf (prefix_leaf o a w l)) × (x ≡ leaf_records (prefix_leaf o a w l))
