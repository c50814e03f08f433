-- The records that diagrams consist of, by their contents.
use Rattle.std.specs.Prelude.{ℕ, List, [], ◌∷◌}
use Rattle.weights.specs.Weights.{Ops}
use Rattle.meaning.specs.Leaves.{Action, Cell, Each, ActionFormed, LeafFormed}
use Rattle.meaning.specs.Diagrams.{Diagram, Leaf, Node, Formed}

pub data Request : Type 0 where
  action : Action → Request
  -- a cell of a leaf: its action, its weight, and the rest of the list
  cell : Action → ℕ → List Cell → Request
  -- its test, its yes side and its no side
  node : ℕ → ℕ → Diagram → Diagram → Request

-- a leaf as a whole: each of its actions, and a cell for each tail that is not empty
abbrev pub leaf_records : List Cell → List Request
leaf_records [] = []
leaf_records (c ∷ l) = action c.0 ∷ cell c.0 c.1 l ∷ leaf_records l

-- the record is one of a well-formed diagram
abbrev pub RecordFormed : Ops → Request → Type 0
RecordFormed o (action a) = ActionFormed a
RecordFormed o (cell a w l) = LeafFormed o ((a, w) ∷ l)
RecordFormed o (node f n y z) = Formed o (Node f n y z)

-- every record of the diagram satisfies H
abbrev pub Records : (Request → Type 0) → Diagram → Type 0
Records H (Leaf l) = Each H (leaf_records l)
Records H (Node f n y z) = H (node f n y z) × Records H y × Records H z
