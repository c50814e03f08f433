-- The rows in which a table lists a diagram.
use Rattle.std.specs.Prelude.{ℕ, suc, List, [], ◌∷◌, ◌++◌, map, Some, None}
use Rattle.tables.specs.Rows.{Pair, Emission, Row}
use Rattle.meaning.specs.Leaves.{Action, Cell}
use Rattle.meaning.specs.Diagrams.{Diagram, Leaf, Node}

-- the fields that an action sets, by ascending field; its first entry is that of field f
abbrev pub sets_from : ℕ → Action → List Pair
sets_from f [] = []
sets_from f (None ∷ a) = sets_from (suc f) a
sets_from f (Some n ∷ a) = (f, n) ∷ sets_from (suc f) a

-- what a cell emits: its weight, and a set for each field that its action sets
abbrev pub emission_of : Cell → Emission
emission_of c = record { weight = c.1; sets = sets_from 0 c.0 }

-- a leaf, and the tests on the way to it whose yes side is taken
pub record Placed : Type 0 where
  pub way : List Pair
  pub cells : List Cell

-- with one such test more, before the others
abbrev pub behind : ℕ → ℕ → Placed → Placed
behind f n p = record { way = (f, n) ∷ p.way; cells = p.cells }

-- the leaves of a diagram, yes before no
abbrev pub leaves_of : Diagram → List Placed
leaves_of (Leaf l) = record { way = []; cells = l } ∷ []
leaves_of (Node f n y z) = map (behind f n) (leaves_of y) ++ leaves_of z

-- the tests as matches, and an emission for each cell
abbrev pub row_of : Placed → Row
row_of p = record { matches = p.way; emissions = map emission_of p.cells }

-- one row for each leaf
abbrev pub rows_of : Diagram → List Row
rows_of d = map row_of (leaves_of d)
