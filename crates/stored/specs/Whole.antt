-- What holds of stores that only constructions filled. The law does not speak of it; its proof and the type of what holds stores do.
use Rattle.std.specs.Prelude.{List, [], ◌∷◌}
use Rattle.weights.specs.Weights.{Ops}
use Rattle.stores.specs.Numbers.{Absent}
use Rattle.meaning.specs.Leaves.{Cell}
use Rattle.meaning.specs.Diagrams.{Leaf, Node}
use Rattle.requests.specs.Requests.{Request, action, cell, node, Records, RecordFormed}
use Rattle.stored.specs.Stored.{Rooms, Stored, Has}
use Rattle.stored.specs.Grows.{Once, Fits}

-- every record of the diagram that the record belongs to satisfies H
abbrev pub Inside : (Request → Type 0) → Request → Type 0
Inside H (action a) = Unit {0}
Inside H (cell a w l) = Records H (Leaf ((a, w) ∷ l))
Inside H (node f n y z) = Records H (Node f n y z)

pub record Whole (z : Rooms) (s : Stored) : Type 0 where
  pub once : Once s
  pub fits : Fits z s
  -- drop has no cell, and a leaf is no node
  pub no_drop : Absent s.leaves []
  pub no_leaf : (l : List Cell) → Absent s.nodes (Leaf l)
  -- every record of what is in store is in store
  pub inside : (q : Request) → Has s q → Inside (Has s) q

-- every record in store is one of a formed diagram
abbrev pub AllFormed : Ops → Stored → Type 0
AllFormed o s = (q : Request) → Has s q → RecordFormed o q
