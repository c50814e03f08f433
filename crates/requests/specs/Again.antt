-- Nodes that make gives back, asking for nothing new. For the engine's proofs alone: no answer depends on it.
use Rattle.std.specs.Prelude.{ℕ, ◌≢◌, List}
use Rattle.weights.specs.Weights.{Ops}
use Rattle.meaning.specs.Leaves.{Each}
use Rattle.meaning.specs.Diagrams.{Diagram, Node, Tests, Sets, Unlike}
use Rattle.requests.specs.Requests.{Request, action, cell, node}
use Rattle.requests.specs.Rules.{Makes}
use Rattle.requests.specs.Claims.{Construction}

-- the diagram neither tests the field f nor sets it to n
abbrev pub Free : ℕ → ℕ → Diagram → Type 0
Free f n d = Tests (λ g m. g ≢ f) d × Sets (Unlike f n) d

-- the construction gives r, and H holds of each record that it requests
pub record Again (H : Request → Type 0) (R : Construction) (r : Diagram) : Type 0 where
  pub asks : List Request
  pub by_the_rules : R r asks
  pub held : Each H asks

-- the node's yes side is narrowed, and made of its sides again the node is itself
pub record Remade (o : Ops) (H : Request → Type 0) (f n : ℕ) (y z : Diagram) : Type 0 where
  pub yes_free : Free f n y
  pub again : Again H (Makes o f n y z) (Node f n y z)

-- a node is made again so; no other record is made
abbrev pub RecordRemade : Ops → (Request → Type 0) → Request → Type 0
RecordRemade o H (action a) = Unit {0}
RecordRemade o H (cell a w l) = Unit {0}
RecordRemade o H (node f n y z) = Remade o H f n y z
