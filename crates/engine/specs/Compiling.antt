-- What compiling does. It serves proofs alone: what the engine promises is in Views, Listed and what they cite.
use Rattle.std.specs.Prelude.{◌≡◌, ℕ, List, Result}
use Rattle.weights.specs.Weights.{Ops}
use Rattle.format.specs.Policy.{Policy}
use Rattle.checking.specs.Checking.{Accepted}
use Rattle.faults.specs.declared.layers.StoreFault.{StoreFault}
use Rattle.records.specs.declared.kinds.Diagram.{Diagram}
use Rattle.counts.specs.declared.counts.Counts.{Counts}
use Rattle.engine.specs.declared.memory.Stores.{Stores}
use Rattle.requests.specs.Rules.{Compiled, one_cell}
use Rattle.requests.specs.Requests.{Request, leaf_records}
use Rattle.meaning.specs.Leaves.{Action}
use Rattle.meaning.specs.Diagrams.{Diagram as MDiagram, Leaf}
use Rattle.engine.specs.Done.{Done}

-- the words are those of a legal policy, and its construction is done; words have one such policy only
pub record CompiledFrom (o : Ops) (ws : List ℕ) (c : Counts) (s : Stores) (c' : Counts) (s' : Stores) (result : Result Diagram StoreFault) : Type 0 where
  pub policy : Policy
  pub accepted : Accepted ws policy
  pub done : Done (Compiled o policy) c s c' s' result

-- the leaf of one cell
abbrev pub Singles : Ops → Action → ℕ → MDiagram → List Request → Type 0
Singles o a w r x = (r ≡ Leaf (one_cell o a w)) × (x ≡ leaf_records (one_cell o a w))
