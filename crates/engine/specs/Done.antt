-- What a construction over the stores does. It serves proofs alone: what the engine promises is in Views, Listed and what they cite.
use Rattle.std.specs.Prelude.{◌≡◌, ℕ, ◌≤◌, ◌⊎◌, List, [], ◌∷◌, MatchResult, Result}
use Rattle.weights.specs.Order.{In}
use Rattle.meaning.specs.Leaves.{Each}
use Rattle.meaning.specs.Diagrams.{Diagram as MDiagram, Node as MNode}
use Rattle.format.specs.declared.settings.Amount.{Amount}
use Rattle.records.specs.declared.kinds.Node.{Node}
use Rattle.records.specs.declared.kinds.Diagram.TheVariants.{Branch}
use Rattle.records.specs.declared.kinds.Diagram.{Diagram}
use Rattle.faults.specs.declared.layers.StoreFault.{StoreFault}
use Rattle.faults.specs.declared.layers.StoreFault.TheVariants.{Full}
use Rattle.stores.specs.Numbers.{room}
use Rattle.counts.specs.declared.counts.Counts.{Counts}
use Rattle.engine.specs.declared.memory.Stores.{Stores}
use Rattle.engine.specs.Contents.{contents, SameMemory}
use Rattle.requests.specs.Requests.{Request, node}
use Rattle.requests.specs.Claims.{Construction}
pub use Rattle.stored.specs.Grows.{Kind, actions, cells, nodes, kind_of, Apart, Over}
use Rattle.engine.specs.State.{State, state, diagram_of, Present, Names, Has, Sound, Counted, Grown}

-- the size of each store
abbrev pub rooms : Stores → Kind → ℕ
rooms s actions = room s.actions.slots.now
rooms s cells = room s.cells.slots.now
rooms s nodes = room s.nodes.slots.now

-- exactly the records asked were added
pub record Added (s : State) (a : List Request) (s' : State) : Type 0 where
  pub grown : Grown s s'
  pub asked : Each (Has s') a
  pub nothing_else : (q : Request) → Has s' q → Has s q ⊎ In q a

-- the stores whose counts these are are sound
pub record SoundStores (c : Counts) (s : Stores) : Type 0 where
  pub sound : Sound (contents c s)
  pub counted : Counted c s

-- counts only rise, and the memory and what was in it stay
pub record NothingLost (c : Counts) (s : Stores) (c' : Counts) (s' : Stores) : Type 0 where
  pub actions_rise : c.actions ≤ c'.actions
  pub cells_rise : c.cells ≤ c'.cells
  pub nodes_rise : c.nodes ≤ c'.nodes
  pub stays : contents c s' ≡ contents c s
  pub memory : SameMemory s s'

-- the word of the diagram r, and what it asked for was added
pub record Made (r : MDiagram) (a : List Request) (c : Counts) (s : Stores) (c' : Counts) (s' : Stores) (w : Diagram) : Type 0 where
  pub good : SoundStores c' s'
  pub names : Names (state (contents c' s')) w r
  pub added : Added (state (contents c s)) a (state (contents c' s'))

-- a construction by its rules: its diagram, or too many records held or asked
pub record Done (R : Construction) (c : Counts) (s : Stores) (c' : Counts) (s' : Stores) (result : Result Diagram StoreFault) : Type 0 where
  pub out : MDiagram
  pub asks : List Request
  pub by_the_rules : R out asks
  pub made : MatchResult result (λ w. Made out asks c s c' s' w) (λ f. (f ≡ Full) × Over (rooms s) (state (contents c s)) asks)

-- a node is entered
abbrev pub Entering : ℕ → ℕ → MDiagram → MDiagram → MDiagram → List Request → Type 0
Entering f n y z r a = (r ≡ MNode f n y z) × (a ≡ node f n y z ∷ [])

-- the node under a number, and what its sides stand for
pub record NodeRead (s : State) (number : Amount) (x : Node) : Type 0 where
  pub itself : diagram_of s (Branch number) ≡ MNode x.test.field x.test.value (diagram_of s x.yes) (diagram_of s x.no)
  pub yes_present : Present s x.yes
  pub no_present : Present s x.no
