-- What the records in store stand for.
use Rattle.std.specs.Prelude.{◌≡◌, ℕ, ◌+◌, ◌≤◌, ◌<◌, List, [], ◌∷◌, map, length}
use Rattle.meaning.specs.Leaves.{Cell as MCell, Action as MAction}
use Rattle.meaning.specs.Diagrams.{Diagram as MDiagram, Leaf as MLeaf, Node as MNode}
use Rattle.actions.specs.declared.actions.Action.{Action}
use Rattle.records.specs.declared.kinds.Cell.{Cell}
use Rattle.records.specs.declared.kinds.Node.{Node}
use Rattle.records.specs.declared.kinds.Diagram.{Diagram}
use Rattle.records.specs.declared.kinds.Diagram.TheVariants.{Leaf, Branch}
use Rattle.stores.specs.Numbers.{Distinct, held}
use Rattle.counts.specs.declared.counts.Counts.{Counts}
use Rattle.engine.specs.declared.memory.Stores.{Stores}
use Rattle.engine.specs.Contents.{Contents}
pub use Rattle.stored.specs.Stored.{Stored as State, Has, Grown}
use Rattle.engine.specs.Built.{build, numbered_or}

abbrev pub leaf_of : List MAction → List (List MCell) → Cell → List MCell
leaf_of acts ls c = (numbered_or [] acts c.action.number, c.weight.number) ∷ numbered_or [] ls c.rest.number

-- what a word stands for
abbrev pub side_of : List (List MCell) → List MDiagram → Diagram → MDiagram
side_of ls ds (Leaf n) = MLeaf (numbered_or [] ls n.number)
side_of ls ds (Branch n) = numbered_or (MLeaf []) ds n.number

abbrev pub node_of : List (List MCell) → List MDiagram → Node → MDiagram
node_of ls ds x = MNode x.test.field x.test.value (side_of ls ds x.yes) (side_of ls ds x.no)

abbrev pub actions_in : List Action → List MAction
actions_in acts = map (λ a. a.sets) acts

abbrev pub leaves_in : List MAction → List Cell → List (List MCell)
leaves_in acts cs = build (leaf_of acts) [] cs

abbrev pub nodes_in : List (List MCell) → List Node → List MDiagram
nodes_in ls ns = build (node_of ls) [] ns

abbrev state_over : List MAction → List Cell → List Node → State
state_over acts cs ns = record { actions = acts; leaves = leaves_in acts cs; nodes = nodes_in (leaves_in acts cs) ns }

unfoldable pub state : Contents → State
state c = state_over (actions_in c.actions) c.cells c.nodes

-- what a word stands for
unfoldable pub diagram_of : State → Diagram → MDiagram
diagram_of s d = side_of s.leaves s.nodes d

-- the word is that of a leaf or a node in store
abbrev pub Present : State → Diagram → Type 0
Present s (Leaf n) = n.number ≤ length s.leaves
Present s (Branch n) = (0 < n.number) × (n.number ≤ length s.nodes)

-- the word stands for the diagram
pub record Names (s : State) (w : Diagram) (d : MDiagram) : Type 0 where
  pub present : Present s w
  pub stands : diagram_of s w ≡ d

-- the records of a list behind the first ones, each with what it asks of those before
abbrev pub EachFrom : {R : Type 0} → (ℕ → R → Type 0) → ℕ → List R → Type 0
EachFrom P n [] = Unit {0}
EachFrom P n (r ∷ rs) = P n r × EachFrom P (n + 1) rs

abbrev pub CellNamesEarlier : ℕ → ℕ → Cell → Type 0
CellNamesEarlier actions before c = (0 < c.action.number) × (c.action.number ≤ actions) × (c.rest.number ≤ before)

abbrev pub WordNamesEarlier : ℕ → ℕ → Diagram → Type 0
WordNamesEarlier leaves before (Leaf n) = n.number ≤ leaves
WordNamesEarlier leaves before (Branch n) = (0 < n.number) × (n.number ≤ before)

abbrev pub NodeNamesEarlier : ℕ → ℕ → Node → Type 0
NodeNamesEarlier leaves before x = WordNamesEarlier leaves before x.yes × WordNamesEarlier leaves before x.no

-- records name only records before them, and no two stand for the same
pub record Sound (c : Contents) : Type 0 where
  pub cells_name_earlier : EachFrom (CellNamesEarlier (length c.actions)) 0 c.cells
  pub nodes_name_earlier : EachFrom (NodeNamesEarlier (length c.cells)) 0 c.nodes
  pub actions_distinct : Distinct (state c).actions
  pub leaves_distinct : Distinct (state c).leaves
  pub nodes_distinct : Distinct (state c).nodes

-- the counts are those of records in the slots
pub record Counted (c : Counts) (s : Stores) : Type 0 where
  pub actions_counted : length (held c.actions s.actions.slots.now) ≡ c.actions
  pub cells_counted : length (held c.cells s.cells.slots.now) ≡ c.cells
  pub nodes_counted : length (held c.nodes s.nodes.slots.now) ≡ c.nodes
