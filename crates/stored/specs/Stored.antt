-- What is in store.
use Rattle.std.specs.Prelude.{◌≡◌, ℕ, ◌==◌, cond, List, [], ◌∷◌, ◌++◌, Some, None, Option}
use Rattle.std.specs.List.{slice_get}
use Rattle.format.specs.Words.{kind_of, field_of, value_of}
use Rattle.stores.specs.Numbers.{record_at, Numbered}
use Rattle.meaning.specs.Leaves.{Action, Cell}
use Rattle.meaning.specs.Diagrams.{Diagram, Leaf, Node}
use Rattle.requests.specs.Requests.{Request, action, cell, node}

-- actions, leaves and nodes by number, the first under 1; a leaf goes by the number of its first cell
pub record Stored : Type 0 where
  pub actions : List Action
  pub leaves : List (List Cell)
  pub nodes : List Diagram

-- how many records of each kind there is room for
pub record Rooms : Type 0 where
  pub actions : ℕ
  pub cells : ℕ
  pub nodes : ℕ

-- what is in store, and how much there is room for
pub record Holdings : Type 0 where
  pub stored : Stored
  pub rooms : Rooms

abbrev pub leaf_in : Option (List Cell) → Option Diagram
leaf_in None = None
leaf_in (Some l) = Some (Leaf l)

-- the diagram of a word, none if the word is not held; 0 is drop's
unfoldable pub diagram : Stored → ℕ → Option Diagram
diagram s w =
    cond (field_of w == 0)
    (cond (kind_of w == 0) (leaf_in (slice_get ([] ∷ s.leaves) (value_of w))) (cond (kind_of w == 1) (record_at s.nodes (value_of w)) None))
    None

-- the record is in store
abbrev pub Has : Stored → Request → Type 0
Has s (action a) = (n : ℕ) × Numbered s.actions n a
Has s (cell a w l) = (n : ℕ) × Numbered s.leaves n ((a, w) ∷ l)
Has s (node f n y z) = (k : ℕ) × Numbered s.nodes k (Node f n y z)

-- the old records keep their numbers, and new ones come behind them
pub record Grown (s s' : Stored) : Type 0 where
  pub new_actions : List Action
  pub actions_grown : s'.actions ≡ s.actions ++ new_actions
  pub new_leaves : List (List Cell)
  pub leaves_grown : s'.leaves ≡ s.leaves ++ new_leaves
  pub new_nodes : List Diagram
  pub nodes_grown : s'.nodes ≡ s.nodes ++ new_nodes
