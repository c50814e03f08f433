-- What constructions do to the stores.
use Rattle.std.specs.Prelude.{◌≡◌, ℕ, ◌<◌, ◌≤◌, ◌⊎◌, ◌↔◌, List, [], ◌∷◌, Some, length}
use Rattle.weights.specs.Order.{In}
use Rattle.stores.specs.Numbers.{Absent, Distinct}
use Rattle.meaning.specs.Leaves.{Cell, Each}
use Rattle.meaning.specs.Diagrams.{Diagram, Leaf}
use Rattle.requests.specs.Requests.{Request, action, cell, node}
use Rattle.stored.specs.Stored.{Rooms, Stored, diagram, Has, Grown}

pub data Kind : Type 0 where
  actions : Kind
  cells : Kind
  nodes : Kind

abbrev pub kind_of : Request → Kind
kind_of (action a) = actions
kind_of (cell a w l) = cells
kind_of (node f n y z) = nodes

-- how many records of each kind there is room for
abbrev pub size : Rooms → Kind → ℕ
size z actions = z.actions
size z cells = z.cells
size z nodes = z.nodes

-- no record is there twice
pub record Once (s : Stored) : Type 0 where
  pub actions : Distinct s.actions
  pub leaves : Distinct s.leaves
  pub nodes : Distinct s.nodes

pub record Fits (z : Rooms) (s : Stored) : Type 0 where
  pub actions : length s.actions ≤ z.actions
  pub leaves : length s.leaves ≤ z.cells
  pub nodes : length s.nodes ≤ z.nodes

-- from s to s' exactly the records asked for were added
pub record Adds (s : Stored) (asks : List Request) (s' : Stored) : Type 0 where
  -- each list is the old one and new ones behind it
  pub grown : Grown s s'
  pub once : Once s'
  -- a record is there exactly if it was or was asked for
  pub exactly : (q : Request) → Has s' q ↔ (Has s q ⊎ In q asks)
  -- nothing else is there: drop has no cell, and a leaf is no node
  pub no_drop : Absent s'.leaves []
  pub no_leaf : (l : List Cell) → Absent s'.nodes (Leaf l)

-- the stores after an accepted construction of r, which requested asks; w is its word
pub record Grows (z : Rooms) (s : Stored) (asks : List Request) (r : Diagram) (w : ℕ) (s' : Stored) : Type 0 where
  pub adds : Adds s asks s'
  pub its_word : diagram s' w ≡ Some r
  pub fits : Fits z s'

-- no two of them are the same
abbrev pub Apart : {X : Type 0} → List X → Type 0
Apart [] = Unit {0}
Apart (q ∷ l) = (In q l → ⊥) × Apart l

-- the different records of one kind, held or asked for, are more than there is room for
pub record Over (size : Kind → ℕ) (s : Stored) (asks : List Request) : Type 0 where
  pub kind : Kind
  pub records : List Request
  pub different : Apart records
  pub of_kind : Each (λ q. kind_of q ≡ kind) records
  pub held_or_asked : Each (λ q. Has s q ⊎ In q asks) records
  pub too_many : size kind < length records
