-- Leaves: lists of actions with their weights.
use Rattle.std.specs.Prelude.{◌≡◌, ℕ, ◌<◌, ◌≢◌, List, [], ◌∷◌, length, None, Option, slice_index_or}
use Rattle.format.specs.Fields.{fields}
use Rattle.format.specs.Actions.{LegalSet}
use Rattle.weights.specs.Weights.{Ops, Weight}
use Rattle.meaning.specs.Decide.{choice, three, decide, order_actions, Before}

abbrev pub Action : Type 0
Action = List (Option ℕ)

abbrev pub Frame : Type 0
Frame = List ℕ

-- an action and the weight with which it is taken
abbrev pub Cell : Type 0
Cell = Action × ℕ

-- P holds of each of them
abbrev pub Each : {X : Type 0} → (X → Type 0) → List X → Type 0
Each P [] = Unit {0}
Each P (x ∷ xs) = P x × Each P xs

-- the join of what g makes of each cell
abbrev pub gather : Ops → (Action → ℕ → ℕ) → List Cell → ℕ
gather o g [] = o.zero
gather o g (c ∷ l) = o.join (g c.0 c.1) (gather o g l)

-- strictly ascending by action
abbrev pub Ascending : List Cell → Type 0
Ascending [] = Unit {0}
Ascending (c ∷ l) = Each (λ e. Before c.0 e.0) l × Ascending l

-- the cell put in its place, weights of equal actions joined
abbrev pub put : Ops → Action → ℕ → List Cell → List Cell
put o a w [] = (a, w) ∷ []
put o a w (c ∷ l) = three (order_actions a c.0) ((a, w) ∷ c ∷ l) ((a, o.join w c.1) ∷ l) (c ∷ put o a w l)

-- a cell of weight zero goes
abbrev pub enter : Ops → Action → ℕ → List Cell → List Cell
enter o a w l = choice (decide w o.zero) l (put o a w l)

-- equal actions join their weights and zeros go
abbrev pub collect : Ops → List Cell → List Cell
collect o [] = []
collect o (c ∷ l) = enter o c.0 c.1 (collect o l)

-- an action for frames: a value or none for each field, the values legal
pub record ActionFormed (a : Action) : Type 0 where
  pub all_fields : length a ≡ fields
  pub legal : (f : ℕ) → f < length a → LegalSet f (slice_index_or a f None)

-- a cell of a leaf: an action and a weight of the kind that is not zero
pub record CellFormed (o : Ops) (c : Cell) : Type 0 where
  pub action : ActionFormed c.0
  pub weight : Weight o c.1
  pub not_zero : c.1 ≢ o.zero

pub record LeafFormed (o : Ops) (l : List Cell) : Type 0 where
  pub cells : Each (CellFormed o) l
  pub ascending : Ascending l
