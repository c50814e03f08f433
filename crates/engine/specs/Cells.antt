-- Leaves by their cells: what is read of them, and what enters them. It serves proofs alone: what the engine promises is in Views, Listed and what they cite.
use Rattle.std.specs.Prelude.{◌≡◌, ℕ, ◌≤◌, ◌<◌, List, [], ◌∷◌, length, Ok, Err, Result, MatchResult}
use Rattle.weights.specs.Weights.{Ops}
use Rattle.meaning.specs.Leaves.{Action as MAction, Cell as MCell, LeafFormed}
use Rattle.meaning.specs.Diagrams.{Diagram as MDiagram, Leaf as MLeaf}
use Rattle.format.specs.declared.settings.Amount.{Amount}
use Rattle.records.specs.declared.kinds.Cell.{Cell}
use Rattle.records.specs.declared.kinds.Diagram.TheVariants.{Leaf, Branch}
use Rattle.records.specs.declared.kinds.Diagram.{Diagram}
use Rattle.faults.specs.declared.layers.StoreFault.{StoreFault}
use Rattle.faults.specs.declared.layers.StoreFault.TheVariants.{Full}
use Rattle.stores.specs.Numbers.{Numbered}
use Rattle.counts.specs.declared.counts.Counts.{Counts}
use Rattle.engine.specs.declared.memory.Stores.{Stores}
use Rattle.engine.specs.Contents.{contents}
use Rattle.requests.specs.Requests.{Request, action, cell, leaf_records}
use Rattle.engine.specs.Built.{numbered_or}
use Rattle.engine.specs.State.{State, state}
use Rattle.engine.specs.Done.{Added, Over, SoundStores, rooms}
use Rattle.engine.specs.Leaves.{LeafPresent, leaf_at}

abbrev pub ActionPresent : State → ℕ → Type 0
ActionPresent s n = (0 < n) × (n ≤ length s.actions)

abbrev pub action_at : State → ℕ → MAction
action_at s n = numbered_or [] s.actions n

-- the cell under a number: its action and weight, and the leaf behind it
pub record CellRead (s : State) (number : ℕ) (x : Cell) : Type 0 where
  pub itself : leaf_at s number ≡ (action_at s x.action.number, x.weight.number) ∷ leaf_at s x.rest.number
  pub action_present : ActionPresent s x.action.number
  pub rest_present : LeafPresent s x.rest.number

-- the number of a first cell, as the word of its leaf
abbrev pub leaf_result : Result Amount StoreFault → Result Diagram StoreFault
leaf_result (Ok n) = Ok (Leaf n)
leaf_result (Err f) = Err f

-- the leaf l, and each record of it
abbrev pub LeafOf : List MCell → MDiagram → List Request → Type 0
LeafOf l r a = (r ≡ MLeaf l) × (a ≡ leaf_records l)

-- a cell is entered
abbrev pub CellEntering : MAction → ℕ → List MCell → MDiagram → List Request → Type 0
CellEntering a w l r x = (r ≡ MLeaf ((a, w) ∷ l)) × (x ≡ cell a w l ∷ [])

-- an action and its cell are put on a leaf
abbrev pub PutOn : MAction → ℕ → List MCell → MDiagram → List Request → Type 0
PutOn a w l r x = (r ≡ MLeaf ((a, w) ∷ l)) × (x ≡ action a ∷ cell a w l ∷ [])

-- the action has the number, and nothing else was added
pub record ActionMade (a : MAction) (c : Counts) (s : Stores) (c' : Counts) (s' : Stores) (n : ℕ) : Type 0 where
  pub good : SoundStores c' s'
  pub numbered : Numbered (state (contents c' s')).actions n a
  pub added : Added (state (contents c s)) (action a ∷ []) (state (contents c' s'))

-- the action is entered, or too many actions are held or asked
abbrev pub ActionDone : MAction → Counts → Stores → Counts → Stores → Result Amount StoreFault → Type 0
ActionDone a c s c' s' result = MatchResult result (λ n. ActionMade a c s c' s' n.number) (λ f. (f ≡ Full) × Over (rooms s) (state (contents c s)) (action a ∷ []))

-- every leaf in store is well-formed
abbrev pub LeavesFormed : Ops → State → Type 0
LeavesFormed o s = (n : ℕ) (l : List MCell) → Numbered s.leaves n l → LeafFormed o l

abbrev pub number_of : Diagram → Amount
number_of (Leaf n) = n
number_of (Branch n) = n
