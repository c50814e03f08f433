-- Two lists of cells, each ascending, as one. It serves proofs alone: what the engine promises is in Views, Listed and what they cite.
use Rattle.std.specs.Prelude.{◌≡◌, ℕ, ◌+◌, ◌<◌, List, [], ◌∷◌, length, Some, None, Option, slice_index_or}
use Rattle.format.specs.Actions.{narrow_action}
use Rattle.weights.specs.Weights.{Ops}
use Rattle.meaning.specs.Decide.{choice, three, equal_sets, order_actions}
use Rattle.meaning.specs.Leaves.{Action as MAction, Cell as MCell}
use Rattle.actions.specs.declared.actions.Action.{Action}
use Rattle.engine.specs.declared.merging.Selection.{Selection}
use Rattle.engine.specs.declared.merging.Selection.TheVariants.{All, Unchanged, Changed}
use Rattle.engine.specs.declared.merging.CellList.{CellList}
use Rattle.engine.specs.declared.merging.FirstCell.{FirstCell}
use Rattle.engine.specs.declared.merging.MergeStep.{MergeStep}
use Rattle.engine.specs.State.{State}
use Rattle.engine.specs.Leaves.{LeafPresent, leaf_at}

-- what a view shows of an action, if it shows it
abbrev pub shown_action : Selection → MAction → Option MAction
shown_action All a = Some a
shown_action (Unchanged t) a = choice (equal_sets (slice_index_or a t.field None) (Some t.value)) None (Some a)
shown_action (Changed t) a = choice (equal_sets (slice_index_or a t.field None) (Some t.value)) (Some (narrow_action a t.field t.value)) None

abbrev pub put_first : ℕ → Option MAction → List MCell → List MCell
put_first w None l = l
put_first w (Some a) l = (a, w) ∷ l

-- the cells that a view shows
unfoldable pub sift : Selection → List MCell → List MCell
sift v [] = []
sift v (c ∷ l) = put_first c.1 (shown_action v c.0) (sift v l)

abbrev pub strand : State → CellList → List MCell
strand s x = sift x.view (leaf_at s x.first.number)

-- c and then l, joined with a list; what l joined with a list is, is given
abbrev pub join_in : Ops → MCell → (List MCell → List MCell) → List MCell → List MCell
join_in o c l [] = c ∷ l []
join_in o c l (e ∷ m) = three (order_actions c.0 e.0) (c ∷ l (e ∷ m)) ((c.0, o.join c.1 e.1) ∷ l m) (e ∷ join_in o c l m)

-- both as one, weights of equal actions joined
unfoldable pub merge : Ops → List MCell → List MCell → List MCell
merge o [] m = m
merge o (c ∷ l) m = join_in o c (merge o l) m

abbrev pub sets_of : Option Action → Option MAction
sets_of None = None
sets_of (Some a) = Some a.sets

pub record FirstCellRead (s : State) (x : CellList) (t : FirstCell) : Type 0 where
  pub whole : strand s x ≡ (t.action.sets, t.weight) ∷ strand s t.rest
  pub rest_present : LeafPresent s t.rest.first.number

-- the first cell of the strand, and the strand behind it
abbrev pub FirstCellIs : State → CellList → Option FirstCell → Type 0
FirstCellIs s x None = strand s x ≡ []
FirstCellIs s x (Some t) = FirstCellRead s x t

pub record MergeStepRead (o : Ops) (s : State) (x y : CellList) (t : MergeStep) : Type 0 where
  pub whole : merge o (strand s x) (strand s y) ≡ (t.action.sets, t.weight) ∷ merge o (strand s t.left) (strand s t.right)
  pub left_present : LeafPresent s t.left.first.number
  pub right_present : LeafPresent s t.right.first.number
  pub shorter : length (strand s t.left) + length (strand s t.right) < length (strand s x) + length (strand s y)

-- the first cell of both as one, and the strands behind it
abbrev pub MergeStepIs : Ops → State → CellList → CellList → Option MergeStep → Type 0
MergeStepIs o s x y None = merge o (strand s x) (strand s y) ≡ []
MergeStepIs o s x y (Some t) = MergeStepRead o s x y t
