-- The greatest cell of an ascending list below a bound. It serves proofs alone: what the engine promises is in Views, Listed and what they cite.
use Rattle.std.specs.Prelude.{List, [], ◌∷◌, Some, None, Option}
use Rattle.weights.specs.Weights.{Ops}
use Rattle.meaning.specs.Decide.{choice, decide, three, order_actions}
use Rattle.meaning.specs.Leaves.{Action as MAction, Cell as MCell}
use Rattle.engine.specs.declared.prefixing.WeightedAction.{WeightedAction}

-- the cells up to the first that is not below the bound
unfoldable pub under : Option MAction → List MCell → List MCell
under None l = l
under (Some b) [] = []
under (Some b) (c ∷ l) = three (order_actions c.0 b) (c ∷ under (Some b) l) [] []

abbrev pub last_or : MCell → List MCell → MCell
last_or c [] = c
last_or c (e ∷ l) = last_or e l

abbrev pub last : List MCell → Option MCell
last [] = None
last (c ∷ l) = Some (last_or c l)

-- the greater of a cell and what was found behind it, both as one if they are equal
abbrev pub greater : Ops → MCell → Option MCell → Option MCell
greater o c None = Some c
greater o c (Some e) = three (order_actions c.0 e.0) (Some e) (Some (c.0, o.join c.1 e.1)) (Some c)

-- the same, if the cell is below the bound
abbrev pub better : Ops → Option MAction → MCell → Option MCell → Option MCell
better o None c m = greater o c m
better o (Some b) c m = three (order_actions c.0 b) (greater o c m) m m

-- the same, unless the cell's weight is zero
abbrev pub entered : Ops → Option MAction → MCell → Option MCell → Option MCell
entered o b c m = choice (decide c.1 o.zero) m (better o b c m)

abbrev pub found_cell : Option WeightedAction → Option MCell
found_cell None = None
found_cell (Some x) = Some (x.action.sets, x.weight)
