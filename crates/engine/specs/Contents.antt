-- What the three stores hold.
use Rattle.std.specs.Prelude.{◌≡◌, List, length}
use Rattle.stores.specs.Numbers.{held}
use Rattle.counts.specs.declared.counts.Counts.{Counts}
use Rattle.actions.specs.declared.actions.Action.{Action}
use Rattle.records.specs.declared.kinds.Cell.{Cell}
use Rattle.records.specs.declared.kinds.Node.{Node}
use Rattle.engine.specs.declared.memory.Stores.{Stores}

-- the records in store
pub record Contents : Type 0 where
  pub actions : List Action
  pub cells : List Cell
  pub nodes : List Node

abbrev pub contents : Counts → Stores → Contents
contents c s =
    record {
      actions = held c.actions s.actions.slots.now;
      cells = held c.cells s.cells.slots.now;
      nodes = held c.nodes s.nodes.slots.now;
    }

-- the stores are in the memory that they were in
pub record SameMemory (s s' : Stores) : Type 0 where
  pub actions_lender : s'.actions.slots.ghost_name ≡ s.actions.slots.ghost_name
  pub cells_lender : s'.cells.slots.ghost_name ≡ s.cells.slots.ghost_name
  pub nodes_lender : s'.nodes.slots.ghost_name ≡ s.nodes.slots.ghost_name
  pub actions_size : length s'.actions.slots.now ≡ length s.actions.slots.now
  pub cells_size : length s'.cells.slots.now ≡ length s.cells.slots.now
  pub nodes_size : length s'.nodes.slots.now ≡ length s.nodes.slots.now
