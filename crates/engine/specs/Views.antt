-- What an engine holds.
use Rattle.std.specs.Prelude.{List, [], Option}
use Rattle.weights.specs.Weights.{Ops}
use Rattle.stores.specs.Numbers.{room}
use Rattle.counts.specs.declared.counts.Counts.{Counts}
use Rattle.engine.specs.declared.memory.Stores.{Stores}
use Rattle.engine.specs.Contents.{contents}
use Rattle.stored.specs.Stored.{Stored, Rooms, Holdings}
use Rattle.stored.specs.Whole.{AllFormed}
use Rattle.engine.specs.declared.memo.PackedEntry.{PackedEntry}
use Rattle.engine.specs.State.{state}
use Rattle.engine.specs.Done.{SoundStores}
use Rattle.engine.specs.Memo.{Remembers}

abbrev pub nothing : Stored
nothing = record { actions = []; leaves = []; nodes = [] }

-- as many records of each kind as have slots and numbers
abbrev pub rooms_of : {A C N : Type 0} → List A → List C → List N → Rooms
rooms_of actions cells nodes = record { actions = room actions; cells = room cells; nodes = room nodes }

abbrev pub rooms_in : Stores → Rooms
rooms_in s = rooms_of s.actions.slots.now s.cells.slots.now s.nodes.slots.now

-- the records up to the counts
abbrev pub holdings : Stores → Counts → Holdings
holdings s c = record { stored = state (contents c s); rooms = rooms_in s }

-- sound stores of well-formed diagrams' records, and a memo that is right of them
pub record SoundEngine (o : Ops) (s : Stores) (c : Counts) (l : List (Option PackedEntry)) : Type 0 where
  pub good : SoundStores c s
  pub formed : AllFormed o (state (contents c s))
  pub remembers : Remembers o (state (contents c s)) l
