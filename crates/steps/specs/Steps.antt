-- The calls of a bench, step by step, and chains of steps.
use Rattle.std.specs.Prelude.{◌≡◌, ℕ, ◌<◌, ◌≤◌, List, [], ◌∷◌, Some, length}
use Rattle.std.specs.List.{flat_map}
use Rattle.faults.specs.declared.layers.FrameFault.{FrameFault}
use Rattle.faults.specs.declared.layers.StoreFault.TheVariants.{Full, NotHeld}
use Rattle.faults.specs.declared.layers.TableFault.TheVariants as table
use Rattle.faults.specs.declared.layers.BenchFault.{BenchFault}
use Rattle.faults.specs.declared.layers.BenchFault.TheVariants.{Store, Table, Frame}
use Rattle.frames.specs.Frames.{FrameValues, frame_words}
use Rattle.weights.specs.Weights.{Ops}
use Rattle.tables.specs.Rows.{Row, table_words}
use Rattle.tables.specs.Emits.{Sent, sent_words, Answer}
use Rattle.tables.specs.Forwards.{Refused as FrameRefused}
use Rattle.listing.specs.Rows.{rows_of}
use Rattle.meaning.specs.Diagrams.{Diagram}
use Rattle.requests.specs.Requests.{Request}
use Rattle.stored.specs.Stored.{Stored, diagram}
use Rattle.stored.specs.Grows.{Grows, Over, size}
pub use Rattle.stored.specs.Calls.{Call, Compile, Union, Sequence, Star, Install, Forward}
pub use Rattle.stored.specs.Calls.{Builds, of_policy, of_union, of_sequence, of_star}
pub use Rattle.stored.specs.Calls.{Unheld, union_first, union_second, sequence_first, sequence_second, star_operand, install_operand}
use Rattle.steps.specs.States.{State, TableOf}

pub data Reply : Type 0 where
  Word : ℕ → Reply
  -- how many words the table has
  Installed : ℕ → Reply
  Written : List ℕ → Reply
  Refused : BenchFault → Reply

-- the call meets this condition of the table of faults, and none that is judged before it
pub data Refuses (o : Ops) (s : State) : Call → BenchFault → Type 0 where
  not_held : {c : Call} {place : ℕ} → Unheld s.stored c place → Refuses o s c (Store (NotHeld place))
  full : {c : Call} {r : Diagram} {asks : List Request} → Builds o s.stored c r asks →
      Over (size s.rooms) s.stored asks → Refuses o s c (Store Full)
  table_full : {x : ℕ} {d : Diagram} → diagram s.stored x ≡ Some d → s.table_room < length (table_words (rows_of d)) →
      Refuses o s (Install x) (Table table.Full)
  no_frame : {ws : List ℕ} {n : ℕ} {f : FrameFault} {rows : List Row} → TableOf o s.table rows → FrameRefused o rows ws n f →
      Refuses o s (Forward ws n) (Frame f)

-- the words in which these rows answer the frame of these words
pub record Sends (o : Ops) (rows : List Row) (ws : List ℕ) (n : ℕ) (out : List ℕ) : Type 0 where
  pub frame : List ℕ
  pub is_frame : FrameValues frame
  pub its_words : ws ≡ frame_words frame
  pub answer : List Sent
  pub right : Answer o rows frame answer
  pub written : out ≡ flat_map sent_words answer
  pub fit : length out ≤ n

abbrev pub with_stored : State → Stored → State
with_stored s m = record { stored = m; rooms = s.rooms; table = s.table; table_room = s.table_room }

abbrev pub with_table : State → List ℕ → State
with_table s ws = record { stored = s.stored; rooms = s.rooms; table = ws; table_room = s.table_room }

-- in state s the call gets this reply, and the state is then s'
pub data Step (o : Ops) (s : State) : Call → Reply → State → Type 0 where
  -- a refused call changes nothing
  refused : {c : Call} {f : BenchFault} → Refuses o s c f → Step o s c (Refused f) s
  built : {c : Call} {r : Diagram} {asks : List Request} {w : ℕ} {m : Stored} →
      Builds o s.stored c r asks → Grows s.rooms s.stored asks r w m → Step o s c (Word w) (with_stored s m)
  installed : {x : ℕ} {d : Diagram} → diagram s.stored x ≡ Some d → length (table_words (rows_of d)) ≤ s.table_room →
      Step o s (Install x) (Installed (length (table_words (rows_of d)))) (with_table s (table_words (rows_of d)))
  sent : {ws : List ℕ} {n : ℕ} {out : List ℕ} {rows : List Row} → TableOf o s.table rows → Sends o rows ws n out →
      Step o s (Forward ws n) (Written out) s

-- the calls get these replies one after another, the first call first
abbrev pub Run : Ops → State → List Call → List Reply → State → Type 0
Run o s [] [] s' = s' ≡ s
Run o s (c ∷ cs) (r ∷ rs) s' = (m : State) × Step o s c r m × Run o m cs rs s'
Run o s [] (r ∷ rs) s' = ⊥
Run o s (c ∷ cs) [] s' = ⊥
