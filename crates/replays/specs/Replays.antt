-- The record of a replay, by what the table does with each frame.
use Rattle.std.specs.Prelude.{◌≡◌, ℕ, ◌*◌, ◌/◌, ◌<◌, Bool, true, false, List, [], ◌++◌, length, take, drop}
use Rattle.std.specs.List.{flat_map}
use Rattle.std.specs.Simd.{first_chunks}
use Rattle.faults.specs.declared.layers.FrameFault.{FrameFault}
use Rattle.faults.specs.declared.layers.TableFault.TheVariants.{Illegal}
use Rattle.faults.specs.Shows.{table_shown, frame_shown}
use Rattle.faults.specs.Lines.{refused_line}
use Rattle.format.specs.Fields.{fields}
use Rattle.frames.specs.Frames.{FrameValues, frame_words}
use Rattle.weights.specs.Weights.{Ops}
use Rattle.weights.specs.Kinds.{reach_ops, cost_ops}
use Rattle.tables.specs.Rows.{Row, LegalRows, table_words, OfItsRows}
use Rattle.tables.specs.Emits.{Sent, sent_length, sent_words, Answer}
use Rattle.tables.specs.Checking.{Stops}
use Rattle.tables.specs.Forwards.{Refused}
use Rattle.pages.specs.declared.page.Page.{Page}
use Rattle.pages.specs.Pages.{SaysSome}
use Rattle.replays.specs.declared.kind.Kind.{Kind}
use Rattle.replays.specs.declared.kind.Kind.TheVariants.{Reach, Cost}
use Rattle.lines.specs.Lines.{table_lines, frame_line, emit_line}

-- a line for each emitted frame in these words
abbrev pub emit_lines : List ℕ → List ℕ
emit_lines ws = flat_map emit_line (first_chunks sent_length (length ws / sent_length) ws)

-- what is said of one frame, by its words: the frame and each emitted frame, or the frame and why it is refused
pub data FrameSaid (o : Ops) (rows : List Row) (room : ℕ) (ws : List ℕ) : List ℕ → Type 0 where
  forwarded :
      (s : List ℕ) (answer : List Sent) →
      FrameValues s →
      ws ≡ frame_words s →
      Answer o rows s answer →
      FrameSaid o rows room ws (frame_line ws ++ flat_map (λ x. emit_line (sent_words x)) answer)
  refused :
      (fault : FrameFault) →
      Refused o rows ws room fault →
      FrameSaid o rows room ws (frame_line ws ++ refused_line (frame_shown fault))

-- what is said of all frames: each takes as many words as there are fields, the last one what is left
pub data FramesSaid (o : Ops) (rows : List Row) (room : ℕ) : List ℕ → List ℕ → Type 0 where
  no_frame : FramesSaid o rows room [] []
  frame_first :
      (ws text rest : List ℕ) →
      0 < length ws →
      FrameSaid o rows room (take fields ws) text →
      FramesSaid o rows room (drop fields ws) rest →
      FramesSaid o rows room ws (text ++ rest)

-- what is said of a frame by the table of these words, and of all frames
abbrev pub SaysFrame : Ops → List ℕ → ℕ → List ℕ → Page → Page → Type 0
SaysFrame o table room ws old new = OfItsRows o table (λ rows. SaysSome (FrameSaid o rows room ws) old new)

abbrev pub SaysFrames : Ops → List ℕ → ℕ → List ℕ → Page → Page → Type 0
SaysFrames o table room ws old new = OfItsRows o table (λ rows. SaysSome (FramesSaid o rows room ws) old new)

-- what is said of a table's words and the frames' words: these first lines and then each frame, or why the table is refused
pub data LinesBehind (o : Ops) (first table frames : List ℕ) : List ℕ → Type 0 where
  replayed :
      (rows : List Row) (text : List ℕ) →
      LegalRows o rows →
      table ≡ table_words rows →
      FramesSaid o rows (length table * sent_length) frames text →
      LinesBehind o first table frames (first ++ text)
  no_table : (place : ℕ) → Stops o table place → LinesBehind o first table frames (refused_line (table_shown (Illegal place)))

-- the record: the table and each frame, or why the table is refused
abbrev pub Record : Ops → List ℕ → List ℕ → List ℕ → Type 0
Record o table frames = LinesBehind o (table_lines table) table frames

-- the lines of a table, or none
abbrev pub title : Bool → List ℕ → List ℕ
title true table = table_lines table
title false table = []

-- what the weights of a kind are
abbrev pub kind_ops : Kind → Ops
kind_ops Reach = reach_ops
kind_ops Cost = cost_ops
