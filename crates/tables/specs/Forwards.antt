-- What looking a frame up and forwarding it promise.
use Rattle.std.specs.Prelude.{◌≡◌, ℕ, ◌*◌, ◌<◌, true, false, List, ◌∷◌, ◌++◌, length, take, drop, ◌≢◌}
use Rattle.std.specs.List.{flat_map, AllByRecursion}
use Rattle.faults.specs.declared.layers.FrameFault.{FrameFault}
use Rattle.faults.specs.declared.layers.FrameFault.TheVariants.{Length, BadWord, NoRoom}
use Rattle.frames.specs.Frames.{FrameValues, NoFrame, frame_words}
use Rattle.weights.specs.Weights.{Ops}
use Rattle.tables.specs.Rows.{Row, row_words}
use Rattle.tables.specs.Emits.{Sent, sent_length, sent_words, emits, holds, Answer, In, Ascending}

-- the first row whose matches all hold of frame s, as the part of the table's words where it stands
pub record Decides (rows : List Row) (s ws found : List ℕ) : Type 0 where
  pub before : List Row
  pub row : Row
  pub after : List Row
  pub order : rows ≡ before ++ (row ∷ after)
  pub passed : AllByRecursion (λ r. holds r.matches s ≡ false) before
  pub held : holds row.matches s ≡ true
  pub found_is : found ≡ row_words row
  pub part : found ≡ take (length found) (drop (length (flat_map row_words before)) ws)

-- the answer to frame s in the first n words of memory, and the words behind them as they were
pub record Written (o : Ops) (rows : List Row) (s was : List ℕ) (n : ℕ) (is : List ℕ) : Type 0 where
  pub answer : List Sent
  pub right : Answer o rows s answer
  pub only : (other : List Sent) → Answer o rows s other → other ≡ answer
  pub count : n ≡ length (flat_map sent_words answer)
  pub front : take n is ≡ flat_map sent_words answer
  pub past : drop n is ≡ drop n was

-- the words are those of a frame, and its answer was written
abbrev pub Answered : Ops → List Row → List ℕ → List ℕ → ℕ → List ℕ → Type 0
Answered o rows ws was n is = (s : List ℕ) × FrameValues s × (ws ≡ frame_words s) × Written o rows s was n is

-- more frames are emitted than so many words hold
pub record Overfull (o : Ops) (rows : List Row) (s : List ℕ) (room : ℕ) : Type 0 where
  pub frames : List (List ℕ)
  pub ascending : Ascending frames
  pub emitted : (t : List ℕ) → In t frames → emits o rows s t ≢ o.zero
  pub many : room < sent_length * length frames

-- why a frame's words are not forwarded: they are no frame, or else the answer does not fit
abbrev pub Refused : Ops → List Row → List ℕ → ℕ → FrameFault → Type 0
Refused o rows ws room Length = NoFrame Length ws
Refused o rows ws room (BadWord i) = NoFrame (BadWord i) ws
Refused o rows ws room NoRoom = (s : List ℕ) × FrameValues s × (ws ≡ frame_words s) × Overfull o rows s room
