-- What the words of the table in force are to one who reads them.
use Rattle.std.specs.Prelude.{ℕ, ◌≤◌, List, length, Result, MatchResult}
use Rattle.faults.specs.declared.layers.FrameFault.{FrameFault}
use Rattle.weights.specs.Weights.{Ops}
use Rattle.tables.specs.Rows.{LegalTable, OfItsRows}
use Rattle.tables.specs.Checking.{Stops}
use Rattle.tables.specs.Forwards.{Answered, Refused as FrameRefused}
use Rattle.steps.specs.States.{State}
use Rattle.steps.specs.Steps.{Forward, Step}
use Rattle.bench.specs.Replies.{frame_reply}

-- no check of a table finds a fault in the words
abbrev pub PassesTheCheck : Ops → List ℕ → Type 0
PassesTheCheck o ws = LegalTable o ws × ((i : ℕ) → Stops o ws i → ⊥)

-- what a table of these words answers to a frame
abbrev pub TableAnswers : Ops → List ℕ → List ℕ → List ℕ → Result ℕ FrameFault → List ℕ → Type 0
TableAnswers o table frame was r is =
    OfItsRows o table (λ rows. MatchResult r (λ n. (n ≤ length was) × Answered o rows frame was n is) (λ f. FrameRefused o rows frame (length was) f))

-- whatever a table of the words in force answers to a frame, the bench answers
abbrev pub ForwardsAlike : Ops → State → Type 0
ForwardsAlike o s = (frame was is : List ℕ) (r : Result ℕ FrameFault) → TableAnswers o s.table frame was r is → Step o s (Forward frame (length was)) (frame_reply r is) s
