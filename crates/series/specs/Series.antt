-- A series of calls, performed on a bench.
use Rattle.std.specs.Prelude.{◌≡◌, ℕ, ◌<◌, ◌≤◌, ◌-◌, ◌^◌, min, List, [], ◌∷◌, ◌++◌, length, take, drop, Ok, Err}
use Rattle.weights.specs.Weights.{Ops}
use Rattle.faults.specs.declared.layers.CompileFault.{CompileFault}
use Rattle.faults.specs.declared.layers.StoreFault.{StoreFault}
use Rattle.faults.specs.declared.layers.BenchFault.TheVariants.{Text}
use Rattle.counts.specs.declared.memory.Sizes.{Sizes}
use Rattle.counts.specs.Memory.{AllFit, Unfit}
use Rattle.steps.specs.States.{State, opened}
use Rattle.steps.specs.Steps as bench
use Rattle.steps.specs.Law.{Performed}
use Rattle.calls.specs.declared.Call.{Call}
use Rattle.series.specs.declared.answers.Answer.{Answer}
use Rattle.series.specs.declared.answers.Answer.TheVariants.{Refused}
use Rattle.series.specs.declared.fault.SeriesFault.{SeriesFault}
use Rattle.series.specs.declared.fault.SeriesFault.TheVariants.{Memory, Answers, Written, InForce}
use Rattle.series.specs.declared.ended.Ended.{Ended}
use Rattle.series.specs.Calls.{parts_length, part_length, Asks, told, Leaves}

-- what came of a call after these answers: its answer, its part of memory before and after, and what the bench was asked and replied
pub data Turn (answers : List Answer) (call : Call) (answer : Answer) (was is : List ℕ) : List bench.Call → List bench.Reply → Type 0 where
  -- the text is no policy, and the bench is not asked
  unread : {f : CompileFault} → Asks answers call (Err f) → answer ≡ Refused (Text f) → Leaves answer was is → Turn answers call answer was is [] []
  asked : {c : bench.Call} → Asks answers call (Ok c) → Leaves answer was is → Turn answers call answer was is (c ∷ []) (told answer is ∷ [])

-- what came of calls one after another: each takes the next answer and the next part of memory
pub data Turns : List Call → List Answer → List ℕ → List ℕ → List bench.Call → List bench.Reply → Type 0 where
  none : Turns [] [] [] [] [] []
  next :
      {calls : List Call} {answers : List Answer} {was is : List ℕ} {cs : List bench.Call} {rs : List bench.Reply} →
      {call : Call} {answer : Answer} {part part' : List ℕ} {c : List bench.Call} {r : List bench.Reply} →
      Turns calls answers was is cs rs →
      length part ≡ part_length call →
      length part' ≡ part_length call →
      Turn answers call answer part part' c r →
      Turns (calls ++ (call ∷ [])) (answers ++ (answer ∷ [])) (was ++ part) (is ++ part') (cs ++ c) (rs ++ r)

-- what is told of a bench at the end, and the memory for the words of its table
pub record Ends (last : State) (ended : Ended) (was is : List ℕ) : Type 0 where
  pub actions : ended.records.actions ≡ length last.stored.actions
  pub cells : ended.records.cells ≡ length last.stored.leaves
  pub nodes : ended.records.nodes ≡ length last.stored.nodes
  pub count : ended.table_words ≡ length last.table
  pub table : is ≡ last.table ++ drop ended.table_words was

-- what is lent for the answers, for the words of forwarded frames, and for the table in force at the end
pub record Lent : Type 0 where
  pub answers : List Answer
  pub written : List ℕ
  pub in_force : List ℕ

abbrev pub lent_of : List Answer → List ℕ → List ℕ → Lent
lent_of answers written in_force = record { answers = answers; written = written; in_force = in_force }

-- the calls were performed on a bench opened with these sizes, and every law of series holds of what it was asked and replied
pub record Performs (o : Ops) (z : Sizes) (calls : List Call) (was is : Lent) (ended : Ended) : Type 0 where
  pub answers : List Answer
  pub words : List ℕ
  pub asked_of_bench : List bench.Call
  pub replies : List bench.Reply
  pub last : State
  pub turns : Turns calls answers (take (parts_length calls) was.written) words asked_of_bench replies
  pub performed : Performed o (opened z) asked_of_bench replies last
  -- what lies behind them is kept
  pub answers_told : is.answers ≡ answers ++ drop (length calls) was.answers
  pub words_written : is.written ≡ words ++ drop (parts_length calls) was.written
  pub ends : Ends last ended was.in_force is.in_force

-- the most that a count of words can say
abbrev pub most : ℕ
most = 2 ^ 64 - 1

-- what is lent is too short for these calls and for a table memory of so many words; what stands first here is judged first
pub data TooShort (calls : List Call) (table_words : ℕ) (lent : Lent) : SeriesFault → Type 0 where
  answers : length lent.answers < length calls → TooShort calls table_words lent (Answers (length calls))
  written : length calls ≤ length lent.answers → length lent.written < parts_length calls → TooShort calls table_words lent (Written (min (parts_length calls) most))
  in_force : length calls ≤ length lent.answers → parts_length calls ≤ length lent.written → length lent.in_force < table_words → TooShort calls table_words lent (InForce table_words)

-- why nothing is performed: the bench's memories come first
pub data Unperformed (z : Sizes) (calls : List Call) (lent : Lent) : SeriesFault → Type 0 where
  memory : {f : StoreFault} → Unfit z f → Unperformed z calls lent (Memory f)
  lent : {f : SeriesFault} → AllFit z → TooShort calls z.table_words lent f → Unperformed z calls lent f
