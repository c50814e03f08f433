-- What the functions of this crate do on the way: for their contracts alone.
use Rattle.std.specs.Prelude.{◌≡◌, ℕ, ◌≤◌, List, ◌++◌, length, take, drop, Result, Ok, Err}
use Rattle.faults.specs.declared.layers.BenchFault.{BenchFault}
use Rattle.weights.specs.Weights.{Ops}
use Rattle.steps.specs.States.{State}
use Rattle.steps.specs.Steps as bench
use Rattle.calls.specs.declared.Call.{Call}
use Rattle.series.specs.declared.answers.Answer.{Answer}
use Rattle.series.specs.declared.answers.Answer.TheVariants.{Refused}
use Rattle.series.specs.Calls.{parts_length}
use Rattle.series.specs.Series.{Turn, Turns, Lent}

-- a refusal is an answer too
abbrev pub answer_of : Result Answer BenchFault → Answer
answer_of (Ok a) = a
answer_of (Err f) = Refused f

-- what a call did to the bench
pub record Answered (o : Ops) (answers : List Answer) (call : Call) (s : State) (answer : Answer) (was is : List ℕ) (s' : State) : Type 0 where
  pub asked : List bench.Call
  pub replies : List bench.Reply
  pub turn : Turn answers call answer was is asked replies
  pub run : bench.Run o s asked replies s'

-- what calls did to the bench and to the memories for answers and for words
pub record Went (o : Ops) (s : State) (calls : List Call) (answers answers' : List Answer) (was is : List ℕ) (s' : State) : Type 0 where
  pub given : List Answer
  pub words : List ℕ
  pub asked : List bench.Call
  pub replies : List bench.Reply
  pub turns : Turns calls given (take (parts_length calls) was) words asked replies
  pub run : bench.Run o s asked replies s'
  pub answers_told : answers' ≡ given ++ drop (length calls) answers
  pub words_written : is ≡ words ++ drop (parts_length calls) was

-- what is lent is long enough
pub record Enough (calls : List Call) (table_words : ℕ) (lent : Lent) : Type 0 where
  pub answers : length calls ≤ length lent.answers
  pub written : parts_length calls ≤ length lent.written
  pub in_force : table_words ≤ length lent.in_force
