-- What a script comes to on a bench.
use Rattle.std.specs.Prelude.{◌≡◌, ℕ, ◌+◌, ◌-◌, ◌^◌, ◌<◌, ◌≤◌, min, List, length, map, Ok, Err, Result}
use Rattle.faults.specs.declared.layers.StoreFault.{StoreFault}
use Rattle.faults.specs.Lines.{refused_line}
use Rattle.faults.specs.Shows.{store_shown}
use Rattle.weights.specs.Weights.{Ops}
use Rattle.counts.specs.declared.memory.Sizes.{Sizes}
use Rattle.counts.specs.Memory.{Unfit}
use Rattle.pages.specs.Pages.{most, Printed}
use Rattle.calls.specs.declared.Call.{Call}
use Rattle.scripts.specs.Lines.{Asked, asked}
use Rattle.scripts.specs.Scripts.{script_said, frames_of, rooms_of}
use Rattle.series.specs.Series.{Lent, Performs}
use Rattle.series.specs.declared.ended.Ended.{Ended}
use Rattle.trials.specs.Records.{record_said, no_call_line}
use Rattle.trials.specs.declared.told.Told.{Told}
use Rattle.trials.specs.declared.told.Told.TheVariants.{Record, NoCall}
use Rattle.trials.specs.declared.told.Short.{Short}
use Rattle.trials.specs.declared.told.Short.TheVariants.{Calls, Words, Bytes}

-- a script has at most this many calls
abbrev pub calls_limit : ℕ
calls_limit = 1024

-- what is told of calls on a bench of these sizes: that a size is wrong, or what came of each and what the bench holds at the end
pub data Tells (o : Ops) (z : Sizes) (calls : List Call) : List ℕ → Type 0 where
  unfit : (f : StoreFault) → Unfit z f → Tells o z calls (refused_line (store_shown f))
  performed : (was is : Lent) (ended : Ended) → Performs o z calls was is ended → Tells o z calls (record_said calls is ended)

-- what is told of a script all of whose lines are calls, empty or remarks
pub record TellsScript (o : Ops) (z : Sizes) (script text : List ℕ) : Type 0 where
  pub calls : List Call
  pub read : script_said script ≡ Ok (map asked calls)
  pub tells : Tells o z calls text

-- so many words of memory are enough for a script's frames, for what it forwards and for the table
abbrev pub enough : List Asked → Sizes → ℕ
enough cs z = length (frames_of cs) + (rooms_of cs + z.table_words)

-- what a trial of a script answers, where so many words and this memory for the record were lent, and how it leaves that memory
pub data Tried (o : Ops) (z : Sizes) (script : List ℕ) (room : ℕ) (was : List ℕ) : Result Told Short → List ℕ → Type 0 where
  no_call : {line n : ℕ} {is : List ℕ} → script_said script ≡ Err line → Printed (no_call_line line) was (Ok n) is → Tried o z script room was (Ok (NoCall n)) is
  long_no_call : {line n : ℕ} {is : List ℕ} → script_said script ≡ Err line → Printed (no_call_line line) was (Err n) is → Tried o z script room was (Err (Bytes n)) is
  many : {cs : List Asked} → script_said script ≡ Ok cs → calls_limit < length cs → Tried o z script room was (Err (Calls (min most (length cs)))) was
  short : {cs : List Asked} → script_said script ≡ Ok cs → length cs ≤ calls_limit → room < enough cs z → Tried o z script room was (Err (Words (min most (enough cs z)))) was
  told : {text : List ℕ} {n : ℕ} {is : List ℕ} → TellsScript o z script text → Printed text was (Ok n) is → Tried o z script room was (Ok (Record n)) is
  long : {text : List ℕ} {n : ℕ} {is : List ℕ} → TellsScript o z script text → Printed text was (Err n) is → Tried o z script room was (Err (Bytes n)) is

-- how many bytes are told
abbrev pub told_length : Told → ℕ
told_length (Record n) = n
told_length (NoCall n) = n
