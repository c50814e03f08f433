-- The law of every series of calls.
use Rattle.std.specs.Prelude.{◌≡◌, ℕ, ◌↔◌, List}
use Rattle.weights.specs.Weights.{Ops, Laws}
use Rattle.weights.specs.Order.{In}
use Rattle.meaning.specs.Leaves.{Frame}
use Rattle.meaning.specs.Frames.{InRange}
use Rattle.meaning.specs.Meanings.{Alike}
use Rattle.faults.specs.declared.layers.BenchFault.{BenchFault}
use Rattle.counts.specs.declared.memory.Sizes.{Sizes}
use Rattle.counts.specs.Memory.{AllFit}
use Rattle.steps.specs.States.{State, opened}
use Rattle.steps.specs.Steps.{Call, Reply, Word, Refused, Refuses, Run}
use Rattle.steps.specs.Ledgers.{Ledger, no_entries, stands_for, Event, Account}
use Rattle.steps.specs.Promises.{ItsWord, Forwards, Stays}

pub record Law (o : Ops) (events : List Event) (last : State) (ledger : Ledger) : Type 0 where
  -- a call gets this refusal exactly if this condition of the table of faults holds for it, and none that is judged before
  pub refusals : (e : Event) (f : BenchFault) → In e events → (e.reply ≡ Refused f) ↔ Refuses o e.found e.call f
  -- each answer that gave a word, early or late
  pub words : (e : Event) (w : ℕ) → In e events → e.reply ≡ Word w → ItsWord o e w last
  -- any two are the same word exactly if by their entries, then the latest, they stand for the same weights of all frames
  pub equal_exactly : (e e' : Event) (w w' : ℕ) → In e events → In e' events → e.reply ≡ Word w → e'.reply ≡ Word w' →
      (w ≡ w') ↔ Alike (stands_for o e.left e.after w) (stands_for o e'.left e'.after w')
  -- every frame is forwarded by what was installed last, whenever it is: on the way, and next
  pub forwards : (e : Event) (v : Frame) → In e events → InRange v → Forwards o e.found e.before.in_force v
  pub forwards_next : (v : Frame) → InRange v → Forwards o last ledger.in_force v
  pub stays : Stays events last

-- the calls with these replies are a chain of steps, and the law holds of it
pub record Performed (o : Ops) (first : State) (calls : List Call) (replies : List Reply) (last : State) : Type 0 where
  pub run : Run o first calls replies last
  -- there is a ledger of it
  pub accounted : (es : List Event) × (l : Ledger) × Account o first (no_entries o) calls replies es last l
  -- the law holds of every one
  pub law : (es : List Event) (l : Ledger) → Account o first (no_entries o) calls replies es last l → Law o es last l
  -- and any two say the same of every word and of what is in force
  pub one_ledger : (es es' : List Event) (l l' : Ledger) →
      Account o first (no_entries o) calls replies es last l → Account o first (no_entries o) calls replies es' last l' →
      ((w : ℕ) → Alike (stands_for o last l w) (stands_for o last l' w)) × Alike l.in_force l'.in_force

-- for every lawful kind of weight, all memories that fit, and every chain of steps
abbrev pub EverySeriesFollowsTheLaw : Type 0
EverySeriesFollowsTheLaw = (o : Ops) → Laws o → (z : Sizes) → AllFit z →
    (cs : List Call) (rs : List Reply) (s : State) → Run o (opened z) cs rs s → Performed o (opened z) cs rs s
