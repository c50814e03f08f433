-- Ledgers: what words stand for, by the calls and the replies.
use Rattle.std.specs.Prelude.{ℕ, List, [], ◌∷◌, Some, None, Option}
use Rattle.format.specs.Policy.{Policy}
use Rattle.checking.specs.Checking.{Accepted}
use Rattle.weights.specs.Weights.{Ops}
use Rattle.meaning.specs.Decide.{choice, decide}
use Rattle.meaning.specs.Diagrams.{Diagram, weigh}
use Rattle.meaning.specs.Meanings.{Meaning, Means, IsUnion, IsSequence, IsStar}
use Rattle.faults.specs.declared.layers.BenchFault.{BenchFault}
use Rattle.stored.specs.Stored.{diagram}
use Rattle.steps.specs.States.{State}
use Rattle.steps.specs.Steps.{Call, Compile, Union, Sequence, Star, Install, Forward, Reply, Word, Installed, Written, Refused, Step}

-- words and what they stand for, the latest entry first, and what was last installed
pub record Ledger : Type 0 where
  pub entries : List (ℕ × Meaning)
  pub in_force : Meaning

-- as a bench is opened: no word has an entry, and until an install nothing is emitted
abbrev pub no_entries : Ops → Ledger
no_entries o = record { entries = []; in_force = λ s t. o.zero }

-- a held word's own walk through the stores
abbrev pub walk_of : Ops → Option Diagram → Meaning
walk_of o None = λ s t. o.zero
walk_of o (Some d) = weigh o d

-- the latest entry of the word, else m
abbrev pub latest : List (ℕ × Meaning) → ℕ → Meaning → Meaning
latest [] w m = m
latest (e ∷ es) w m = choice (decide e.0 w) e.1 (latest es w m)

-- what a word stands for
abbrev pub stands_for : Ops → State → Ledger → ℕ → Meaning
stands_for o s l w = latest l.entries w (walk_of o (diagram s.stored w))

abbrev pub entered : ℕ → Meaning → Ledger → Ledger
entered w m l = record { entries = (w, m) ∷ l.entries; in_force = l.in_force }

-- what a call in state s with this reply makes of the ledger
pub data Enters (o : Ops) (s : State) (l : Ledger) : Call → Reply → Ledger → Type 0 where
  by_compile : {ws : List ℕ} {p : Policy} {w : ℕ} {m : Meaning} → Accepted ws p → Means o p m →
      Enters o s l (Compile ws) (Word w) (entered w m l)
  by_union : {x y w : ℕ} {m : Meaning} → IsUnion o (stands_for o s l x) (stands_for o s l y) m → Enters o s l (Union x y) (Word w) (entered w m l)
  by_sequence : {x y w : ℕ} {m : Meaning} → IsSequence o (stands_for o s l x) (stands_for o s l y) m →
      Enters o s l (Sequence x y) (Word w) (entered w m l)
  by_star : {x w : ℕ} {m : Meaning} → IsStar o (stands_for o s l x) m → Enters o s l (Star x) (Word w) (entered w m l)
  by_install : {x n : ℕ} → Enters o s l (Install x) (Installed n) (record { entries = l.entries; in_force = stands_for o s l x })
  by_forward : {ws out : List ℕ} {n : ℕ} → Enters o s l (Forward ws n) (Written out) l
  by_refused : {c : Call} {f : BenchFault} → Enters o s l c (Refused f) l

-- a call that was made: its reply, and the state and the ledger before it and after it
pub record Event : Type 0 where
  pub call : Call
  pub reply : Reply
  pub found : State
  pub left : State
  pub before : Ledger
  pub after : Ledger

-- a chain of steps with a ledger of it, event by event: from this state and ledger to those
pub data Account (o : Ops) : State → Ledger → List Call → List Reply → List Event → State → Ledger → Type 0 where
  done : {s : State} {l : Ledger} → Account o s l [] [] [] s l
  next : {s m s' : State} {l k l' : Ledger} {c : Call} {cs : List Call} {r : Reply} {rs : List Reply} {es : List Event} →
      Step o s c r m → Enters o s l c r k → Account o m k cs rs es s' l' →
      Account o s l (c ∷ cs) (r ∷ rs) (record { call = c; reply = r; found = s; left = m; before = l; after = k } ∷ es) s' l'
