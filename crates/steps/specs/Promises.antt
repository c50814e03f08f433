-- What the law promises of words, of frames and of what is in store.
use Rattle.std.specs.Prelude.{◌≡◌, ℕ, ◌<◌, ◌≤◌, ◌≢◌, ◌*◌, List, [], ◌∷◌, map, Some, length}
use Rattle.std.specs.List.{flat_map}
use Rattle.faults.specs.declared.layers.FrameFault.TheVariants.{NoRoom}
use Rattle.faults.specs.declared.layers.BenchFault.TheVariants as fault
use Rattle.frames.specs.Frames.{frame_words}
use Rattle.weights.specs.Weights.{Ops}
use Rattle.tables.specs.Emits.{Sent, sent_words, sent_length, Ascending, In}
use Rattle.meaning.specs.Leaves.{Frame, Each}
use Rattle.meaning.specs.Diagrams.{Diagram, weigh}
use Rattle.meaning.specs.Frames.{InRange}
use Rattle.meaning.specs.Meanings.{Meaning, Alike}
use Rattle.requests.specs.Requests.{Request}
use Rattle.stored.specs.Stored.{diagram, Grown}
use Rattle.steps.specs.States.{State}
use Rattle.steps.specs.Steps.{Call, Forward, Reply, Written, Refused, Builds, Step}
use Rattle.steps.specs.Ledgers.{stands_for, Event}

-- w is in state s the word of the diagram that the rules give for the call, whose weights are what the answer stands for
pub record ItsWord (o : Ops) (e : Event) (w : ℕ) (s : State) : Type 0 where
  pub given : Diagram
  pub asks : List Request
  pub by_the_rules : Builds o e.found.stored e.call given asks
  pub its_word : diagram s.stored w ≡ Some given
  pub weighs : Alike (weigh o given) (stands_for o e.left e.after w)

-- exactly the frames to which m gives frame v a weight that is not zero, with it, ascending and so each once
pub record Emits (o : Ops) (m : Meaning) (v : Frame) (sent : List Sent) : Type 0 where
  pub ascending : Ascending (map (λ x. x.frame) sent)
  pub sound : (x : Sent) → In x sent → InRange x.frame × (x.weight ≡ m v x.frame) × (x.weight ≢ o.zero)
  pub complete : (t : Frame) → InRange t → (m v t ≢ o.zero) → In (record { frame = t; weight = m v t }) sent

-- the call gets this reply and no other, and changes nothing
pub record OnlyReply (o : Ops) (s : State) (c : Call) (r : Reply) : Type 0 where
  pub step : Step o s c r s
  pub only : (q : Reply) (s' : State) → Step o s c q s' → (q ≡ r) × (s' ≡ s)

-- frame v in state s, where m is in force: forwarded if memory has nine words for each frame emitted, else refused
pub record Forwards (o : Ops) (s : State) (m : Meaning) (v : Frame) : Type 0 where
  pub emitted : List Sent
  pub emits : Emits o m v emitted
  pub one_list : (others : List Sent) → Emits o m v others → others ≡ emitted
  pub fits : (n : ℕ) → sent_length * length emitted ≤ n → OnlyReply o s (Forward (frame_words v) n) (Written (flat_map sent_words emitted))
  pub short : (n : ℕ) → n < sent_length * length emitted → OnlyReply o s (Forward (frame_words v) n) (Refused (fault.Frame NoRoom))

-- records of state s keep their numbers, and words what they are the words of
pub record Keeps (s s' : State) : Type 0 where
  pub records : Grown s.stored s'.stored
  pub words : (w : ℕ) (d : Diagram) → diagram s.stored w ≡ Some d → diagram s'.stored w ≡ Some d

-- in each state on the way and in the last everything that was held before is kept
abbrev pub Stays : List Event → State → Type 0
Stays [] last = Unit {0}
Stays (e ∷ es) last = Each (λ later. Keeps e.found later.found) es × Keeps e.found last × Stays es last
