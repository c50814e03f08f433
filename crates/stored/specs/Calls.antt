-- The calls of a bench, and what those that construct a diagram do to the stores.
use Rattle.std.specs.Prelude.{◌≡◌, ℕ, List, Some, None, Result, Ok, Err}
use Rattle.format.specs.Policy.{Policy}
use Rattle.checking.specs.Checking.{Accepted}
use Rattle.weights.specs.Weights.{Ops}
use Rattle.faults.specs.declared.layers.StoreFault.{StoreFault}
use Rattle.faults.specs.declared.layers.StoreFault.TheVariants.{Full, NotHeld}
use Rattle.meaning.specs.Diagrams.{Diagram}
use Rattle.requests.specs.Requests.{Request}
use Rattle.requests.specs.Rules.{Joins, Sequences, Stars, Compiled}
use Rattle.stored.specs.Stored.{Stored, Holdings, diagram}
use Rattle.stored.specs.Grows.{Grows, Over, size}

pub data Call : Type 0 where
  -- the words of a checked policy
  Compile : List ℕ → Call
  Union : ℕ → ℕ → Call
  Sequence : ℕ → ℕ → Call
  Star : ℕ → Call
  Install : ℕ → Call
  -- the frame's words, and how many words of memory there are
  Forward : List ℕ → ℕ → Call

-- the diagram that the constructions give for a call, and every record that they request
pub data Builds (o : Ops) (s : Stored) : Call → Diagram → List Request → Type 0 where
  of_policy :
      {ws : List ℕ} {p : Policy} {r : Diagram} {asks : List Request} → Accepted ws p → Compiled o p r asks → Builds o s (Compile ws) r asks
  of_union :
      {x y : ℕ} {d e r : Diagram} {asks : List Request} →
      diagram s x ≡ Some d →
      diagram s y ≡ Some e →
      Joins o d e r asks →
      Builds o s (Union x y) r asks
  of_sequence :
      {x y : ℕ} {d e r : Diagram} {asks : List Request} →
      diagram s x ≡ Some d →
      diagram s y ≡ Some e →
      Sequences o e d r asks →
      Builds o s (Sequence x y) r asks
  of_star : {x : ℕ} {d r : Diagram} {asks : List Request} → diagram s x ≡ Some d → Stars o d r asks → Builds o s (Star x) r asks

-- the call's operand at this place is the first that is not held
pub data Unheld (s : Stored) : Call → ℕ → Type 0 where
  union_first : {x y : ℕ} → diagram s x ≡ None → Unheld s (Union x y) 0
  union_second : {x y : ℕ} {d : Diagram} → diagram s x ≡ Some d → diagram s y ≡ None → Unheld s (Union x y) 1
  sequence_first : {x y : ℕ} → diagram s x ≡ None → Unheld s (Sequence x y) 0
  sequence_second : {x y : ℕ} {d : Diagram} → diagram s x ≡ Some d → diagram s y ≡ None → Unheld s (Sequence x y) 1
  star_operand : {x : ℕ} → diagram s x ≡ None → Unheld s (Star x) 0
  install_operand : {x : ℕ} → diagram s x ≡ None → Unheld s (Install x) 0

-- what a call that constructs answers in these stores, and the stores after it; a refusal changes nothing
pub data Constructs (o : Ops) (h : Holdings) (c : Call) : Result ℕ StoreFault → Holdings → Type 0 where
  built :
      {r : Diagram} {asks : List Request} {w : ℕ} {m : Stored} →
      Builds o h.stored c r asks →
      Grows h.rooms h.stored asks r w m →
      Constructs o h c (Ok w) (record { stored = m; rooms = h.rooms })
  full : {r : Diagram} {asks : List Request} → Builds o h.stored c r asks → Over (size h.rooms) h.stored asks → Constructs o h c (Err Full) h
  not_held : {place : ℕ} → Unheld h.stored c place → Constructs o h c (Err (NotHeld place)) h
