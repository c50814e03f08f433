-- What a memo remembers. It serves proofs alone: what the engine promises is in Views, Listed and what they cite.
use Rattle.std.specs.Prelude.{◌≡◌, ℕ, ◌≤◌, ◌⊎◌, List, length, Some, Option}
use Rattle.std.specs.List.{slice_get}
use Rattle.weights.specs.Weights.{Ops}
use Rattle.meaning.specs.Leaves.{Each}
use Rattle.meaning.specs.Diagrams.{Diagram as MDiagram}
use Rattle.requests.specs.Requests.{Request}
use Rattle.requests.specs.Rules.{Narrows, Joins, Chooses, Prefixes, Sequences, Negates}
use Rattle.requests.specs.Claims.{Construction}
use Rattle.requests.specs.Again.{RecordRemade}
use Rattle.records.specs.declared.kinds.Diagram.{Diagram}
use Rattle.records.specs.Words.{word_of}
use Rattle.engine.specs.declared.memo.Entry.{Entry}
use Rattle.engine.specs.declared.memo.PackedEntry.{PackedEntry}
use Rattle.engine.specs.State.{State, Names, Present, Has, diagram_of}
use Rattle.engine.specs.Cells.{action_at, LeavesFormed}
use Rattle.engine.specs.declared.memo.Operation.{Operation}
use Rattle.engine.specs.declared.memo.Operation.TheVariants.{Narrow, Join, Choose, Prefix, Sequence, Not}

abbrev pub packed_entry : Entry → PackedEntry
packed_entry e = record { operation = e.operation; left = word_of e.left; right = word_of e.right; result = word_of e.result }

-- the entry lies in a place of the memo
abbrev pub Written : List (Option PackedEntry) → Entry → Type 0
Written l e = (i : ℕ) × (slice_get l i ≡ Some (Some (packed_entry e)))

-- the construction that an entry stands for
abbrev pub asked_for : Ops → State → Operation → Diagram → Diagram → Construction
asked_for o s (Narrow t) v w = Narrows o (diagram_of s v) t.field t.value
asked_for o s Join v w = Joins o (diagram_of s v) (diagram_of s w)
asked_for o s (Choose t) v w = Chooses o t.field t.value (diagram_of s v) (diagram_of s w)
asked_for o s (Prefix a m) v w = Prefixes o (action_at s a.number) m.number (diagram_of s v)
asked_for o s Sequence v w = Sequences o (diagram_of s w) (diagram_of s v)
asked_for o s Not v w = Negates o (diagram_of s v)

-- what an operation names is in store
abbrev pub Fits : State → Operation → Type 0
Fits s (Narrow t) = Unit {0}
Fits s Join = Unit {0}
Fits s (Choose t) = Unit {0}
Fits s (Prefix a m) = a.number ≤ length s.actions
Fits s Sequence = Unit {0}
Fits s Not = Unit {0}

-- the construction of the operands gives what the result stands for, and all that it requests is in store
pub record Remembered (o : Ops) (s : State) (e : Entry) : Type 0 where
  pub fits : Fits s e.operation
  pub left_present : Present s e.left
  pub right_present : Present s e.right
  pub out : MDiagram
  pub result_names : Names s e.result out
  pub asks : List Request
  pub by_the_rules : asked_for o s e.operation e.left e.right out asks
  pub held : Each (Has s) asks

abbrev pub NothingWritten : List (Option PackedEntry) → Type 0
NothingWritten l = (e : Entry) → Written l e → ⊥

-- every node in store is made again of what is in store
abbrev pub AllRemade : Ops → State → Type 0
AllRemade o s = (q : Request) → Has s q → RecordRemade o (Has s) q

-- the leaves in store are well-formed, each entry is remembered, and the nodes are made again
abbrev pub Remembers : Ops → State → List (Option PackedEntry) → Type 0
Remembers o s l = LeavesFormed o s × ((e : Entry) → Written l e → Remembered o s e) × AllRemade o s

abbrev pub Noted : List (Option PackedEntry) → Entry → List (Option PackedEntry) → Type 0
Noted l e l' = (f : Entry) → Written l' f → Written l f ⊎ (f ≡ e)

pub record Recalled (l : List (Option PackedEntry)) (operation : Operation) (left right w : Diagram) : Type 0 where
  pub entry : Entry
  pub written : Written l entry
  pub its_operation : entry.operation ≡ operation
  pub its_left : entry.left ≡ left
  pub its_right : entry.right ≡ right
  pub its_result : entry.result ≡ w
