-- The whole record.
use Rattle.std.proofs.Common.{◌≡◌, ℕ, ◌+◌, ◌*◌, ◌≤◌, min, List, [], ◌++◌, length, drop, Ok, Err, refl, sym, subst, arith}
use native.Mathlib.Decide.{dec_le}
use Rattle.std.proofs.lemmas.List.{take-append-drop}
use Rattle.faults.specs.Lines.{refused_line}
use Rattle.faults.specs.Shows.{table_shown}
use Rattle.faults.specs.declared.layers.TableFault.{TableFault}
use Rattle.faults.specs.declared.layers.TableFault.TheVariants.{Illegal, Full}
use Rattle.weights.specs.Weights.{Ops}
use Rattle.tables.specs.Checking.{Stops}
use Rattle.tables.specs.Rows.{LegalTable}
use Rattle.tables.specs.Emits.{sent_length}
use Rattle.pages.specs.declared.page.Page.{Page}
use Rattle.pages.specs.Pages.{most, Says, SaysSome, Answered}
use Rattle.pages.proofs.Saying.{◌>>◌}
use Rattle.replays.specs.Bytes.{words_of}
use Rattle.replays.specs.Memory.{wanted, enough, LinesLength}
use Rattle.replays.specs.Replays.{FramesSaid, LinesBehind}

-- the first lines and then the frames
pub recorded :
    {p q r : Page} (o : Ops) (first table frames : List ℕ) (room : ℕ) (legal : LegalTable o table) →
    room ≡ length table * sent_length →
    Says p first q →
    SaysSome (FramesSaid o legal.0 room frames) q r →
    SaysSome (LinesBehind o first table frames) p r
recorded o first table frames room legal e s (said, holds, t) =
    let P : ℕ → Type 0 = λ n. FramesSaid o legal.0 n frames said
    in (first ++ said, LinesBehind.replayed legal.0 said legal.1 legal.2 (subst P e holds), s >> t)

-- the place where a table is refused
abbrev pub RefusedAt : Ops → List ℕ → TableFault → Type 0
RefusedAt o ws fault = elim fault [ Illegal i ↦ Stops o ws i | Full ↦ ⊥ ]

pub table_refused :
    {p q : Page} (o : Ops) (first table frames : List ℕ) (fault : TableFault) →
    RefusedAt o table fault →
    Says p (refused_line (table_shown fault)) q →
    SaysSome (LinesBehind o first table frames) p q
table_refused o first table frames (Illegal i) stops s = (refused_line (table_shown (Illegal i)), LinesBehind.no_table i stops, s)
table_refused o first table frames Full stops s = absurd stops

-- a legal table is not refused
pub refused_not_legal : (o : Ops) (table : List ℕ) (fault : TableFault) → RefusedAt o table fault → LegalTable o table → ⊥
refused_not_legal o table (Illegal i) stops legal = elim (dec_le (i + 1) (length table)) [
  | yes h ↦ stops.stuck (omega arith) (drop (i + 1) table) (subst (LegalTable o) (sym (take-append-drop (i + 1) table)) legal)
  | no h ↦ stops.early (omega (arith, stops.within)) legal
]
refused_not_legal o table Full stops legal = stops

-- what was said, by what the page answers
pub said_all : {said room n : ℕ} → Answered said room (Ok n) → said ≡ n
said_all (Answered.all h) = refl

pub said_part : {said room n : ℕ} → Answered said room (Err n) → said ≡ n
said_part (Answered.part h) = refl

-- the length of what is said on a page of its own
pub measured :
    {o : Ops} (table frames : List ℕ) {room n : ℕ} {p q : Page} →
    wanted table frames ≤ room →
    (LegalTable o (words_of table) → enough table frames ≤ room) →
    p.said ≡ 0 →
    SaysSome (LinesBehind o [] (words_of table) (words_of frames)) p q →
    q.said ≡ n →
    LinesLength o table frames room n
measured {o} table frames {room} {n} wants legal blank (text, holds, says) same =
    let count : min most (length text) ≡ n = omega (arith, says.count, blank, same)
    in subst (LinesLength o table frames room) count (LinesLength.measured wants legal holds)
