-- Frames forwarded through the table in force. Assumes nothing.
use Rattle.std.proofs.Common.{◌≡◌, ℕ, ◌≤◌, ◌+◌, List, length, take, drop, Result, Ok, Err, sym, ap, subst, arith}
use Rattle.std.specs.Result.{IsErrAnd}
use Rattle.std.proofs.lemmas.List.{take-append-drop}
use Rattle.faults.proofs.PassedOn.{passed_on}
use Rattle.faults.specs.declared.layers.FrameFault.{FrameFault}
use Rattle.faults.specs.declared.layers.BenchFault.{BenchFault}
use Rattle.faults.specs.declared.layers.BenchFault.TheVariants.{Frame}
use Rattle.weights.specs.Weights.{Ops}
use Rattle.tables.specs.Rows.{Row, LegalTable, OfItsRows}
use Rattle.tables.specs.Checking.{Stops}
use Rattle.tables.specs.Forwards.{Answered, Refused as FrameRefused}
use Rattle.listing.specs.Rows.{rows_of}
use Rattle.meaning.specs.Decide.{decide}
use Rattle.steps.specs.States.{State, TableOf}
use Rattle.steps.specs.Steps.{Forward, Written, Refused, Sends, Step, sent, refused, no_frame}
use Rattle.steps.specs.Sound.{Lists}
use Rattle.bench.specs.Replies.{forward_reply, frame_reply}
use Rattle.bench.specs.Reading.{PassesTheCheck, TableAnswers, ForwardsAlike}

table_of : {o : Ops} {table : List ℕ} (l : Lists o table) → TableOf o table (rows_of l.listed)
table_of l = record { legal = l.legal; words = l.words }

sends : {o : Ops} (rows : List Row) (ws was is : List ℕ) (n : ℕ) → n ≤ length was → Answered o rows ws was n is → Sends o rows ws (length was) (take n is)
sends rows ws was is n h (v, a, b, w) =
    record { frame = v; is_frame = a; its_words = b; answer = w.answer; right = w.right; written = w.front; fit = let x = ap length w.front in let y = w.count in omega (arith, x, y, h) }

module _ {o : Ops} {s : State} (l : Lists o s.table) (frame : List ℕ) where
  sent_step : (was is : List ℕ) (n : ℕ) → n ≤ length was → OfItsRows o s.table (λ rows. Answered o rows frame was n is) → Step o s (Forward frame (length was)) (Written (take n is)) s
  sent_step was is n h k = sent (table_of l) (sends (rows_of l.listed) frame was is n h (k (rows_of l.listed) l.legal l.words))

  fault_step : (n : ℕ) (f : FrameFault) → OfItsRows o s.table (λ rows. FrameRefused o rows frame n f) → Step o s (Forward frame n) (Refused (Frame f)) s
  fault_step n f k = refused (no_frame (table_of l) (k (rows_of l.listed) l.legal l.words))

  pub answers_step : (was is : List ℕ) (r : Result ℕ FrameFault) → TableAnswers o s.table frame was r is → Step o s (Forward frame (length was)) (frame_reply r is) s
  answers_step was is (Ok n) k =
      let a = k (rows_of l.listed) l.legal l.words in
      sent (table_of l) (sends (rows_of l.listed) frame was is n a.0 a.1)
  answers_step was is (Err f) k = fault_step (length was) f k

  -- the same of a table of these words
  module _ {t : State} {words : List ℕ} (e : words ≡ s.table) (v : s ≡ t) where
    pub forwarded : (was is : List ℕ) (n : ℕ) → n ≤ length was → OfItsRows o words (λ rows. Answered o rows frame was n is) → Step o t (Forward frame (length was)) (Written (take n is)) t
    forwarded was is n h k =
        subst (λ (x : State). Step o x (Forward frame (length was)) (Written (take n is)) x) v
        (sent_step was is n h (subst (λ (ws : List ℕ). OfItsRows o ws (λ rows. Answered o rows frame was n is)) e k))

    pub fault_forwarded : (out : List ℕ) (n : ℕ) (f : FrameFault) (r : Result ℕ BenchFault) → IsErrAnd r (λ e. e ≡ Frame f) → OfItsRows o words (λ rows. FrameRefused o rows frame n f) → Step o t (Forward frame n) (forward_reply r out) t
    fault_forwarded out n f r i k =
        subst (λ (x : State). Step o x (Forward frame n) (forward_reply r out) x) v
        (subst (λ (x : Result ℕ BenchFault). Step o s (Forward frame n) (forward_reply x out) s) (sym (passed_on i))
        (fault_step n f (subst (λ (ws : List ℕ). OfItsRows o ws (λ rows. FrameRefused o rows frame n f)) e k)))

no_stop : (o : Ops) (ws : List ℕ) → LegalTable o ws → (i : ℕ) → Stops o ws i → ⊥
no_stop o ws l i s = go (decide i (length ws))
  where
    go : Dec (i ≡ length ws) → ⊥
    go (yes e) = s.early e l
    go (no n) = s.stuck (omega (arith, s.within, n)) (drop (i + 1) ws) (subst (LegalTable o) (sym (take-append-drop (i + 1) ws)) l)

pub table_passes : {o : Ops} {s t : State} → Lists o s.table → s ≡ t → PassesTheCheck o t.table
table_passes {o} {s} {t} l v = subst (λ (x : State). PassesTheCheck o x.table) v (legal, no_stop o s.table legal)
  where
    legal : LegalTable o s.table
    legal = (rows_of l.listed, l.legal, l.words)

pub table_forwards : {o : Ops} {s t : State} → Lists o s.table → s ≡ t → ForwardsAlike o t
table_forwards {o} {s} {t} l v = subst (ForwardsAlike o) v (λ frame was is r k. answers_step l frame was is r k)
