-- The table of a held diagram put in force. Assumes nothing.
use Rattle.std.proofs.Common.{◌≡◌, ℕ, ◌≤◌, List, length, take, Result, Ok, Err, sym, refl, ap, subst, length-take, arith}
use Rattle.std.specs.Result.{IsErrAnd}
use Rattle.faults.proofs.PassedOn.{passed_on}
use Rattle.format.specs.Words.{value_end}
use Rattle.faults.specs.declared.layers.BenchFault.{BenchFault}
use Rattle.weights.specs.Weights.{Ops}
use Rattle.tables.specs.Rows.{LegalTable, LegalRows, table_words}
use Rattle.listing.specs.Rows.{rows_of}
use Rattle.meaning.specs.Diagrams.{Diagram, Formed}
use Rattle.stored.specs.Stored.{Stored, Holdings}
use Rattle.engine.specs.Listed.{Tabulates, listed as was_listed, not_held as was_not_held, too_long as was_too_long}
use Rattle.steps.specs.States.{State}
use Rattle.steps.specs.Steps.{Install, Installed, Step, refused, installed, not_held, table_full, install_operand}
use Rattle.steps.proofs.Law.{table_legal}
use Rattle.bench.specs.Views.{state_of, SoundTable}
use Rattle.bench.specs.Replies.{install_reply}
use Rattle.bench.specs.Installs.{Installs, in_force, unheld, too_long}

put_room : (d : Diagram) (is : List ℕ) (n : ℕ) → n ≤ length is → take n is ≡ table_words (rows_of d) → length (table_words (rows_of d)) ≤ length is
put_room d is n h e = let a = ap length e in let b = length-take n is in omega (arith, a, b, h)

rows_legal : (o : Ops) (d : Diagram) (is : List ℕ) (n : ℕ) → Formed o d → length is ≤ value_end → n ≤ length is → take n is ≡ table_words (rows_of d) → LegalRows o (rows_of d)
rows_legal o d is n f k h e = table_legal o d (length is) f (put_room d is n h e) k

-- the listing, from the first m words in force

module _ {o : Ops} {s : Stored} {word : ℕ} {was : List ℕ} (small : length was ≤ value_end) where
  pub table_listed : {n : ℕ} {is : List ℕ} → Tabulates o s word was (Ok n) is → (n ≤ length is) × LegalTable o (take n is)
  table_listed {n} {is} (was_listed {d = d} e f a) =
      let w : n ≤ length is = omega (arith, a.within, a.size) in
      (w, (rows_of d, rows_legal o d is n f (omega (arith, small, a.size)) w a.table, a.table))

  pub now_in_force : (m : ℕ) {n : ℕ} {is : List ℕ} → Tabulates o s word was (Ok n) is → Installs o s word was m (Ok n) is n
  now_in_force m (was_listed e f a) = in_force e f a.size (omega (arith, a.within, a.size)) a.table

  left_in_force : (r : Result ℕ BenchFault) (m : ℕ) {g : BenchFault} {is : List ℕ} → r ≡ Err g → Tabulates o s word was (Err g) is → Installs o s word was m r is m
  left_in_force r m i (was_not_held e) = subst (λ (x : Result ℕ BenchFault). Installs o s word was m x was m) (sym i) (unheld e)
  left_in_force r m i (was_too_long {d = d} e l) = subst (λ (x : Result ℕ BenchFault). Installs o s word was m x was m) (sym i) (too_long e (omega (arith, l, small)))

  pub still_in_force : (r : Result ℕ BenchFault) (m : ℕ) {g : BenchFault} {is : List ℕ} → IsErrAnd r (λ e. e ≡ g) → Tabulates o s word was (Err g) is → Installs o s word was m r is m
  still_in_force r m i t = left_in_force r m (passed_on i) t

pub unchanged : {o : Ops} {s : Stored} {word : ℕ} {was : List ℕ} {g : BenchFault} {is : List ℕ} → Tabulates o s word was (Err g) is → is ≡ was
unchanged (was_not_held e) = refl
unchanged (was_too_long e l) = refl

-- the bench afterwards

module _ {o : Ops} {s : Stored} {word : ℕ} where
  pub table_sound : {ws is : List ℕ} {n k : ℕ} {r : Result ℕ BenchFault} → SoundTable o ws n → Installs o s word ws n r is k → SoundTable o is k
  table_sound {ws = ws} {is = is} {k = k} t (in_force {d = d} e f z w b) =
      record {
        lists = record { listed = d; formed = f; legal = rows_legal o d is k f (omega (arith, t.countable, z)) w b; words = b };
        countable = omega (arith, t.countable, z);
      }
  table_sound t (unheld e) = t
  table_sound t (too_long e l) = t

module _ {o : Ops} {h : Holdings} {word : ℕ} where
  install_step : {ws is : List ℕ} {n k : ℕ} {r : Result ℕ BenchFault} → Installs o h.stored word ws n r is k → Step o (state_of h ws n) (Install word) (install_reply r) (state_of h is k)
  install_step {ws = ws} {is = is} {n = n} {k = k} (in_force {d = d} e f s w b) =
      subst (λ (m : ℕ). Step o (state_of h ws n) (Install word) (Installed m) (state_of h is k)) count
      (subst (λ (t : State). Step o (state_of h ws n) (Install word) (Installed (length (table_words (rows_of d)))) t) (λ i. record { stored = h.stored; rooms = h.rooms; table = sym b i; table_room = sym s i })
      (installed e (omega (arith, put_room d is k w b, s))))
    where
      count : length (table_words (rows_of d)) ≡ k
      count = let a = ap length b in let c = length-take k is in omega (arith, a, c, w)
  install_step (unheld e) = refused (not_held (install_operand e))
  install_step (too_long e l) = refused (table_full e l)

  pub installs : {ws is : List ℕ} {n k : ℕ} {r : Result ℕ BenchFault} {s : State} → state_of h ws n ≡ s → Installs o h.stored word ws n r is k → Step o s (Install word) (install_reply r) (state_of h is k)
  installs {is = is} {k = k} {r = r} e i = subst (λ (t : State). Step o t (Install word) (install_reply r) (state_of h is k)) e (install_step i)
