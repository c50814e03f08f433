-- The table of a held diagram, listed at the front of memory. Assumes nothing.
use Rattle.std.proofs.Common.{◌≡◌, ℕ, ◌<◌, List, ◌++◌, length, take, drop, min, Result, Ok, Err, Option, sym, refl, ap, ◌∙◌, subst, length-take, length-append, arith}
use Rattle.std.specs.Result.{IsErrAnd}
use Rattle.std.proofs.lemmas.List.{take-append-drop, take-append-le, drop-append-le}
use Rattle.format.specs.Words.{value_end}
use Rattle.faults.proofs.PassedOn.{passed_on}
use Rattle.faults.specs.declared.layers.StoreFault.{StoreFault}
use Rattle.faults.specs.declared.layers.TableFault.{TableFault}
use Rattle.faults.specs.declared.layers.TableFault.TheVariants.{Full}
use Rattle.faults.specs.declared.layers.BenchFault.{BenchFault}
use Rattle.faults.specs.declared.layers.BenchFault.TheVariants.{Store, Table}
use Rattle.weights.specs.Weights.{Ops}
use Rattle.tables.specs.Rows.{table_words}
use Rattle.listing.specs.Rows.{rows_of}
use Rattle.meaning.specs.Diagrams.{Diagram as MDiagram}
use Rattle.records.specs.declared.kinds.Diagram.{Diagram}
use Rattle.counts.specs.declared.counts.Counts.{Counts}
use Rattle.engine.specs.declared.memory.Stores.{Stores}
use Rattle.engine.specs.Contents.{contents}
use Rattle.stored.specs.Stored.{Holdings}
use Rattle.engine.specs.declared.memo.PackedEntry.{PackedEntry}
use Rattle.engine.specs.State.{state, diagram_of}
use Rattle.engine.specs.Listed.{AtFront, Tabulates, listed, not_held, too_long}
use Rattle.engine.specs.Views.{holdings, SoundEngine}
use Rattle.engine.proofs.Calls.{Operand, NoOperand, operand_held, operand_unheld, operand_formed}

-- a front written, and the rest as it was
module _ (was front : List ℕ) (room : ℕ) where
  abbrev is : List ℕ
  is = front ++ drop room was

  is_size : length front ≡ length (take room was) → length is ≡ length was
  is_size e = omega (arith, e, length-append front (drop room was), length-append (take room was) (drop room was), ap length (take-append-drop room was))

  at_front : (d : MDiagram) (n : ℕ) → AtFront d (take room was) n front → AtFront d was n is
  at_front d n h =
      record {
        within = omega (arith, h.within, length-take room was);
        table = take-append-le n front (drop room was) (omega (arith, h.within, h.size)) ∙ h.table;
        size = is_size h.size;
        past = drop-append-le n front (drop room was) (omega (arith, h.within, h.size)) ∙ (ap (λ (l : List ℕ). l ++ drop room was) h.past ∙ (sym (drop-append-le n (take room was) (drop room was) h.within) ∙ ap (λ (l : List ℕ). drop n l) (take-append-drop room was)));
      }

module _ {o : Ops} {m : Stores} {c : Counts} {l : List (Option PackedEntry)} (b : SoundEngine o m c l) {h : Holdings} (t : holdings m c ≡ h) {word : ℕ} where
  pub unheld_listed : {r : Result ℕ BenchFault} {f : StoreFault} (was : List ℕ) → IsErrAnd r (λ e. e ≡ Store f) → NoOperand c 0 word f → Tabulates o h.stored word was r was
  unheld_listed {r} was e k =
      subst (λ (g : Holdings). Tabulates o g.stored word was r was) t
      (subst (λ (x : Result ℕ BenchFault). Tabulates o (state (contents c m)) word was x was) (sym (passed_on e ∙ ap {B = Result ℕ BenchFault} (λ (f : StoreFault). Err (Store f)) k.0)) (not_held (operand_unheld b k)))

  module _ (v : Diagram) (p : Operand c word v) (was front : List ℕ) {room : ℕ} (k : room ≡ min (length was) value_end) where
    pub held_listed : {n : ℕ} → AtFront (diagram_of (state (contents c m)) v) (take room was) n front → Tabulates o h.stored word was (Ok n) (front ++ drop room was)
    held_listed {n} a =
        subst (λ (g : Holdings). Tabulates o g.stored word was (Ok n) (front ++ drop room was)) t
        (listed (operand_held b v p) (operand_formed b refl v p) (at_front was front room (diagram_of (state (contents c m)) v) n a))

    pub long_listed :
        {r : Result ℕ BenchFault} {f : TableFault} → IsErrAnd r (λ e. e ≡ Table f) → (f ≡ Full) × (length (take room was) < length (table_words (rows_of (diagram_of (state (contents c m)) v)))) × (front ≡ take room was) →
        Tabulates o h.stored word was r (front ++ drop room was)
    long_listed {r} e (i, j, q) =
        subst (λ (g : Holdings). Tabulates o g.stored word was r (front ++ drop room was)) t
        (subst (λ (x : Result ℕ BenchFault). Tabulates o (state (contents c m)) word was x (front ++ drop room was)) (sym (passed_on e ∙ ap {B = Result ℕ BenchFault} (λ (f : TableFault). Err (Table f)) i))
        (subst (λ (ws : List ℕ). Tabulates o (state (contents c m)) word was (Err (Table Full)) ws) (sym (ap (λ (ws : List ℕ). ws ++ drop room was) q ∙ take-append-drop room was))
        (too_long (operand_held b v p) (omega (arith, j, k, length-take room was)))))
