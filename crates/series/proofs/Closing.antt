-- The end of a series on a bench that was opened. Assumes nothing.
use Rattle.std.proofs.Common.{◌≡◌, ℕ, ◌≤◌, List, [], ◌∷◌, length, refl, sym, ◌∙◌, subst, arith}
use Rattle.weights.specs.Weights.{Ops, Laws}
use Rattle.counts.specs.declared.memory.Sizes.{Sizes}
use Rattle.counts.specs.Memory.{AllFit}
use Rattle.steps.specs.States.{State, opened}
use Rattle.steps.specs.Steps as bench
use Rattle.steps.proofs.Performing.{every_series}
use Rattle.calls.specs.declared.Call.{Call}
use Rattle.series.specs.declared.answers.Answer.{Answer}
use Rattle.series.specs.declared.ended.Ended.{Ended}
use Rattle.series.specs.Series.{Ends, Performs}
use Rattle.series.specs.Turns.{Went}

step_room : (o : Ops) (s : State) (c : bench.Call) (r : bench.Reply) (s' : State) → bench.Step o s c r s' → length s.table ≤ s.table_room → (length s'.table ≤ s'.table_room) × (s'.table_room ≡ s.table_room)
step_room o s c r _ (bench.refused k) h = (h, refl)
step_room o s c r _ (bench.built k x) h = (h, refl)
step_room o s c r _ (bench.installed k x) h = (x, refl)
step_room o s c r _ (bench.sent k x) h = (h, refl)

-- the table in force fits its memory, whose size stays
run_room :
    (o : Ops) (s : State) (cs : List bench.Call) (rs : List bench.Reply) (s' : State) → bench.Run o s cs rs s' → length s.table ≤ s.table_room →
    (length s'.table ≤ s'.table_room) × (s'.table_room ≡ s.table_room)
run_room o s [] [] s' k h = subst (λ (x : State). (length x.table ≤ x.table_room) × (x.table_room ≡ s.table_room)) (sym k) (h, refl)
run_room o s [] (r ∷ rs) s' k h = absurd k
run_room o s (c ∷ cs) [] s' k h = absurd k
run_room o s (c ∷ cs) (r ∷ rs) s' k h =
    let a = step_room o s c r k.0 k.1 h in
    let b = run_room o k.0 cs rs s' k.2 a.0 in
    (b.0, b.1 ∙ a.1)

-- no table in force is longer than its memory
pub table_fits :
    (o : Ops) (z : Sizes) (s : State) (cs : List bench.Call) (rs : List bench.Reply) (s' : State) → AllFit z → s ≡ opened z → bench.Run o s cs rs s' →
    length s'.table ≤ z.table_words
table_fits o z s cs rs s' h e k =
    let a = run_room o (opened z) cs rs s' (subst (λ (x : State). bench.Run o x cs rs s') e k) h.table_fits.0 in
    omega (arith, a.0, a.1)

-- a series on a bench that was opened
pub performs :
    (o : Ops) → Laws o → (z : Sizes) (s : State) (calls : List Call) (A A' : List Answer) (W W' T T' : List ℕ) (last : State) (ended : Ended) →
    AllFit z → s ≡ opened z → Went o s calls A A' W W' last → Ends last ended T T' →
    Performs o z calls (record { answers = A; written = W; in_force = T }) (record { answers = A'; written = W'; in_force = T' }) ended
performs o L z s calls A A' W W' T T' last ended h e w k =
    record {
      answers = w.given;
      words = w.words;
      asked_of_bench = w.asked;
      replies = w.replies;
      last = last;
      turns = w.turns;
      performed = every_series o L z h w.asked w.replies last (subst (λ (x : State). bench.Run o x w.asked w.replies last) e w.run);
      answers_told = w.answers_told;
      words_written = w.words_written;
      ends = k;
    }
