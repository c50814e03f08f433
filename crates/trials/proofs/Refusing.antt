-- Why no calls were performed.
use Rattle.std.proofs.Common.{◌≡◌, ℕ, ◌<◌, ◌≤◌, List, length, refl, sym, ap, ◌∙◌, subst, arith}
use Rattle.faults.specs.declared.layers.StoreFault.{StoreFault}
use Rattle.counts.specs.declared.memory.Sizes.{Sizes}
use Rattle.counts.specs.Memory.{Unfit}
use Rattle.calls.specs.declared.Call.{Call}
use Rattle.series.specs.Calls.{parts_length}
use Rattle.series.specs.Series.{Lent, Unperformed, memory, lent, TooShort, answers, written, in_force}
use Rattle.series.specs.declared.fault.SeriesFault.{SeriesFault}
use Rattle.series.specs.declared.fault.SeriesFault.TheVariants.{Memory, Answers, Written, InForce}

long_enough : {calls : List Call} {n : ℕ} {l : Lent} {f : SeriesFault} → TooShort calls n l f → length calls ≤ length l.answers → parts_length calls ≤ length l.written → n ≤ length l.in_force → ⊥
long_enough (answers h) a w i = omega arith
long_enough (written g h) a w i = omega arith
long_enough (in_force g h k) a w i = omega arith

-- where enough is lent, a size is wrong
unfit_as : {z : Sizes} {calls : List Call} {l : Lent} {f : SeriesFault} → Unperformed z calls l f → length calls ≤ length l.answers → parts_length calls ≤ length l.written → z.table_words ≤ length l.in_force →
    (g : StoreFault) × (f ≡ Memory g) × Unfit z g
unfit_as (memory {f = g} u) a w i = (g, refl, u)
unfit_as (lent _ t) a w i = absurd (long_enough t a w i)

pub unfit_memory : {z : Sizes} {calls : List Call} {l : Lent} (g : StoreFault) → Unperformed z calls l (Memory g) → length calls ≤ length l.answers → parts_length calls ≤ length l.written → z.table_words ≤ length l.in_force → Unfit z g
unfit_memory {z} g u a w i = let h = unfit_as u a w i in let same : h.0 ≡ g = cc (h.1) in subst (Unfit z) same h.2

pub never_short : {z : Sizes} {calls : List Call} {l : Lent} {f : SeriesFault} → Unperformed z calls l f → length calls ≤ length l.answers → parts_length calls ≤ length l.written → z.table_words ≤ length l.in_force →
    ((g : StoreFault) → f ≡ Memory g → ⊥) → ⊥
never_short u a w i no' = let h = unfit_as u a w i in no' h.0 h.1
