-- A series is performed, or there is one reason why not. Assumes nothing.
use Rattle.std.proofs.Common.{◌≡◌, ℕ, ◌≤◌, ◌<◌, ◌↔◌, List, length, min, Result, Ok, Err, refl, sym, ap, ◌∙◌, subst, arith}
use Rattle.faults.specs.declared.layers.Memory.{Memory as Number}
use Rattle.faults.specs.declared.layers.StoreFault.{StoreFault}
use Rattle.faults.specs.declared.layers.StoreFault.TheVariants.{Full, NotHeld, BadMemory}
use Rattle.counts.specs.declared.memory.Sizes.{Sizes}
use Rattle.counts.specs.Memory.{AllFit, FirstWrong, actions_wrong, cells_wrong, nodes_wrong, table_wrong, Unfit}
use Rattle.calls.specs.declared.Call.{Call}
use Rattle.series.specs.declared.fault.SeriesFault.{SeriesFault}
use Rattle.series.specs.declared.fault.SeriesFault.TheVariants.{Memory, Written}
use Rattle.series.specs.Calls.{parts_length}
use Rattle.series.specs.Series.{Lent, TooShort, answers, written, in_force, most, Unperformed, memory, lent}
use Rattle.series.specs.Turns.{Enough}

module _ (z : Sizes) where
  first_once : (m n : Number) → FirstWrong z m → FirstWrong z n → m ≡ n
  first_once _ _ (actions_wrong a) (actions_wrong b) = refl
  first_once _ _ (actions_wrong a) (cells_wrong b c) = absurd (a b)
  first_once _ _ (actions_wrong a) (nodes_wrong b c d) = absurd (a b)
  first_once _ _ (actions_wrong a) (table_wrong b c d e) = absurd (a b)
  first_once _ _ (cells_wrong x a) (actions_wrong b) = absurd (b x)
  first_once _ _ (cells_wrong x a) (cells_wrong b c) = refl
  first_once _ _ (cells_wrong x a) (nodes_wrong b c d) = absurd (a c)
  first_once _ _ (cells_wrong x a) (table_wrong b c d e) = absurd (a c)
  first_once _ _ (nodes_wrong x y a) (actions_wrong b) = absurd (b x)
  first_once _ _ (nodes_wrong x y a) (cells_wrong b c) = absurd (c y)
  first_once _ _ (nodes_wrong x y a) (nodes_wrong b c d) = refl
  first_once _ _ (nodes_wrong x y a) (table_wrong b c d e) = absurd (a d)
  first_once _ _ (table_wrong x y w a) (actions_wrong b) = absurd (b x)
  first_once _ _ (table_wrong x y w a) (cells_wrong b c) = absurd (c y)
  first_once _ _ (table_wrong x y w a) (nodes_wrong b c d) = absurd (d w)
  first_once _ _ (table_wrong x y w a) (table_wrong b c d e) = refl

  unfit_once : (f g : StoreFault) → Unfit z f → Unfit z g → f ≡ g
  unfit_once Full g h k = absurd h
  unfit_once (NotHeld p) g h k = absurd h
  unfit_once (BadMemory m) Full h k = absurd k
  unfit_once (BadMemory m) (NotHeld p) h k = absurd k
  unfit_once (BadMemory m) (BadMemory n) h k = ap BadMemory (first_once m n h k)

  first_none : (m : Number) → AllFit z → FirstWrong z m → ⊥
  first_none _ h (actions_wrong a) = a h.actions_fit
  first_none _ h (cells_wrong x a) = a h.cells_fit
  first_none _ h (nodes_wrong x y a) = a h.nodes_fit
  first_none _ h (table_wrong x y w a) = a h.table_fits

  unfit_none : (f : StoreFault) → AllFit z → Unfit z f → ⊥
  unfit_none Full h k = k
  unfit_none (NotHeld p) h k = k
  unfit_none (BadMemory m) h k = first_none m h k

  module _ (calls : List Call) (l : Lent) where
    short_once : (n : ℕ) (f g : SeriesFault) → TooShort calls n l f → TooShort calls n l g → f ≡ g
    short_once n _ _ (answers a) (answers b) = refl
    short_once n _ _ (answers a) (written b c) = absurd (omega (arith, a, b))
    short_once n _ _ (answers a) (in_force b c d) = absurd (omega (arith, a, b))
    short_once n _ _ (written x a) (answers b) = absurd (omega (arith, x, b))
    short_once n _ _ (written x a) (written b c) = refl
    short_once n _ _ (written x a) (in_force b c d) = absurd (omega (arith, a, c))
    short_once n _ _ (in_force x y a) (answers b) = absurd (omega (arith, x, b))
    short_once n _ _ (in_force x y a) (written b c) = absurd (omega (arith, y, c))
    short_once n _ _ (in_force x y a) (in_force b c d) = refl

    short_none : (n : ℕ) (f : SeriesFault) → Enough calls n l → TooShort calls n l f → ⊥
    short_none n _ h (answers a) = let k = h.answers in omega (arith, a, k)
    short_none n _ h (written x a) = let k = h.written in omega (arith, a, k)
    short_none n _ h (in_force x y a) = let k = h.in_force in omega (arith, a, k)

    -- one reason and no other
    unperformed_once : (f g : SeriesFault) → Unperformed z calls l f → Unperformed z calls l g → f ≡ g
    unperformed_once _ _ (memory {f = f} h) (memory {f = g} k) = ap Memory (unfit_once f g h k)
    unperformed_once _ _ (memory {f = f} h) (lent k x) = absurd (unfit_none f k h)
    unperformed_once _ _ (lent h x) (memory {f = g} k) = absurd (unfit_none g h k)
    unperformed_once _ _ (lent {f = f} h x) (lent {f = g} k y) = short_once z.table_words f g x y

    unperformed_none : (f : SeriesFault) → AllFit z → Enough calls z.table_words l → Unperformed z calls l f → ⊥
    unperformed_none _ h e (memory {f = f} k) = unfit_none f h k
    unperformed_none _ h e (lent {f = f} k x) = short_none z.table_words f e x

    -- the fault that is told is the reason
    pub refused_exactly : {T : Type 0} (r : Result T SeriesFault) (f : SeriesFault) → r ≡ Err f → Unperformed z calls l f → (g : SeriesFault) → (r ≡ Err g) ↔ Unperformed z calls l g
    refused_exactly r f q h g = (λ e. let p : f ≡ g = cc in subst (Unperformed z calls l) p h, λ k. q ∙ ap Err (unperformed_once f g h k))

    pub performed_exactly : {T : Type 0} (x : T) → AllFit z → Enough calls z.table_words l → (g : SeriesFault) → ◌≡◌ {A = Result T SeriesFault} (Ok x) (Err g) ↔ Unperformed z calls l g
    performed_exactly x h e g = (λ q. absurd cc, λ k. absurd (unperformed_none g h e k))

pub short_written : (calls : List Call) (t : ℕ) (l : Lent) (n : ℕ) → n ≡ min (parts_length calls) most → length calls ≤ length l.answers → length l.written < n → TooShort calls t l (Written n)
short_written calls t l n e h k = subst (λ (m : ℕ). TooShort calls t l (Written m)) (sym e) (written h (omega (arith, e, k)))
