-- A call is refused for one reason, and not accepted then. Assumes nothing.
use Rattle.std.proofs.Common.{◌≡◌, ℕ, suc, ◌*◌, ◌<◌, List, [], ◌∷◌, map, length, Bool, true, false, ◌≢◌, sym, refl, ap, ◌∙◌, subst, inl, inr, arith, length-append, true≢false}
use Rattle.std.specs.Prelude.{◌↔◌}
use Rattle.std.specs.List.{flat_map}
use Rattle.faults.specs.declared.layers.FrameFault.{FrameFault}
use Rattle.faults.specs.declared.layers.FrameFault.TheVariants.{Length, BadWord, NoRoom}
use Rattle.frames.specs.Frames.{before}
use Rattle.frames.proofs.Words.{length_words}
use Rattle.weights.specs.Weights.{Ops, Laws}
use Rattle.weights.specs.Order.{In}
use Rattle.tables.specs.Rows.{Row, table_words}
use Rattle.tables.specs.Emits.{Sent, sent_words, sent_length, emits, Answer, Ascending, In as InSent}
use Rattle.tables.proofs.Order.{asymmetric}
use Rattle.tables.specs.Forwards.{Overfull, Refused as FrameRefused}
use Rattle.listing.specs.Rows.{rows_of}
use Rattle.meaning.specs.Decide.{Tri, below, level, above, order}
use Rattle.meaning.specs.Leaves.{Frame}
use Rattle.meaning.specs.Diagrams.{Diagram, Formed}
use Rattle.faults.specs.declared.layers.StoreFault.TheVariants.{Full, NotHeld}
use Rattle.faults.specs.declared.layers.BenchFault.{BenchFault}
use Rattle.faults.specs.declared.layers.BenchFault.TheVariants.{Store, Frame as FrameFaulty}
use Rattle.stored.specs.Grows.{Apart, Over, size}
use Rattle.stored.proofs.Counting.{pigeons, not_over}
use Rattle.steps.specs.States.{State}
use Rattle.steps.specs.Sound.{Lists}
use Rattle.steps.specs.Steps.{Call, Reply, Word, Installed, Written, Refused, install_operand, Refuses, not_held, full, table_full, no_frame, Sends, Step, refused, built, installed, sent}
use Rattle.steps.proofs.Building.{same_diagram, some_not_none, built_once, built_held, unheld_once}
use Rattle.steps.proofs.Forwarding.{its_rows, no_fault, same_frame, table_emits}

never_before : (s : List ℕ) → before s s ≡ true → ⊥
never_before s e = true≢false (sym e ∙ asymmetric s s e)

-- the two words for a list's elements are one
in_to : {X : Type 0} (x : X) (xs : List X) → InSent x xs → In x xs
in_to x [] i = i
in_to x (y ∷ ys) (inl e) = inl e
in_to x (y ∷ ys) (inr i) = inr (in_to x ys i)

in_from : {X : Type 0} (x : X) (xs : List X) → In x xs → InSent x xs
in_from x [] i = i
in_from x (y ∷ ys) (inl e) = inl e
in_from x (y ∷ ys) (inr i) = inr (in_from x ys i)

ascending_differ : (ts : List (List ℕ)) → Ascending ts → Apart ts
ascending_differ [] a = tt
ascending_differ (t ∷ ts) a = (λ i. never_before t (a.0 t (in_from t ts i)), ascending_differ ts a.1)

-- frames

frame_fault_once : (o : Ops) (rows : List Row) (ws : List ℕ) (n : ℕ) (f g : FrameFault) → FrameRefused o rows ws n f → FrameRefused o rows ws n g → f ≡ g
frame_fault_once o rows ws n Length Length h k = refl
frame_fault_once o rows ws n Length (BadWord j) h k = absurd (h k.0)
frame_fault_once o rows ws n Length NoRoom h k = absurd (no_fault Length ws h k.0 k.1 k.2)
frame_fault_once o rows ws n (BadWord i) Length h k = absurd (k h.0)
frame_fault_once o rows ws n (BadWord i) (BadWord j) h k = go (order i j)
  where
    go : Tri (i < j) (i ≡ j) (j < i) → BadWord i ≡ BadWord j
    go (below l) = absurd (h.3 (k.2 i l))
    go (level e) = ap {B = FrameFault} BadWord e
    go (above l) = absurd (k.3 (h.2 j l))
frame_fault_once o rows ws n (BadWord i) NoRoom h k = absurd (no_fault (BadWord i) ws h k.0 k.1 k.2)
frame_fault_once o rows ws n NoRoom Length h k = absurd (no_fault Length ws k h.0 h.1 h.2)
frame_fault_once o rows ws n NoRoom (BadWord j) h k = absurd (no_fault (BadWord j) ws k h.0 h.1 h.2)
frame_fault_once o rows ws n NoRoom NoRoom h k = refl

-- one reason

pub fault_once : {o : Ops} → Laws o → (s : State) → Lists o s.table → (c : Call) (f g : BenchFault) → Refuses o s c f → Refuses o s c g → f ≡ g
fault_once {o} L s t c f g (not_held {place = i} u) (not_held {place = j} v) = ap {B = BenchFault} (λ (i : ℕ). Store (NotHeld i)) (unheld_once s.stored c i j u v)
fault_once {o} L s t c f g (not_held {place = i} u) (full {r = r} {asks = a} b h) = absurd (built_held o s.stored c r a i b u)
fault_once {o} L s t c f g (not_held (install_operand {x = x} n)) (table_full {d = d} p l) = absurd (some_not_none s.stored x d p n)
fault_once {o} L s t c f g (not_held u) (no_frame h k) = elim u [ ]
fault_once {o} L s t c f g (full {r = r} {asks = a} b h) (not_held {place = i} u) = absurd (built_held o s.stored c r a i b u)
fault_once {o} L s t c f g (full b h) (full b' h') = refl
fault_once {o} L s t c f g (full b h) (table_full p l) = elim b [ ]
fault_once {o} L s t c f g (full b h) (no_frame h' k) = elim b [ ]
fault_once {o} L s t c f g (table_full {x = x} {d = d} p l) (not_held (install_operand n)) = absurd (some_not_none s.stored x d p n)
fault_once {o} L s t c f g (table_full p l) (full b h) = elim b [ ]
fault_once {o} L s t c f g (table_full p l) (table_full p' l') = refl
fault_once {o} L s t c f g (no_frame h k) (not_held u) = elim u [ ]
fault_once {o} L s t c f g (no_frame h' k) (full b h) = elim b [ ]
fault_once {o} L s t c f g (no_frame {ws = ws} {n = n} {f = x} {rows = rows} h k) (no_frame {f = y} {rows = rows'} h' k') =
    ap {B = BenchFault} FrameFaulty (frame_fault_once o rows ws n x y k (subst (λ (u : List Row). FrameRefused o u ws n y) (its_rows L s.table t rows' h' ∙ sym (its_rows L s.table t rows h)) k'))

-- not both

pub length_sent : (xs : List Sent) → ((x : Sent) → InSent x xs → length x.frame ≡ 8) → length (flat_map sent_words xs) ≡ sent_length * length xs
length_sent [] h = refl
length_sent (x ∷ xs) h =
    let a = length-append (sent_words x) (flat_map sent_words xs) in
    let b = length_words 0 x.frame in
    let c = h x (inl refl) in
    let d = length_sent xs (λ y i. h y (inr i)) in
    omega (arith, a, b, c, d)

in_frames : (x : Sent) (xs : List Sent) → In x xs → In x.frame (map (λ y. y.frame) xs)
in_frames x [] i = absurd i
in_frames x (y ∷ ys) (inl e) = inl (ap (λ (z : Sent). z.frame) e)
in_frames x (y ∷ ys) (inr i) = inr (in_frames x ys i)

length_frames : (xs : List Sent) → length (map (λ y. y.frame) xs) ≡ length xs
length_frames [] = refl
length_frames (x ∷ xs) = ap suc (length_frames xs)

-- an answer that does not fit is of too many frames
pub too_many : (o : Ops) (rows : List Row) (v : Frame) (xs : List Sent) → Answer o rows v xs → (n : ℕ) → n < sent_length * length xs → Overfull o rows v n
too_many o rows v xs A n l = record { frames = map (λ x. x.frame) xs; ascending = A.ascending; emitted = emitted xs (λ x i z. (A.sound x i).1 (sym (A.sound x i).0 ∙ z)); many = many }
  where
    emitted : (ys : List Sent) → ((x : Sent) → InSent x ys → emits o rows v x.frame ≢ o.zero) → (t : Frame) → InSent t (map (λ x. x.frame) ys) → emits o rows v t ≢ o.zero
    emitted [] h t i = absurd i
    emitted (x ∷ ys) h t (inl p) = subst (λ (u : Frame). emits o rows v u ≢ o.zero) (sym p) (h x (inl refl))
    emitted (x ∷ ys) h t (inr i) = emitted ys (λ y j. h y (inr j)) t i

    many : n < sent_length * length (map (λ x. x.frame) xs)
    many = let k = length_frames xs in omega (arith, l, k)

module _ {o : Ops} (L : Laws o) where
  -- what is sent fits, so it is not overfull
  pub sent_fits : (d : Diagram) → Formed o d → (ws : List ℕ) (n : ℕ) (out : List ℕ) (f : FrameFault) → Sends o (rows_of d) ws n out → FrameRefused o (rows_of d) ws n f → ⊥
  sent_fits d fd ws n out Length h k = no_fault Length ws k h.frame h.is_frame h.its_words
  sent_fits d fd ws n out (BadWord i) h k = no_fault (BadWord i) ws k h.frame h.is_frame h.its_words
  sent_fits d fd ws n out NoRoom h (s, v, e, O) = crowded
    where
      same : s ≡ h.frame
      same = same_frame s h.frame (sym e ∙ h.its_words)

      long : (x : Sent) → InSent x h.answer → length x.frame ≡ 8
      long x i = table_emits L d fd h.frame h.is_frame x.frame (λ z. (h.right.sound x i).1 (sym (h.right.sound x i).0 ∙ z))

      inside : (t : List ℕ) → In t O.frames → In t (map (λ y. y.frame) h.answer)
      inside t i = in_frames _ h.answer (in_to _ h.answer (h.right.complete t (subst (λ (z : List ℕ). emits o (rows_of d) z t ≢ o.zero) same (O.emitted t (in_from t O.frames i)))))

      crowded : ⊥
      crowded =
          let a = pigeons O.frames (map (λ y. y.frame) h.answer) (ascending_differ O.frames O.ascending) inside in
          let b = length_frames h.answer in
          let c = length_sent h.answer long in
          let l : length out ≡ length (flat_map sent_words h.answer) = ap length h.written in
          let m = h.fit in
          let q = O.many in
          omega (arith, a, b, c, l, m, q)

  -- a call that is accepted meets no condition for a refusal
  pub accepted : (s : State) → Lists o s.table → (c : Call) (r : Reply) (s' : State) (f : BenchFault) → Step o s c r s' → Refuses o s c f → (g : BenchFault) × (r ≡ Refused g)
  accepted s t c r s' f (refused {f = g} h) k = (g, refl)
  accepted s t c r s' f (built {r = d} {asks = a} b g) (not_held {place = i} u) = absurd (built_held o s.stored c d a i b u)
  accepted s t c r s' f (built {r = d} {asks = a} {w = w} {m = m} b g) (full {r = d'} {asks = a'} b' h) =
      absurd (not_over s.rooms s.stored a m g.adds g.fits (subst (Over (size s.rooms) s.stored) (sym (built_once o s.stored c d d' a a' b b').1) h))
  accepted s t c r s' f (built b g) (table_full p l) = elim b [ ]
  accepted s t c r s' f (built b g) (no_frame h k) = elim b [ ]
  accepted s t c r s' f (installed {x = x} {d = d} p l) (not_held (install_operand n)) = absurd (some_not_none s.stored x d p n)
  accepted s t c r s' f (installed p l) (full b h) = elim b [ ]
  accepted s t c r s' f (installed {x = x} {d = d} p l) (table_full {d = e} q k) =
      absurd (let same : length (table_words (rows_of e)) ≡ length (table_words (rows_of d)) = ap (λ (u : Diagram). length (table_words (rows_of u))) (same_diagram s.stored x e d q p) in omega (arith, same, l, k))
  accepted s t c r s' f (sent h k) (not_held u) = elim u [ ]
  accepted s t c r s' f (sent h' k) (full b h) = elim b [ ]
  accepted s t c r s' f (sent {ws = ws} {n = n} {out = out} {rows = rows} h k) (no_frame {f = x} {rows = rows'} h' k') =
      absurd (sent_fits t.listed t.formed ws n out x (subst (λ (u : List Row). Sends o u ws n out) (its_rows L s.table t rows h) k) (subst (λ (u : List Row). FrameRefused o u ws n x) (its_rows L s.table t rows' h') k'))

abbrev is_refused : Reply → Bool
is_refused (Word w) = false
is_refused (Installed n) = false
is_refused (Written ws) = false
is_refused (Refused f) = true

abbrev fault_of : Reply → BenchFault
fault_of (Word w) = Store Full
fault_of (Installed n) = Store Full
fault_of (Written ws) = Store Full
fault_of (Refused f) = f

not_so : (r : Reply) (f : BenchFault) → is_refused r ≡ false → r ≡ Refused f → ⊥
not_so r f e p = true≢false (sym (ap is_refused p) ∙ e)

refused_for : (o : Ops) (s : State) (c : Call) (r : Reply) (s' : State) (f : BenchFault) → Step o s c r s' → r ≡ Refused f → Refuses o s c f
refused_for o s c r s' f (refused h) e = subst (Refuses o s c) (ap fault_of e) h
refused_for o s c r s' f (built {w = w} b g) e = absurd (not_so (Word w) f refl e)
refused_for o s c r s' f (installed {d = d} p l) e = absurd (not_so (Installed (length (table_words (rows_of d)))) f refl e)
refused_for o s c r s' f (sent {out = out} h k) e = absurd (not_so (Written out) f refl e)

-- a call is refused exactly where a condition holds for it
pub exactly : {o : Ops} → Laws o → (s : State) → Lists o s.table → (c : Call) (r : Reply) (s' : State) → Step o s c r s' → (f : BenchFault) → (r ≡ Refused f) ↔ Refuses o s c f
exactly {o} L s t c r s' h f = (refused_for o s c r s' f h, back)
  where
    back : Refuses o s c f → r ≡ Refused f
    back k = R.1 ∙ ap {B = Reply} Refused (fault_once L s t c R.0 f (refused_for o s c r s' R.0 h R.1) k)
      where
        R : (g : BenchFault) × (r ≡ Refused g)
        R = accepted L s t c r s' f h k
