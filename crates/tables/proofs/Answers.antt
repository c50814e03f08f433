-- What a row sends is what the table emits.
use Rattle.std.proofs.Common.{◌≡◌, ℕ, suc, Bool, true, false, cond, ◌⊎◌, List, [], ◌∷◌, ◌++◌, map, length, take, drop, set, Ok, Err, Result, sym, refl, ap, ◌∙◌, subst, inl, inr, arith, MatchResult}
use Rattle.std.specs.List.{flat_map, AllByRecursion}
use Rattle.std.proofs.ByRecursion.{All-weaker}
use Rattle.std.proofs.lemmas.List.{take_at, drop_at}
use Rattle.std.proofs.lemmas.Bool.{cases_Bool, true≢false, cond-true, cond-false, eq-eqb, ne_eqb}
use Rattle.format.specs.Words.{word, kind_of, value_of}
use Rattle.faults.specs.declared.layers.FrameFault.{FrameFault}
use Rattle.faults.specs.declared.layers.FrameFault.TheVariants.{NoRoom}
use Rattle.frames.specs.Frames.{before, FrameValues, frame_words}
use Rattle.weights.specs.Weights.{Ops, Laws, Weight}
use Rattle.tables.specs.Rows.{Pair, Emission, Row, emission_words, row_words, LegalPairs, LegalEmission, LegalRow, LegalRows}
use Rattle.tables.specs.Emits.{Sent, sent_words, holds, replaced, same, joins, emits, In, Ascending, Answer}
use Rattle.tables.specs.Scans.{applied, sends, weight_in, RowSent, RowFull}
use Rattle.tables.specs.Forwards.{Decides, Written, Answered, Overfull, Refused}
use Rattle.tables.proofs.Parts.{match_words, set_words, parts_of_word, few_pairs, fit_pair}
use Rattle.tables.proofs.Rows.{pair_kinds}
use Rattle.tables.proofs.Scans.{same_decides, put_some}
use Rattle.tables.proofs.Order.{frames_of, irreflexive, asymmetric}

-- the frame and the weight of an emission
send : List ℕ → Emission → Sent
send s e = record { frame = replaced e.sets s; weight = e.weight }

-- words of other kinds send nothing
sends_past : (xs ys s : List ℕ) → AllByRecursion (λ w. kind_of w ≡ 12 → ⊥) xs → sends (xs ++ ys) s ≡ sends ys s
sends_past [] ys s a = refl
sends_past (x ∷ xs) ys s a = cond-false _ _ _ (ne_eqb _ _ a.0) ∙ sends_past xs ys s a.1

other_kinds : (k f : ℕ) (ps : List Pair) → (k ≡ 12 → ⊥) → LegalPairs f ps → AllByRecursion (λ w. kind_of w ≡ 12 → ⊥) (map (λ p. word k p.0 p.1) ps)
other_kinds k f ps n l = All-weaker (λ w. kind_of w ≡ k) _ (λ w h e. n (sym h ∙ e)) _ (pair_kinds k f ps l)

-- set words, and then none, make the frame of the sets
applied_sets : (f : ℕ) (ps : List Pair) (ys s : List ℕ) → LegalPairs f ps → ((s : List ℕ) → applied ys s ≡ s) → applied (set_words ps ++ ys) s ≡ replaced ps s
applied_sets f [] ys s l h = h s
applied_sets f (p ∷ ps) ys s l h =
    let z = parts_of_word 13 p.0 p.1 (fit_pair f p ps l) in
    cond-true _ _ _ (eq-eqb _ _ z.0) ∙
    ap (applied (set_words ps ++ ys)) (put_some (word 13 p.0 p.1) p.0 p.1 s (sym z.1) (sym z.2) l.1 l.2) ∙
    applied_sets (suc p.0) ps ys (set s p.0 p.1) l.3 h

module _ {o : Ops} (laws : Laws o) where
  weight_kind : (e : Emission) → LegalEmission o e → (kind_of (word 12 0 e.weight) ≡ 12) × (value_of (word 12 0 e.weight) ≡ e.weight)
  weight_kind e l =
      let small = laws.below_end e.weight l.of_kind in
      let z = parts_of_word 12 0 e.weight (omega arith, omega arith) in
      (z.0, z.2)

  no_set_first : (es : List Emission) → AllByRecursion (LegalEmission o) es → (s : List ℕ) → applied (flat_map emission_words es) s ≡ s
  no_set_first [] l s = refl
  no_set_first (e ∷ es) l s =
      let k = (weight_kind e l.0).0 in
      cond-false _ _ _ (ne_eqb (kind_of (word 12 0 e.weight)) 13 (λ x. omega (arith, k, x)))

  sends_emissions : (es : List Emission) (s : List ℕ) → AllByRecursion (LegalEmission o) es → sends (flat_map emission_words es) s ≡ map (send s) es
  unfolding send
  sends_emissions [] s l = refl
  sends_emissions (e ∷ es) s l =
      let k = weight_kind e l.0 in
      cond-true _ _ _ (eq-eqb _ _ k.0) ∙
      ap (λ f. record { frame = f; weight = value_of (word 12 0 e.weight) } ∷ sends (set_words e.sets ++ flat_map emission_words es) s)
      (applied_sets 0 e.sets (flat_map emission_words es) s l.0.sets_legal (no_set_first es l.1)) ∙
      ap (λ w. record { frame = replaced e.sets s; weight = w } ∷ sends (set_words e.sets ++ flat_map emission_words es) s) k.1 ∙
      ap (λ xs. send s e ∷ xs)
      (sends_past (set_words e.sets) (flat_map emission_words es) s (other_kinds 13 0 e.sets (λ x. omega arith) l.0.sets_legal) ∙
      sends_emissions es s l.1
      )

  sends_row : (r : Row) (s : List ℕ) → LegalRow o r → sends (row_words r) s ≡ map (send s) r.emissions
  sends_row r s l =
      let few = few_pairs 0 r.matches (omega arith) l.matches_legal in
      let k = (parts_of_word 10 (length r.matches) (length r.emissions) (omega arith, l.countable)).0 in
      cond-false _ _ _ (ne_eqb (kind_of (word 10 (length r.matches) (length r.emissions))) 12 (λ x. omega (arith, k, x))) ∙
      sends_past (match_words r.matches) (flat_map emission_words r.emissions) s (other_kinds 11 0 r.matches (λ x. omega arith) l.matches_legal) ∙
      sends_emissions r.emissions s l.emissions_legal

joins_sent : (o : Ops) (s t : List ℕ) (a : ℕ) (es : List Emission) → weight_in o t a (map (send s) es) ≡ joins o s t a es
unfolding send
joins_sent o s t a [] = refl
joins_sent o s t a (e ∷ es) = joins_sent o s t (cond (same (replaced e.sets s) t) (o.join a e.weight) a) es

-- rows that do not hold emit nothing; the first that holds decides
emits_none : (o : Ops) (rows : List Row) (s t : List ℕ) → AllByRecursion (λ r. holds r.matches s ≡ false) rows → emits o rows s t ≡ o.zero
emits_none o [] s t a = refl
emits_none o (r ∷ rows) s t a = cond-false _ _ _ a.0 ∙ emits_none o rows s t a.1

emits_past :
    (o : Ops) (before rows : List Row) (s t : List ℕ) →
    AllByRecursion (λ r. holds r.matches s ≡ false) before →
    emits o (before ++ rows) s t ≡ emits o rows s t
emits_past o [] rows s t a = refl
emits_past o (r ∷ before) rows s t a = cond-false _ _ _ a.0 ∙ emits_past o before rows s t a.1

emits_row : (o : Ops) (rows : List Row) (s ws found t : List ℕ) (d : Decides rows s ws found) → emits o rows s t ≡ joins o s t o.zero d.row.emissions
emits_row o rows s ws found t d =
    ap (λ x. emits o x s t) d.order ∙ emits_past o d.before (d.row ∷ d.after) s t d.passed ∙ cond-true _ _ _ d.held

legal_in : (o : Ops) (before : List Row) (r : Row) (after : List Row) → AllByRecursion (LegalRow o) (before ++ (r ∷ after)) → LegalRow o r
legal_in o [] r after a = a.0
legal_in o (x ∷ before) r after a = legal_in o before r after a.1

-- a weight of the kind that is not zero
abbrev SomeWeight : Ops → ℕ → Type 0
SomeWeight o w = Weight o w × (w ≡ o.zero → ⊥)

sent_some : (o : Ops) (s : List ℕ) (es : List Emission) → AllByRecursion (LegalEmission o) es → AllByRecursion (λ x. SomeWeight o x.weight) (map (send s) es)
unfolding send
sent_some o s [] l = tt
sent_some o s (e ∷ es) l = ((l.0.of_kind, l.0.nonzero), sent_some o s es l.1)

-- a frame is sent, or its joined weight is what it was
sent_or_not : (o : Ops) (t : List ℕ) (a : ℕ) (xs : List Sent) → In t (frames_of xs) ⊎ (weight_in o t a xs ≡ a)
sent_or_not o t a [] = inr refl
sent_or_not o t a (x ∷ xs) = go (cases_Bool (same x.frame t)) (sent_or_not o t a xs)
  where
    go :
        (same x.frame t ≡ true) ⊎ (same x.frame t ≡ false) →
        In t (frames_of xs) ⊎ (weight_in o t a xs ≡ a) →
        In t (frames_of (x ∷ xs)) ⊎ (weight_in o t a (x ∷ xs) ≡ a)
    go (inl e) h = inl (inl (sym ((same_decides x.frame t).0 e)))
    go (inr e) (inl i) = inl (inr i)
    go (inr e) (inr w) = inr (ap (λ y. weight_in o t y xs) (cond-false _ _ _ e) ∙ w)

module _ {o : Ops} (laws : Laws o) where
  -- zero is least: a join with a nonzero weight is none
  join_left : (a b : ℕ) → Weight o a → Weight o b → o.join a b ≡ o.zero → a ≡ o.zero
  join_left a b wa wb e =
      sym (laws.zero_neutral a wa) ∙ laws.join_commutative o.zero a laws.zero_weight wa ∙
      ap (o.join a) (sym e) ∙
      sym (laws.join_associative a a b wa wa wb) ∙
      ap (λ x. o.join x b) (laws.join_idempotent a wa) ∙
      e

  join_some_right : (a b : ℕ) → Weight o a → SomeWeight o b → SomeWeight o (o.join a b)
  join_some_right a b wa sb =
      (laws.join_weight a b wa sb.0, λ e. sb.1 (join_left b a sb.0 wa (laws.join_commutative b a sb.0 wa ∙ e)))

  join_some_left : (a b : ℕ) → SomeWeight o a → Weight o b → SomeWeight o (o.join a b)
  join_some_left a b sa wb = (laws.join_weight a b sa.0 wb, λ e. sa.1 (join_left a b sa.0 wb e))

  stays_some : (t : List ℕ) (a : ℕ) (xs : List Sent) → AllByRecursion (λ x. SomeWeight o x.weight) xs → SomeWeight o a → SomeWeight o (weight_in o t a xs)
  stays_some t a [] l s = s
  stays_some t a (x ∷ xs) l s =
      stays_some t (cond (same x.frame t) (o.join a x.weight) a) xs l.1 (go (same x.frame t))
    where
      go : (b : Bool) → SomeWeight o (cond b (o.join a x.weight) a)
      go true = join_some_left a x.weight s l.0.0
      go false = s

  -- a frame that is sent has a nonzero joined weight
  becomes_some :
      (t : List ℕ) (a : ℕ) (xs : List Sent) →
      AllByRecursion (λ x. SomeWeight o x.weight) xs →
      Weight o a →
      In t (frames_of xs) →
      SomeWeight o (weight_in o t a xs)
  becomes_some t a [] l w i = elim i [ ]
  becomes_some t a (x ∷ xs) l w (inl e) =
      subst (λ (y : ℕ). SomeWeight o (weight_in o t y xs)) (sym (cond-true _ _ _ ((same_decides x.frame t).1 (sym e))))
      (stays_some t (o.join a x.weight) xs l.1 (join_some_right a x.weight w l.0))
  becomes_some t a (x ∷ xs) l w (inr i) =
      becomes_some t (cond (same x.frame t) (o.join a x.weight) a) xs l.1 (go (same x.frame t)) i
    where
      go : (b : Bool) → Weight o (cond b (o.join a x.weight) a)
      go true = laws.join_weight a x.weight w l.0.0
      go false = w

in_frames : (t : List ℕ) (xs : List Sent) → In t (frames_of xs) → (x : Sent) × In x xs × (x.frame ≡ t)
in_frames t [] i = elim i [ ]
in_frames t (x ∷ xs) (inl e) = (x, inl refl, sym e)
in_frames t (x ∷ xs) (inr i) = let r = in_frames t xs i in (r.0, inr r.1, r.2)

frame_in : (x : Sent) (xs : List Sent) → In x xs → In x.frame (frames_of xs)
frame_in x [] i = elim i [ ]
frame_in x (y ∷ xs) (inl e) = inl (ap (λ z. z.frame) e)
frame_in x (y ∷ xs) (inr i) = inr (frame_in x xs i)

same_sent : (x : Sent) (t : List ℕ) (w : ℕ) → x.frame ≡ t → x.weight ≡ w → x ≡ record { frame = t; weight = w }
same_sent x t w p q = λ i. record { frame = p i; weight = q i }

-- two ascending lists of the same members are one
pub ascending_same :
    (xs ys : List Sent) →
    Ascending (frames_of xs) →
    Ascending (frames_of ys) →
    ((x : Sent) → In x xs → In x ys) →
    ((x : Sent) → In x ys → In x xs) →
    xs ≡ ys
ascending_same [] [] a b f g = refl
ascending_same [] (y ∷ ys) a b f g = elim (g y (inl refl)) [ ]
ascending_same (x ∷ xs) [] a b f g = elim (f x (inl refl)) [ ]
ascending_same (x ∷ xs) (y ∷ ys) a b f g =
    ap (λ z. z ∷ xs) first ∙ ap (λ zs. y ∷ zs) (ascending_same xs ys a.1 b.1 (λ z i. down z i (f z (inr i))) (λ z i. up z i (g z (inr i))))
  where
    later : In x ys → In y xs → ⊥
    later i j =
        true≢false (sym (a.0 y.frame (frame_in y xs j)) ∙ asymmetric y.frame x.frame (b.0 x.frame (frame_in x ys i)))

    first : x ≡ y
    first = elim (f x (inl refl)) [
      | inl e ↦ e
      | inr i ↦ elim (g y (inl refl)) [ inl e ↦ sym e | inr j ↦ absurd (later i j) ]
    ]

    down : (z : Sent) → In z xs → In z (y ∷ ys) → In z ys
    down z i (inl e) =
        absurd (true≢false (sym (a.0 x.frame (subst (λ (w : Sent). In w.frame (frames_of xs)) (e ∙ sym first) (frame_in z xs i))) ∙ irreflexive x.frame))
    down z i (inr j) = j

    up : (z : Sent) → In z ys → In z (x ∷ xs) → In z xs
    up z i (inl e) =
        absurd (true≢false (sym (b.0 y.frame (subst (λ (w : Sent). In w.frame (frames_of ys)) (e ∙ first) (frame_in z ys i))) ∙ irreflexive y.frame))
    up z i (inr j) = j

-- a frame has one answer
pub answer_unique : (o : Ops) (rows : List Row) (s : List ℕ) (xs ys : List Sent) → Answer o rows s xs → Answer o rows s ys → xs ≡ ys
answer_unique o rows s xs ys a b = ascending_same xs ys a.ascending b.ascending (go xs ys a b) (go ys xs b a)
  where
    go : (us vs : List Sent) → Answer o rows s us → Answer o rows s vs → (x : Sent) → In x us → In x vs
    go us vs p q x i =
        let h = p.sound x i in
        subst (λ (y : Sent). In y vs) (sym (same_sent x x.frame (emits o rows s x.frame) refl (sym h.0)))
        (q.complete x.frame (λ e. h.1 (sym h.0 ∙ e)))

written_answer :
    (o : Ops) (rows : List Row) (s was : List ℕ) (n : ℕ) (is : List ℕ) (xs : List Sent) →
    Answer o rows s xs →
    n ≡ length (flat_map sent_words xs) →
    is ≡ flat_map sent_words xs ++ drop n was →
    Written o rows s was n is
written_answer o rows s was n is xs a c e =
    record {
      answer = xs;
      right = a;
      only = λ ys b. answer_unique o rows s ys xs b a;
      count = c;
      front = ap (take n) e ∙ take_at (flat_map sent_words xs) (drop n was) n (sym c);
      past = ap (drop n) e ∙ drop_at (flat_map sent_words xs) (drop n was) n (sym c);
    }

pub none_written :
    (o : Ops) (rows : List Row) (s was : List ℕ) →
    AllByRecursion (λ r. holds r.matches s ≡ false) rows →
    Written o rows s was 0 was
none_written o rows s was a =
    written_answer o rows s was 0 was []
    (record {
      ascending = tt;
      sound = λ x i. elim i [ ];
      complete = λ t h. absurd (h (emits_none o rows s t a));
    })
    refl
    refl

module _ {o : Ops} (laws : Laws o) (rows : List Row) (legal : LegalRows o rows) (s ws found : List ℕ) (d : Decides rows s ws found) where
  row_legal : LegalRow o d.row
  row_legal = legal_in o d.before d.row d.after (subst (AllByRecursion (LegalRow o)) d.order legal.each)

  sent : sends found s ≡ map (send s) d.row.emissions
  sent = ap (λ x. sends x s) d.found_is ∙ sends_row laws d.row s row_legal

  emitted : (t : List ℕ) → emits o rows s t ≡ weight_in o t o.zero (sends found s)
  emitted t =
      emits_row o rows s ws found t d ∙ sym (joins_sent o s t o.zero d.row.emissions) ∙ ap (weight_in o t o.zero) (sym sent)

  some : AllByRecursion (λ x. SomeWeight o x.weight) (sends found s)
  some = subst (AllByRecursion (λ x. SomeWeight o x.weight)) (sym sent) (sent_some o s d.row.emissions row_legal.emissions_legal)

  sent_weight : (t : List ℕ) → In t (frames_of (sends found s)) → SomeWeight o (weight_in o t o.zero (sends found s))
  sent_weight t i = becomes_some laws t o.zero (sends found s) some laws.zero_weight i

  pub row_written : (was : List ℕ) (n : ℕ) (is : List ℕ) → RowSent o (sends found s) was n is → Written o rows s was n is
  row_written was n is r =
      written_answer o rows s was n is r.list
      (record {
        ascending = r.ascending;
        sound = λ x i. (right x i, nonzero x i);
        complete = λ t h. complete t h (sent_or_not o t o.zero (sends found s));
      })
      r.count
      r.written
    where
      weight : (x : Sent) → In x r.list → SomeWeight o (weight_in o x.frame o.zero (sends found s))
      weight x i = sent_weight x.frame (r.only x.frame (frame_in x r.list i))

      right : (x : Sent) → In x r.list → emits o rows s x.frame ≡ x.weight
      right x i =
          let small = laws.below_end _ (weight x i).0 in
          let whole : weight_in o x.frame o.zero (sends found s) ≡ value_of (weight_in o x.frame o.zero (sends found s)) = omega arith in
          emitted x.frame ∙ whole ∙ sym (r.weighed x i)

      nonzero : (x : Sent) → In x r.list → x.weight ≡ o.zero → ⊥
      nonzero x i e = (weight x i).1 (sym (emitted x.frame) ∙ right x i ∙ e)

      complete :
          (t : List ℕ) →
          (emits o rows s t ≡ o.zero → ⊥) →
          In t (frames_of (sends found s)) ⊎ (weight_in o t o.zero (sends found s) ≡ o.zero) →
          In (record { frame = t; weight = emits o rows s t }) r.list
      complete t h (inr e) = absurd (h (emitted t ∙ e))
      complete t h (inl i) =
          let f = in_frames t r.list (r.every t i) in
          subst (λ (y : Sent). In y r.list)
          (same_sent f.0 t (emits o rows s t) f.2 (sym (right f.0 f.1) ∙ ap (emits o rows s) f.2))
          f.1

  pub row_overfull : (room : ℕ) → RowFull (sends found s) room → Overfull o rows s room
  row_overfull room r =
      record {
        frames = r.frames;
        ascending = r.ascending;
        emitted = λ t i e. (sent_weight t (r.only t i)).1 (sym (emitted t) ∙ e);
        many = r.many;
      }

pub row_answered :
    {o : Ops} (laws : Laws o) (rows : List Row) (legal : LegalRows o rows) (s table found ws was is : List ℕ) (r : Result ℕ FrameFault) →
    FrameValues s →
    ws ≡ frame_words s →
    Decides rows s table found →
    MatchResult r (λ n. RowSent o (sends found s) was n is) (λ e. (e ≡ NoRoom) × RowFull (sends found s) (length was)) →
    MatchResult r (λ n. Answered o rows ws was n is) (λ e. Refused o rows ws (length was) e)
row_answered laws rows legal s table found ws was is (Ok n) v e d h =
    (s, v, e, row_written laws rows legal s table found d was n is h)
row_answered {o} laws rows legal s table found ws was is (Err y) v e d h =
    subst (λ (z : FrameFault). Refused o rows ws (length was) z) (sym h.0)
    (s, v, e, row_overfull laws rows legal s table found d (length was) h.1)
