-- A call always has a reply. Assumes nothing.
use Rattle.std.proofs.Common.{◌≡◌, ℕ, zero, suc, ◌*◌, ◌<◌, ◌≤◌, ◌⊎◌, List, [], ◌∷◌, map, length, get_or, Some, None, Option, Result, Ok, Err, sym, refl, ap, ◌∙◌, subst, inl, inr, arith}
use lib.ListN.{length-map}
use Rattle.std.specs.List.{flat_map}
use Rattle.format.specs.Fields.{fields, range}
use Rattle.format.specs.Words.{value_of, word}
use Rattle.format.specs.Policy.{Policy}
use Rattle.faults.specs.declared.layers.FrameFault.{FrameFault}
use Rattle.faults.specs.declared.layers.FrameFault.TheVariants.{Length, BadWord, NoRoom}
use Rattle.faults.specs.declared.layers.StoreFault.TheVariants.{Full, NotHeld}
use Rattle.faults.specs.declared.layers.TableFault.TheVariants as table
use Rattle.faults.specs.declared.layers.BenchFault.TheVariants.{Store, Table, Frame as FrameFaulty}
use Rattle.frames.specs.Frames.{FrameValues, FieldWord, frame_words}
use Rattle.frames.proofs.Words.{words_from_places}
use Rattle.checking.specs.Checking.{Accepted}
use Rattle.weights.specs.Weights.{Ops, Laws}
use Rattle.tables.specs.Rows.{Row, table_words}
use Rattle.tables.specs.Emits.{Sent, sent_words, sent_length, Answer}
use Rattle.tables.specs.Forwards.{Refused as FrameRefused}
use Rattle.listing.specs.Rows.{rows_of}
use Rattle.meaning.specs.Decide.{decide}
use Rattle.meaning.specs.Leaves.{Frame}
use Rattle.meaning.specs.Diagrams.{Diagram}
use Rattle.meaning.specs.Constructions.{round}
use Rattle.requests.specs.Requests.{Request, Records}
use Rattle.requests.proofs.Claims.{rules_cover, star_answers, compile_answers}
use Rattle.requests.proofs.Holding.{joins_hold, sequences_hold, stars_hold, compiled_hold}
use Rattle.faults.specs.declared.layers.StoreFault.{StoreFault}
use Rattle.stored.specs.Stored.{Stored, Holdings, diagram, Has}
use Rattle.stored.specs.Grows.{Adds, Fits, Over, size}
use Rattle.stored.specs.Calls.{Constructs, built as constructed, full as overfull, not_held as missing}
use Rattle.stored.proofs.Growth.{all_inside, more_records, asked_there}
use Rattle.stored.proofs.Filling.{fewer, added_or_over, has_word}
use Rattle.steps.specs.States.{State, TableOf, opened}
use Rattle.steps.specs.Sound.{SoundStores, Sound}
use Rattle.steps.specs.Steps.{Call, Compile, Union, Sequence, Star, Install, Forward, Reply, Word, Installed, Written, Refused, Builds, of_policy, of_union, of_sequence, of_star, Unheld, union_first, union_second, sequence_first, sequence_second, star_operand, install_operand, not_held, full, table_full, no_frame, Step, refused, built, installed, sent, with_stored, with_table}
use Rattle.steps.specs.Replies.{Possible, Decided, EveryCallIsDecided}
use Rattle.steps.specs.Ledgers.{Ledger, no_entries, Event, Account}
use Rattle.steps.proofs.Stores.{diagram_formed}
use Rattle.steps.proofs.Law.{ends, opened_good}
use Rattle.steps.proofs.Performing.{accounted}
use Rattle.steps.proofs.Forwarding.{in_range, answer_of, table_emits}
use Rattle.steps.proofs.Refusals.{fault_once, exactly, length_sent, too_many}

-- a step with this call
abbrev Going : Ops → State → Call → Type 0
Going o s c = (r : Reply) × (s' : State) × Step o s c r s'

-- whether words are those of a frame

right_word : (f w : ℕ) → Dec (FieldWord f w)
right_word f w = go (decide w (word 9 f (value_of w))) (fewer (value_of w) (range f))
  where
    go : Dec (w ≡ word 9 f (value_of w)) → (value_of w < range f) ⊎ (range f ≤ value_of w) → Dec (FieldWord f w)
    go (yes e) (inl l) = yes (e, l)
    go (yes e) (inr l) = no (λ h. let a = h.1 in omega (arith, l, a))
    go (no h) x = no (λ k. h k.0)

-- the first wrong word
abbrev FirstWrong : List ℕ → ℕ → Type 0
FirstWrong ws n = (i : ℕ) × (i < n) × ((f : ℕ) → f < i → FieldWord f (get_or ws f 0)) × (FieldWord i (get_or ws i 0) → ⊥)

abbrev AllRight : List ℕ → ℕ → Type 0
AllRight ws n = (f : ℕ) → f < n → FieldWord f (get_or ws f 0)

first_wrong : (ws : List ℕ) (n : ℕ) → FirstWrong ws n ⊎ AllRight ws n
first_wrong ws zero = inr (λ f h. absurd (omega (arith, h)))
first_wrong ws (suc n) = go (first_wrong ws n) (right_word n (get_or ws n 0))
  where
    go : FirstWrong ws n ⊎ AllRight ws n → Dec (FieldWord n (get_or ws n 0)) → FirstWrong ws (suc n) ⊎ AllRight ws (suc n)
    go (inl (i, l, g, h)) d = inl (i, omega (arith, l), g, h)
    go (inr g) (no h) = inl (n, omega arith, g, h)
    go (inr g) (yes r) = inr all
      where
        all : AllRight ws (suc n)
        all f l = pick (decide f n)
          where
            pick : Dec (f ≡ n) → FieldWord f (get_or ws f 0)
            pick (yes e) = subst (λ (k : ℕ). FieldWord k (get_or ws k 0)) (sym e) r
            pick (no h) = g f (omega (arith, l, h))

value_at : (ws : List ℕ) (k : ℕ) → get_or (map value_of ws) k 0 ≡ value_of (get_or ws k 0)
value_at [] k = omega arith
value_at (w ∷ ws) zero = refl
value_at (w ∷ ws) (suc k) = value_at ws k

-- words of a frame, or their fault
abbrev AFrame : List ℕ → Type 0
AFrame ws = (v : Frame) × FrameValues v × (ws ≡ frame_words v)

-- a fault of words, whatever the table and the memory
abbrev NoneSuch : Ops → List ℕ → FrameFault → Type 0
NoneSuch o ws f = (rows : List Row) (n : ℕ) → FrameRefused o rows ws n f

frame_or_fault : (o : Ops) (ws : List ℕ) → AFrame ws ⊎ ((f : FrameFault) × NoneSuch o ws f)
frame_or_fault o ws = go (decide (length ws) fields) (first_wrong ws fields)
  where
    a_frame : length ws ≡ fields → AllRight ws fields → AFrame ws
    a_frame e g = (map value_of ws, record { one_each = long; in_range = λ f l. subst (λ (x : ℕ). x < range f) (sym (value_at ws f)) (g f l).1 }, words)
      where
        long : length (map value_of ws) ≡ fields
        long = length-map ws value_of ∙ e

        words : ws ≡ frame_words (map value_of ws)
        words = words_from_places ws (map value_of ws) (sym (length-map ws value_of)) (λ k l. (g k (omega (arith, long, l))).0 ∙ ap (word 9 k) (sym (value_at ws k)))

    go : Dec (length ws ≡ fields) → FirstWrong ws fields ⊎ AllRight ws fields → AFrame ws ⊎ ((f : FrameFault) × NoneSuch o ws f)
    go (no h) x = inr (Length, λ rows n. h)
    go (yes e) (inl (i, l, g, h)) = inr (BadWord i, λ rows n. (e, l, g, h))
    go (yes e) (inr g) = inl (a_frame e g)

held_or_not : (s : Stored) (x : ℕ) → ((d : Diagram) × (diagram s x ≡ Some d)) ⊎ (diagram s x ≡ None)
held_or_not s x = go (diagram s x) refl
  where
    go : (y : Option Diagram) → diagram s x ≡ y → ((d : Diagram) × (diagram s x ≡ Some d)) ⊎ (diagram s x ≡ None)
    go None e = inr e
    go (Some d) e = inl (d, e)

-- every record of what is built is in store
built_records : (o : Ops) (s : State) → SoundStores o s → (c : Call) (r : Diagram) (asks : List Request) (m : Stored) → Builds o s.stored c r asks → Adds s.stored asks m → Records (Has m) r
built_records o s h c r asks m (of_policy l k) g = compiled_hold (Has m) k (asked_there s.stored asks m g)
built_records o s h c r asks m (of_union {x = x} {y = y} {d = d} {e = e} p q k) g =
    joins_hold (Has m) k (asked_there s.stored asks m g) (more_records s.stored m g.grown d (all_inside s.rooms s.stored h.whole x d p)) (more_records s.stored m g.grown e (all_inside s.rooms s.stored h.whole y e q))
built_records o s h c r asks m (of_sequence {x = x} {y = y} {d = d} {e = e} p q k) g =
    sequences_hold (Has m) k (asked_there s.stored asks m g) (more_records s.stored m g.grown e (all_inside s.rooms s.stored h.whole y e q)) (more_records s.stored m g.grown d (all_inside s.rooms s.stored h.whole x d p))
built_records o s h c r asks m (of_star {x = x} {d = d} p k) g =
    stars_hold (Has m) k (asked_there s.stored asks m g) (more_records s.stored m g.grown d (all_inside s.rooms s.stored h.whole x d p))

module _ {o : Ops} (L : Laws o) (s : State) (S : Sound o s) where
  -- what the rules build is added, or is too much
  settled : (c : Call) (r : Diagram) (asks : List Request) → Builds o s.stored c r asks → Going o s c
  settled c r asks b = go (added_or_over s.rooms s.stored S.stores.whole asks)
    where
      go : ((m : Stored) × Adds s.stored asks m × Fits s.rooms m) ⊎ Over (size s.rooms) s.stored asks → Going o s c
      go (inl (m, a, f)) = (Word W.0, with_stored s m, built b (record { adds = a; its_word = W.1; fits = f }))
        where
          W : (w : ℕ) × (diagram m w ≡ Some r)
          W =
              let x = f.leaves in let y = f.nodes in let z = S.stores.few in
              has_word m (omega (arith, x, z)) (omega (arith, y, z)) r (built_records o s S.stores c r asks m b a)
      go (inr x) = (Refused (Store Full), s, refused (full b x))

  unheld : (c : Call) (place : ℕ) → Unheld s.stored c place → Going o s c
  unheld c place u = (Refused (Store (NotHeld place)), s, refused (not_held u))

  compiles : (ws : List ℕ) (p : Policy) → Accepted ws p → Going o s (Compile ws)
  compiles ws p a = let C = compile_answers o L p a.legal in settled (Compile ws) C.0 C.2.asks (of_policy a C.2.by_the_rules)

  unites : (x y : ℕ) → Going o s (Union x y)
  unites x y = go (held_or_not s.stored x) (held_or_not s.stored y)
    where
      go : ((d : Diagram) × (diagram s.stored x ≡ Some d)) ⊎ (diagram s.stored x ≡ None) → ((e : Diagram) × (diagram s.stored y ≡ Some e)) ⊎ (diagram s.stored y ≡ None) → Going o s (Union x y)
      go (inr p) k = unheld (Union x y) 0 (union_first p)
      go (inl (d, p)) (inr q) = unheld (Union x y) 1 (union_second p q)
      go (inl (d, p)) (inl (e, q)) = let C = (rules_cover o).join_covers d e in settled (Union x y) C.0 C.1 (of_union p q C.2)

  follows : (x y : ℕ) → Going o s (Sequence x y)
  follows x y = go (held_or_not s.stored x) (held_or_not s.stored y)
    where
      go : ((d : Diagram) × (diagram s.stored x ≡ Some d)) ⊎ (diagram s.stored x ≡ None) → ((e : Diagram) × (diagram s.stored y ≡ Some e)) ⊎ (diagram s.stored y ≡ None) → Going o s (Sequence x y)
      go (inr p) k = unheld (Sequence x y) 0 (sequence_first p)
      go (inl (d, p)) (inr q) = unheld (Sequence x y) 1 (sequence_second p q)
      go (inl (d, p)) (inl (e, q)) = let C = (rules_cover o).sequence_covers d e in settled (Sequence x y) C.0 C.1 (of_sequence p q C.2)

  repeats : (x : ℕ) → Going o s (Star x)
  repeats x = go (held_or_not s.stored x)
    where
      go : ((d : Diagram) × (diagram s.stored x ≡ Some d)) ⊎ (diagram s.stored x ≡ None) → Going o s (Star x)
      go (inr p) = unheld (Star x) 0 (star_operand p)
      go (inl (d, p)) = let C = star_answers o L d (diagram_formed o s S.stores x d p) in settled (Star x) (round o d C.0) C.1.asks (of_star p C.1.by_the_rules)

  installs : (x : ℕ) → Going o s (Install x)
  installs x = go (held_or_not s.stored x)
    where
      fit : (d : Diagram) → diagram s.stored x ≡ Some d → (s.table_room < length (table_words (rows_of d))) ⊎ (length (table_words (rows_of d)) ≤ s.table_room) → Going o s (Install x)
      fit d p (inl l) = (Refused (Table table.Full), s, refused (table_full p l))
      fit d p (inr l) = (Installed (length (table_words (rows_of d))), with_table s (table_words (rows_of d)), installed p l)

      go : ((d : Diagram) × (diagram s.stored x ≡ Some d)) ⊎ (diagram s.stored x ≡ None) → Going o s (Install x)
      go (inr p) = unheld (Install x) 0 (install_operand p)
      go (inl (d, p)) = fit d p (fewer s.table_room (length (table_words (rows_of d))))

  table_there : TableOf o s.table (rows_of S.table.listed)
  table_there = record { legal = S.table.legal; words = S.table.words }

  framed : (ws : List ℕ) (n : ℕ) (v : Frame) → FrameValues v → ws ≡ frame_words v → Going o s (Forward ws n)
  framed ws n v r e = go (fewer n (sent_length * length A.0))
    where
      A : (xs : List Sent) × Answer o (rows_of S.table.listed) v xs
      A = answer_of L S.table.listed S.table.formed v (in_range v r)

      long : length (flat_map sent_words A.0) ≡ sent_length * length A.0
      long = length_sent A.0 (λ x i. table_emits L S.table.listed S.table.formed v r x.frame (λ z. (A.1.sound x i).1 (sym (A.1.sound x i).0 ∙ z)))

      go : (n < sent_length * length A.0) ⊎ (sent_length * length A.0 ≤ n) → Going o s (Forward ws n)
      go (inl l) = (Refused (FrameFaulty NoRoom), s, refused (no_frame table_there (v, r, e, too_many o (rows_of S.table.listed) v A.0 A.1 n l)))
      go (inr l) = (
        Written (flat_map sent_words A.0),
        s,
        sent table_there (record { frame = v; is_frame = r; its_words = e; answer = A.0; right = A.1; written = refl; fit = omega (arith, l, long) }),
      )

  forwards : (ws : List ℕ) (n : ℕ) → Going o s (Forward ws n)
  forwards ws n = go (frame_or_fault o ws)
    where
      go : AFrame ws ⊎ ((f : FrameFault) × NoneSuch o ws f) → Going o s (Forward ws n)
      go (inl (v, r, e)) = framed ws n v r e
      go (inr (f, h)) = (Refused (FrameFaulty f), s, refused (no_frame table_there (h (rows_of S.table.listed) n)))

  some_step : (c : Call) → Possible c → Going o s c
  some_step (Compile ws) (p, a) = compiles ws p a
  some_step (Union x y) h = unites x y
  some_step (Sequence x y) h = follows x y
  some_step (Star x) h = repeats x
  some_step (Install x) h = installs x
  some_step (Forward ws n) h = forwards ws n

  pub decided : Decided o s
  decided =
      record {
        some_step = some_step;
        one_refusal = fault_once L s S.table;
        not_both = λ c r s' f h k. (exactly L s S.table c r s' h f).1 k;
      }

pub every_call : EveryCallIsDecided
every_call o L z h cs rs s k = decided L s (ends L (opened z) s (no_entries o) A.1 cs rs A.0 (opened_good L z h) A.2).good.sound
  where
    A : (es : List Event) × (l : Ledger) × Account o (opened z) (no_entries o) cs rs es s l
    A = accounted L (opened z) (no_entries o) (opened_good L z h) cs rs s k

-- the reply of a call that constructs
abbrev pub construct_reply : Result ℕ StoreFault → Reply
construct_reply (Ok w) = Word w
construct_reply (Err f) = Refused (Store f)

-- what holds of the stores alone is a step of the bench
pub construct_step : (o : Ops) (s : State) (c : Call) (r : Result ℕ StoreFault) (h : Holdings) → Constructs o (record { stored = s.stored; rooms = s.rooms }) c r h → Step o s c (construct_reply r) (with_stored s h.stored)
construct_step o s c r h (constructed b g) = built b g
construct_step o s c r h (overfull b x) = refused (full b x)
construct_step o s c r h (missing u) = refused (not_held u)
