-- What holds of every chain of steps. Assumes nothing.
use Rattle.std.proofs.Common.{◌≡◌, ℕ, ◌*◌, ◌<◌, ◌≤◌, List, [], ◌∷◌, ◌++◌, length, Bool, true, false, Some, Option, sym, refl, ap, ◌∙◌, subst, arith, length-append, append-nil, append_assoc, true≢false}
use Rattle.std.specs.Prelude.{◌↔◌}
use Rattle.std.specs.List.{flat_map}
use Rattle.format.specs.Words.{value_end, word}
use Rattle.faults.specs.declared.layers.FrameFault.TheVariants.{NoRoom}
use Rattle.faults.specs.declared.layers.BenchFault.TheVariants.{Frame as FrameFaulty}
use Rattle.frames.specs.Frames.{frame_words}
use Rattle.format.specs.Policy.{Policy}
use Rattle.checking.proofs.Determinism.{determined}
use Rattle.weights.specs.Weights.{Ops, Laws}
use Rattle.weights.specs.Order.{In}
use Rattle.tables.specs.Rows.{Row, row_words, LegalRows, table_words}
use Rattle.tables.specs.Emits.{Sent, sent_length, sent_words, Answer}
use Rattle.tables.specs.Forwards.{Refused as FrameRefused}
use Rattle.tables.proofs.Answers.{answer_unique}
use Rattle.listing.specs.Rows.{rows_of}
use Rattle.listing.specs.Tables.{ShortLists}
use Rattle.listing.proofs.Legal.{short_lists}
use Rattle.meaning.specs.Decide.{choice, decide}
use Rattle.meaning.specs.Leaves.{Frame, Each}
use Rattle.meaning.specs.Diagrams.{Diagram, Formed, weigh}
use Rattle.meaning.specs.Frames.{InRange}
use Rattle.meaning.specs.Meanings.{Meaning, Means, Alike}
use Rattle.meaning.proofs.Compiling.{means_alike}
use Rattle.requests.specs.Requests.{Request}
use Rattle.counts.specs.declared.memory.Sizes.{Sizes}
use Rattle.counts.specs.Memory.{AllFit}
use Rattle.stored.specs.Stored.{Stored, diagram, Grown}
use Rattle.stored.specs.Grows.{Grows}
use Rattle.stored.proofs.Numbers.{each_in, each_weaker}
use Rattle.stored.proofs.Growth.{whole_after, formed_after, diagram_grown}
use Rattle.steps.specs.States.{State, TableOf, opened}
use Rattle.steps.specs.Sound.{Lists, Sound}
use Rattle.steps.specs.Steps.{Call, Install, Forward, Reply, Word, Installed, Written, Refused, Refuses, Builds, of_policy, of_union, of_sequence, of_star, not_held, full, no_frame, Sends, Step, refused, built, installed, sent, with_stored, with_table}
use Rattle.steps.specs.Ledgers.{Ledger, no_entries, walk_of, latest, stands_for, entered, Enters, by_compile, by_union, by_sequence, by_star, by_install, by_forward, by_refused, Event, Account, done, next}
use Rattle.steps.specs.Promises.{ItsWord, Emits, Forwards, Keeps, Stays}
use Rattle.steps.specs.Law.{Law as Lawful}
use Rattle.steps.proofs.Stores.{diagram_formed, one_word_for_equal}
use Rattle.steps.proofs.Building.{same_diagram, policy_made, union_made, sequence_made, star_made, built_formed, built_inside}
use Rattle.steps.proofs.Meanings.{union_alike, sequence_alike, star_alike}
use Rattle.steps.proofs.Forwarding.{its_rows, same_frame, frame_values, answer_emits, one_list, answer_of, table_emits}
use Rattle.steps.proofs.Refusals.{exactly, sent_fits, length_sent, too_many}
use Rattle.steps.proofs.Opening.{opened_sound, drop_listed}

-- the word is held, and its diagram's weights are m
pub record Stands (o : Ops) (s : Stored) (w : ℕ) (m : Meaning) : Type 0 where
  pub of : Diagram
  pub held : diagram s w ≡ Some of
  pub weighs : Alike (weigh o of) m

-- the table in force lists a diagram whose weights are m
pub record InForce (o : Ops) (s : State) (m : Meaning) : Type 0 where
  pub table : Lists o s.table
  pub weighs : Alike (weigh o table.listed) m

-- what holds of a state and its ledger after every call
pub record Good (o : Ops) (s : State) (l : Ledger) : Type 0 where
  pub sound : Sound o s
  pub entries : Each (λ e. Stands o s.stored e.0 e.1) l.entries
  pub in_force : InForce o s l.in_force

pub alike_trans : (a b c : Meaning) → Alike a b → Alike b c → Alike a c
alike_trans a b c p q s t x y = p s t x y ∙ q s t x y

pub alike_sym : (a b : Meaning) → Alike a b → Alike b a
alike_sym a b p s t x y = sym (p s t x y)

-- soundness

pub table_legal : (o : Ops) (d : Diagram) (n : ℕ) → Formed o d → length (table_words (rows_of d)) ≤ n → n ≤ value_end → LegalRows o (rows_of d)
table_legal o d n f h k = (S.legal d f refl).rows
  where
    rows : List Row
    rows = rows_of d

    S : ShortLists o (length (table_words rows)) (length (flat_map row_words rows))
    S =
        short_lists o (length (table_words rows)) (length (flat_map row_words rows)) (sym (length-append (flat_map row_words rows) (word 14 0 (length rows) ∷ [])))
        (omega (arith, h, k))

abbrev lists_diagram : (o : Ops) (d : Diagram) (n : ℕ) → Formed o d → length (table_words (rows_of d)) ≤ n → n ≤ value_end → Lists o (table_words (rows_of d))
lists_diagram o d n f h k = record { listed = d; formed = f; legal = table_legal o d n f h k; words = refl }

-- what is kept

pub keeps_of : (s s' : State) → Grown s.stored s'.stored → Keeps s s'
keeps_of s s' g = record { records = g; words = diagram_grown s.stored s'.stored g }

abbrev the_same : (s : Stored) → Grown s s
the_same s =
    record {
      new_actions = [];
      actions_grown = sym (append-nil s.actions);
      new_leaves = [];
      leaves_grown = sym (append-nil s.leaves);
      new_nodes = [];
      nodes_grown = sym (append-nil s.nodes);
    }

abbrev both_grown : (s m s' : Stored) → Grown s m → Grown m s' → Grown s s'
both_grown s m s' g h =
    record {
      new_actions = g.new_actions ++ h.new_actions;
      actions_grown = h.actions_grown ∙ ap (λ (x : _). x ++ h.new_actions) g.actions_grown ∙ append_assoc s.actions g.new_actions h.new_actions;
      new_leaves = g.new_leaves ++ h.new_leaves;
      leaves_grown = h.leaves_grown ∙ ap (λ (x : _). x ++ h.new_leaves) g.leaves_grown ∙ append_assoc s.leaves g.new_leaves h.new_leaves;
      new_nodes = g.new_nodes ++ h.new_nodes;
      nodes_grown = h.nodes_grown ∙ ap (λ (x : _). x ++ h.new_nodes) g.nodes_grown ∙ append_assoc s.nodes g.new_nodes h.new_nodes;
    }

pub keeps_same : (s s' : State) → s'.stored ≡ s.stored → Keeps s s'
keeps_same s s' e = keeps_of s s' (subst (λ (x : Stored). Grown s.stored x) (sym e) (the_same s.stored))

pub keeps_both : (s m s' : State) → Keeps s m → Keeps m s' → Keeps s s'
keeps_both s m s' p q = keeps_of s s' (both_grown s.stored m.stored s'.stored p.records q.records)

pub step_keeps : (o : Ops) (s : State) (c : Call) (r : Reply) (s' : State) → Step o s c r s' → Keeps s s'
step_keeps o s c r s' (refused h) = keeps_same s s refl
step_keeps o s c r s' (built {m = m} b g) = keeps_of s (with_stored s m) g.adds.grown
step_keeps o s c r s' (installed {d = d} p k) = keeps_same s (with_table s (table_words (rows_of d))) refl
step_keeps o s c r s' (sent h k) = keeps_same s s refl

install_is : (o : Ops) (s : State) (l : Ledger) (x : ℕ) {n : ℕ} (l' : Ledger) → Enters o s l (Install x) (Installed n) l' → l' ≡ record { entries = l.entries; in_force = stands_for o s l x }
install_is o s l x l' by_install = refl

own_entry : (w : ℕ) (m : Meaning) (es : List (ℕ × Meaning)) (x : Meaning) → Alike m (latest ((w, m) ∷ es) w x)
own_entry w m es x = go (decide w w)
  where
    go : (d : Dec (w ≡ w)) → Alike m (choice d m (latest es w x))
    go (yes e) = λ s t a b. refl
    go (no h) = absurd (h refl)

abbrev word_in : Reply → ℕ
word_in (Word w) = w
word_in (Installed n) = 0
word_in (Written ws) = 0
word_in (Refused f) = 0

abbrev is_word : Reply → Bool
is_word (Word w) = true
is_word (Installed n) = false
is_word (Written ws) = false
is_word (Refused f) = false

no_word : (r : Reply) → is_word r ≡ false → (w : ℕ) → r ≡ Word w → ⊥
no_word r e w p = true≢false (sym (ap is_word p) ∙ e)

module _ {o : Ops} (L : Laws o) where
  pub grown_sound : (s : State) → Sound o s → (c : Call) (r : Diagram) (asks : List Request) (w : ℕ) (m : Stored) → Builds o s.stored c r asks → Grows s.rooms s.stored asks r w m → Sound o (with_stored s m)
  grown_sound s h c r asks w m b g =
      record {
        stores = record {
          whole = whole_after s.stored asks m g.adds s.rooms h.stores.whole g.fits (built_inside o s h.stores c r asks m b g.adds);
          formed = formed_after s.stored asks m g.adds h.stores.formed (built_formed L s h.stores c r asks b).1;
          few = h.stores.few;
        };
        table = h.table;
        countable = h.countable;
      }

  -- a bench stays sound
  pub sound_next : (s s' : State) (c : Call) (r : Reply) → Sound o s → Step o s c r s' → Sound o s'
  sound_next s s' c r h (refused k) = h
  sound_next s s' c r h (built {r = d} {asks = a} {w = w} {m = m} b g) = grown_sound s h c d a w m b g
  sound_next s s' c r h (installed {x = x} {d = d} p k) =
      record {
        stores = record { whole = h.stores.whole; formed = h.stores.formed; few = h.stores.few };
        table = lists_diagram o d s.table_room (diagram_formed o s h.stores x d p) k h.countable;
        countable = h.countable;
      }
  sound_next s s' c r h (sent k j) = h

  -- what words stand for

  latest_alike : (s : Stored) (w : ℕ) (d : Diagram) → diagram s w ≡ Some d → (es : List (ℕ × Meaning)) → Each (λ e. Stands o s e.0 e.1) es → Alike (weigh o d) (latest es w (weigh o d))
  latest_alike s w d p [] h = λ a b x y. refl
  latest_alike s w d p (e ∷ es) h = go (decide e.0 w) (latest_alike s w d p es h.1)
    where
      go : (k : Dec (e.0 ≡ w)) → Alike (weigh o d) (latest es w (weigh o d)) → Alike (weigh o d) (choice k e.1 (latest es w (weigh o d)))
      go (yes q) a = subst (λ (u : Diagram). Alike (weigh o u) e.1) (same_diagram s w h.0.of d (subst (λ (v : ℕ). diagram s v ≡ Some h.0.of) q h.0.held) p) h.0.weighs
      go (no q) a = a

  pub stands_alike : (s : State) (l : Ledger) → Each (λ e. Stands o s.stored e.0 e.1) l.entries → (w : ℕ) (d : Diagram) → diagram s.stored w ≡ Some d → Alike (weigh o d) (stands_for o s l w)
  stands_alike s l h w d p = subst (λ (x : Option Diagram). Alike (weigh o d) (latest l.entries w (walk_of o x))) (sym p) (latest_alike s.stored w d p l.entries h)

  -- the entry that a call makes is what the diagram built weighs
  record Entry (r : Diagram) (w : ℕ) (l l' : Ledger) : Type 0 where
    pub meaning : Meaning
    pub is : l' ≡ entered w meaning l
    pub weighs : Alike (weigh o r) meaning

  entry : (s : State) (l : Ledger) → Good o s l → (c : Call) (r : Diagram) (asks : List Request) (w : ℕ) (l' : Ledger) → Builds o s.stored c r asks → Enters o s l c (Word w) l' → Entry r w l l'
  entry s l G c r asks w l' (of_policy {ws = ws} {p = p} a b) (by_compile {p = q} {m = m} a' x) =
      record {
        meaning = m;
        is = refl;
        weighs =
            means_alike L p (weigh o r) m (policy_made L p a.legal r asks b).means
            (subst (λ (u : Policy). Means o u m) ((determined ws).one_policy q p a'.legal a.legal a'.words a.words) x);
      }
  entry s l G c r asks w l' (of_union {x = u} {y = v} {d = d} {e = e} p q b) (by_union {m = m} x) =
      record {
        meaning = m;
        is = refl;
        weighs =
            union_alike L (weigh o d) (weigh o e) (stands_for o s l u) (stands_for o s l v) (weigh o r) m (stands_alike s l G.entries u d p) (stands_alike s l G.entries v e q)
            (union_made L d e (diagram_formed o s G.sound.stores u d p) (diagram_formed o s G.sound.stores v e q) r asks b).means x;
      }
  entry s l G c r asks w l' (of_sequence {x = u} {y = v} {d = d} {e = e} p q b) (by_sequence {m = m} x) =
      record {
        meaning = m;
        is = refl;
        weighs =
            sequence_alike L (weigh o d) (weigh o e) (stands_for o s l u) (stands_for o s l v) (weigh o r) m (stands_alike s l G.entries u d p) (stands_alike s l G.entries v e q)
            (sequence_made L d e (diagram_formed o s G.sound.stores u d p) (diagram_formed o s G.sound.stores v e q) r asks b).means x;
      }
  entry s l G c r asks w l' (of_star {x = u} {d = d} p b) (by_star {m = m} x) =
      record {
        meaning = m;
        is = refl;
        weighs =
            star_alike L (weigh o d) (stands_for o s l u) (weigh o r) m (stands_alike s l G.entries u d p)
            (star_made L d (diagram_formed o s G.sound.stores u d p) r asks b).means x;
      }

  -- the invariant goes on

  stays : (s s' : Stored) → ((v : ℕ) (d : Diagram) → diagram s v ≡ Some d → diagram s' v ≡ Some d) → (w : ℕ) (m : Meaning) → Stands o s w m → Stands o s' w m
  stays s s' f w m h = record { of = h.of; held = f w h.of h.held; weighs = h.weighs }

  pub good_next : (s s' : State) (l l' : Ledger) (c : Call) (r : Reply) → Good o s l → Step o s c r s' → Enters o s l c r l' → Good o s' l'
  good_next s s' l l' c r G (refused h) by_refused = G
  good_next s s' l l' c r G (built {r = d} {asks = a} {w = w} {m = m} b g) n =
      subst (Good o (with_stored s m)) (sym E.is)
      (record {
        sound = grown_sound s G.sound c d a w m b g;
        entries = (record { of = d; held = g.its_word; weighs = E.weighs }, each_weaker _ _ l.entries (λ e k. stays s.stored m (diagram_grown s.stored m g.adds.grown) e.0 e.1 k) G.entries);
        in_force = record { table = G.in_force.table; weighs = G.in_force.weighs };
      })
    where
      E : Entry d w l l'
      E = entry s l G c d a w l' b n
  good_next s s' l l' c r G (installed {x = x} {d = d} p k) n =
      subst (Good o (with_table s (table_words (rows_of d)))) (sym (install_is o s l x l' n))
      (record {
        sound = sound_next s (with_table s (table_words (rows_of d))) (Install x) (Installed (length (table_words (rows_of d)))) G.sound (installed p k);
        entries = G.entries;
        in_force = record { table = lists_diagram o d s.table_room (diagram_formed o s G.sound.stores x d p) k G.sound.countable; weighs = stands_alike s l G.entries x d p };
      })
  good_next s s' l l' c r G (sent h k) by_forward = G

  -- what a call answers

  pub its_word :
      (s m last : State) (l k : Ledger) (c : Call) (r : Reply) → Good o s l → Step o s c r m → Enters o s l c r k → Keeps m last → (w : ℕ) → r ≡ Word w →
      ItsWord o (record { call = c; reply = r; found = s; left = m; before = l; after = k }) w last
  its_word s m last l k c r G (refused {f = f} h) n q w e = absurd (no_word (Refused f) refl w e)
  its_word s m last l k c r G (built {r = d} {asks = a} {w = v} {m = t} b g) n q w e =
      subst (λ (x : ℕ). ItsWord o (record { call = c; reply = Word v; found = s; left = with_stored s t; before = l; after = k }) x last) (ap word_in e)
      (record { given = d; asks = a; by_the_rules = b; its_word = q.words v d g.its_word; weighs = weighs })
    where
      E : Entry d v l k
      E = entry s l G c d a v k b n

      weighs : Alike (weigh o d) (stands_for o (with_stored s t) k v)
      weighs =
          subst (λ (x : Ledger). Alike (weigh o d) (stands_for o (with_stored s t) x v)) (sym E.is)
          (alike_trans (weigh o d) E.meaning (stands_for o (with_stored s t) (entered v E.meaning l) v) E.weighs (own_entry v E.meaning l.entries (walk_of o (diagram t v))))
  its_word s m last l k c r G (installed {d = d} p j) n q w e = absurd (no_word (Installed (length (table_words (rows_of d)))) refl w e)
  its_word s m last l k c r G (sent {out = out} h j) n q w e = absurd (no_word (Written out) refl w e)

  -- what is forwarded

  pub forwards : (s : State) (m : Meaning) → InForce o s m → (v : Frame) → InRange v → Forwards o s m v
  forwards s m F v i =
      record {
        emitted = A.0;
        emits = emits;
        one_list = λ xs h. one_list o m v xs A.0 h emits;
        fits = λ n h. record { step = sent table (sends n h); only = λ r s' k. only n h (frame_words v) refl r s' k };
        short = λ n h. record { step = refused (too_short n h); only = λ r s' k. ((exactly L s F.table (Forward (frame_words v) n) r s' k (FrameFaulty NoRoom)).1 (too_short n h), unchanged r s' k) };
      }
    where
      A : (xs : List Sent) × Answer o (rows_of F.table.listed) v xs
      A = answer_of L F.table.listed F.table.formed v i

      emits : Emits o m v A.0
      emits = answer_emits L F.table.listed F.table.formed m F.weighs v i A.0 A.1

      table : TableOf o s.table (rows_of F.table.listed)
      table = record { legal = F.table.legal; words = F.table.words }

      sends : (n : ℕ) → sent_length * length A.0 ≤ n → Sends o (rows_of F.table.listed) (frame_words v) n (flat_map sent_words A.0)
      sends n h = record { frame = v; is_frame = frame_values v i; its_words = refl; answer = A.0; right = A.1; written = refl; fit = omega (arith, h, long) }
        where
          long : length (flat_map sent_words A.0) ≡ sent_length * length A.0
          long = length_sent A.0 (λ x j. table_emits L F.table.listed F.table.formed v (frame_values v i) x.frame (λ z. (A.1.sound x j).1 (sym (A.1.sound x j).0 ∙ z)))

      too_short : (n : ℕ) → n < sent_length * length A.0 → Refuses o s (Forward (frame_words v) n) (FrameFaulty NoRoom)
      too_short n h = no_frame table (v, frame_values v i, refl, too_many o (rows_of F.table.listed) v A.0 A.1 n h)

      unchanged : {ws : List ℕ} {n : ℕ} (r : Reply) (s' : State) → Step o s (Forward ws n) r s' → s' ≡ s
      unchanged r s' (refused h) = refl
      unchanged r s' (built b g) = elim b [ ]
      unchanged r s' (sent h k) = refl

      only : (n : ℕ) → sent_length * length A.0 ≤ n → (ws : List ℕ) → ws ≡ frame_words v → (r : Reply) (s' : State) → Step o s (Forward ws n) r s' → (r ≡ Written (flat_map sent_words A.0)) × (s' ≡ s)
      only n h ws e r s' (refused (not_held u)) = elim u [ ]
      only n h ws e r s' (refused (full b k)) = elim b [ ]
      only n h ws e r s' (refused (no_frame {f = f} {rows = rows} t k)) =
          absurd (sent_fits L F.table.listed F.table.formed (frame_words v) n (flat_map sent_words A.0) f (sends n h)
          (subst (λ (x : List ℕ). FrameRefused o (rows_of F.table.listed) x n f) e (subst (λ (u : List Row). FrameRefused o u ws n f) (its_rows L s.table F.table rows t) k)))
      only n h ws e r s' (built b g) = elim b [ ]
      only n h ws e r s' (sent {out = out} {rows = rows} t k) = (ap {B = Reply} Written (S.written ∙ ap (flat_map sent_words) same), refl)
        where
          S : Sends o (rows_of F.table.listed) ws n out
          S = subst (λ (u : List Row). Sends o u ws n out) (its_rows L s.table F.table rows t) k

          same : S.answer ≡ A.0
          same = answer_unique o (rows_of F.table.listed) v S.answer A.0 (subst (λ (u : Frame). Answer o (rows_of F.table.listed) u S.answer) (sym (same_frame v S.frame (sym e ∙ S.its_words))) S.right) A.1

  -- chains

  -- what is known of a call that was made, in the state in which the series ends
  pub record Known (last : State) (e : Event) : Type 0 where
    pub good : Good o e.found e.before
    pub step : Step o e.found e.call e.reply e.left
    pub word : (w : ℕ) → e.reply ≡ Word w → ItsWord o e w last

  pub record Ends (es : List Event) (s last : State) (ledger : Ledger) : Type 0 where
    pub known : Each (Known last) es
    pub good : Good o last ledger
    pub keeps : Keeps s last
    -- all that was found since keeps what was held
    pub found : Each (λ e. Keeps s e.found) es
    pub stays : Stays es last

  one_more :
      (s m last : State) (l k ledger : Ledger) (c : Call) (r : Reply) (es : List Event) → Good o s l → Step o s c r m → Enters o s l c r k →
      Ends es m last ledger → Ends (record { call = c; reply = r; found = s; left = m; before = l; after = k } ∷ es) s last ledger
  one_more s m last l k ledger c r es G h n E =
      record {
        known = (record { good = G; step = h; word = its_word s m last l k c r G h n E.keeps }, E.known);
        good = E.good;
        keeps = keeps;
        found = (keeps_same s s refl, later);
        stays = (later, keeps, E.stays);
      }
    where
      keeps : Keeps s last
      keeps = keeps_both s m last (step_keeps o s c r m h) E.keeps

      later : Each (λ e. Keeps s e.found) es
      later = each_weaker (λ e. Keeps m e.found) (λ e. Keeps s e.found) es (λ e. keeps_both s m e.found (step_keeps o s c r m h)) E.found

  pub ends : (s last : State) (l ledger : Ledger) (cs : List Call) (rs : List Reply) (es : List Event) → Good o s l → Account o s l cs rs es last ledger → Ends es s last ledger
  ends s last l ledger cs rs es G done = record { known = tt; good = G; keeps = keeps_same s s refl; found = tt; stays = tt }
  ends s last l ledger cs rs es G (next {m = m} {k = k} {c = c} {cs = cs'} {r = r} {rs = rs'} {es = es'} h n a) =
      one_more s m last l k ledger c r es' G h n (ends m last k ledger cs' rs' es' (good_next s m l k c r G h n) a)

  pub lawful : (es : List Event) (s last : State) (ledger : Ledger) → Ends es s last ledger → Lawful o es last ledger
  lawful es s last ledger E =
      record {
        refusals = λ e f i. let k = known e i in exactly L e.found k.good.sound.table e.call e.reply e.left k.step f;
        words = λ e w i p. (known e i).word w p;
        equal_exactly = λ e f v w i j p q. equal e f v w ((known e i).word v p) ((known f j).word w q);
        forwards = λ e v i. forwards e.found e.before.in_force (known e i).good.in_force v;
        forwards_next = forwards last ledger.in_force E.good.in_force;
        stays = E.stays;
      }
    where
      known : (e : Event) → In e es → Known last e
      known = each_in (Known last) es E.known

      equal : (e f : Event) (v w : ℕ) → ItsWord o e v last → ItsWord o f w last → (v ≡ w) ↔ Alike (stands_for o e.left e.after v) (stands_for o f.left f.after w)
      equal e f v w E' F = (to, from)
        where
          to : v ≡ w → Alike (stands_for o e.left e.after v) (stands_for o f.left f.after w)
          to p =
              alike_trans (stands_for o e.left e.after v) (weigh o E'.given) (stands_for o f.left f.after w) (alike_sym (weigh o E'.given) (stands_for o e.left e.after v) E'.weighs)
              (subst (λ (d : Diagram). Alike (weigh o d) (stands_for o f.left f.after w)) (same_diagram last.stored w F.given E'.given F.its_word (subst (λ (x : ℕ). diagram last.stored x ≡ Some E'.given) p E'.its_word)) F.weighs)

          from : Alike (stands_for o e.left e.after v) (stands_for o f.left f.after w) → v ≡ w
          from h =
              one_word_for_equal L last E.good.sound.stores v w E'.given F.given E'.its_word F.its_word
              (alike_trans (weigh o E'.given) (stands_for o e.left e.after v) (weigh o F.given) E'.weighs
              (alike_trans (stands_for o e.left e.after v) (stands_for o f.left f.after w) (weigh o F.given) h (alike_sym (weigh o F.given) (stands_for o f.left f.after w) F.weighs)))

  pub opened_good : (z : Sizes) → AllFit z → Good o (opened z) (no_entries o)
  opened_good z h = record { sound = opened_sound o z h; entries = tt; in_force = record { table = drop_listed o; weighs = λ x y p q. refl } }
