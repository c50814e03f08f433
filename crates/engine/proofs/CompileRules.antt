-- Compiling word by word, over stores.
use Rattle.std.proofs.Common.{◌≡◌, ℕ, zero, suc, ◌+◌, ◌<◌, ◌≤◌, List, [], ◌∷◌, ◌++◌, map, length, take, drop, get_or, Ok, Err, Result, sym, refl, ap, ap₂, ◌∙◌, subst, subst₂, arith}
use Rattle.std.proofs.lemmas.List.{take-append-drop, take_more, length-drop, drop_all}
use Rattle.std.proofs.Math.Seq.{drop-cons}
use Rattle.weights.specs.Weights.{Ops, Laws}
use Rattle.format.specs.Limits.{waiting_limit}
use Rattle.format.specs.Words.{kind_of}
use Rattle.format.specs.Policy.{Policy, postfix}
use Rattle.format.specs.PolicyWords.{bits_of, LegalWord}
use Rattle.format.specs.declared.settings.PolicyWord.{PolicyWord}
use Rattle.checking.specs.Waiting.{Waits, Viable, operands}
use Rattle.checking.specs.Checking.{Accepted, LegalWords}
use Rattle.checking.proofs.Operands.{Grows, viable_waits}
use Rattle.checking.proofs.Growth.{waits_grows, grows_count, grows_enough, root_word}
use Rattle.checking.proofs.Policies.{policy_known}
use Rattle.meaning.specs.Leaves.{Each}
use Rattle.meaning.specs.Diagrams.{Diagram as MDiagram, Formed}
use Rattle.requests.specs.Requests.{Request}
use Rattle.requests.specs.Rules.{Compiled}
use Rattle.requests.specs.Claims.{Construction, AtLeastOne, AtMostOne}
use Rattle.requests.proofs.Claims.{compile_answers}
use Rattle.faults.specs.declared.layers.StoreFault.{StoreFault}
use Rattle.records.specs.declared.kinds.Diagram.{Diagram}
use Rattle.counts.specs.declared.counts.Counts.{Counts}
use Rattle.engine.specs.declared.memory.Stores.{Stores}
use Rattle.engine.specs.State.{State, diagram_of, Present, Grown}
use Rattle.engine.specs.Done.{SoundStores, NothingLost, Done}
use Rattle.engine.specs.InTurn.{Then}
use Rattle.engine.specs.Words.{by_bits, by_word, taken, Runs, IsWord}
use Rattle.engine.specs.Compiling.{CompiledFrom}
use Rattle.engine.proofs.Numbers.{each_map}
use Rattle.engine.proofs.Composing.{append_empty, same_diagram, present_grown, itself}
use Rattle.engine.proofs.Chain.{Pending, begin, step, halt, further, ready}
use Rattle.engine.proofs.NarrowRules.{here}
use Rattle.engine.proofs.WordRules.{word_bits, by_bits_once, runs_once, policy_run, taken_is, by_word_formed}

-- lists of diagrams and their words

each_drop : {X : Type 0} (P : X → Type 0) (n : ℕ) (l : List X) → Each P l → Each P (drop n l)
each_drop P zero l h = h
each_drop P (suc n) [] h = tt
each_drop P (suc n) (x ∷ l) h = each_drop P n l h.1

map_drop : {X Y : Type 0} (g : X → Y) (n : ℕ) (l : List X) → map g (drop n l) ≡ drop n (map g l)
map_drop g zero l = refl
map_drop g (suc n) [] = refl
map_drop g (suc n) (x ∷ l) = map_drop g n l

each_of_map : {X Y : Type 0} (P : Y → Type 0) (g : X → Y) (l : List X) → Each (λ x. P (g x)) l → Each P (map g l)
each_of_map P g [] h = tt
each_of_map P g (x ∷ l) h = (h.0, each_of_map P g l h.1)

map_same : {s s' : State} → Grown s s' → (l : List Diagram) → Each (Present s) l → map (diagram_of s') l ≡ map (diagram_of s) l
map_same g [] h = refl
map_same g (w ∷ l) h = ap₂ {C = List MDiagram} (λ (x : MDiagram) (y : List MDiagram). x ∷ y) (same_diagram g w h.0) (map_same g l h.1)

formed_same : (o : Ops) {s s' : State} → Grown s s' → (l : List Diagram) → Each (Present s) l → Each (λ w. Formed o (diagram_of s w)) l → Each (λ w. Formed o (diagram_of s' w)) l
formed_same o g [] h k = tt
formed_same o g (w ∷ l) h k = (subst (Formed o) (sym (same_diagram g w h.0)) k.0, formed_same o g l h.1 k.1)

-- so many words have been compiled
pub record CompileMade (o : Ops) (c : Counts) (s : Stores) (ws : List ℕ) (i : ℕ) (held : List Diagram) (c' : Counts) (s' : Stores) : Type 0 where
  pub policy : Policy
  pub accepted : Accepted ws policy
  pub asks : List Request
  pub pending : Pending (Compiled o policy) c s asks (Runs o (drop i ws) (map (diagram_of (here c' s')) held)) c' s'
  pub ahead : AtLeastOne (Runs o (drop i ws) (map (diagram_of (here c' s')) held))
  pub present : Each (Present (here c' s')) held
  pub formed : Each (λ w. Formed o (diagram_of (here c' s') w)) held
  pub before : List Policy
  pub waits : Waits (take i ws) before
  pub as_many : length before ≡ length held

-- what waits after the next word
next_waits : (ws : List ℕ) (p : Policy) → Accepted ws p → (i : ℕ) → i < length ws → (ps : List Policy) → Waits (take i ws) ps → (qs : List Policy) × Waits (take (i + 1) ws) qs × Grows (get_or ws i 0) ps qs × (length qs ≤ waiting_limit)
next_waits ws p a i h ps w =
    let v : Viable (take (i + 1) ws) = record { policy = p; rest = drop (i + 1) ws; legal = a.legal; words = a.words ∙ sym (take-append-drop (i + 1) ws) } in
    let q = viable_waits (take (i + 1) ws) v in
    (q.0, q.1, waits_grows (take i ws) (get_or ws i 0) ps q.0 w (subst (λ (l : List ℕ). Waits l q.0) (take_more ws i 0 h) q.1), a.shallow (i + 1) (omega arith) q.0 q.1)

empty_end : (l : List Request) → l ++ [] ≡ l
empty_end l = append_empty l

empty_words : (l : List ℕ) → l ++ [] ≡ l
empty_words [] = refl
empty_words (x ∷ l) = ap {B = List ℕ} (λ y. x ∷ y) (empty_words l)

module _ {o : Ops} (L : Laws o) where
  pub compile_started : {c : Counts} {s : Stores} {ws : List ℕ} {held : List Diagram} → LegalWords ws → SoundStores c s → held ≡ [] → CompileMade o c s ws 0 held c s
  compile_started {c} {s} {ws} {held} l g e =
      let K = policy_known ws l in
      let A = compile_answers o L K.0 K.1.legal in
      let run : Runs o (postfix K.0 ++ []) [] A.0 (A.2.asks ++ []) = policy_run o K.0 K.1.legal [] [] A.0 [] A.2.by_the_rules (refl, refl) in
      let run' : Runs o ws [] A.0 A.2.asks = subst₂ (λ (v : List ℕ) (y : List Request). Runs o v [] A.0 y) (empty_words (postfix K.0) ∙ K.1.words) (empty_end A.2.asks) run in
      subst (λ (h : List Diagram). CompileMade o c s ws 0 h c s) (sym e)
      (record {
        policy = K.0;
        accepted = K.1;
        asks = [];
        pending = begin (Runs o ws []) g (λ r x h. let U = runs_once o ws [] r A.0 x A.2.asks h run' in subst₂ (λ (y : MDiagram) (z : List Request). Compiled o K.0 y z) (sym U.0) (sym U.1) A.2.by_the_rules);
        ahead = (A.0, A.2.asks, run');
        present = tt;
        formed = tt;
        before = [];
        waits = record { legal = tt; words = refl };
        as_many = refl;
      })

module _ {o : Ops} (L : Laws o) {c : Counts} {s : Stores} {ws : List ℕ} {i : ℕ} {held : List Diagram} {c' : Counts} {s' : Stores} (m : CompileMade o c s ws i held c' s') where
  module _ (h : i < length ws) where
    pub word_known : IsWord (get_or ws i 0)
    word_known =
        let N = next_waits ws m.policy m.accepted i h m.before m.waits in
        let R = root_word N.2.tree N.2.legal in
        (R.0, R.1, R.2 ∙ N.2.root)

    module _ (w : PolicyWord) (l : LegalWord w) (e : bits_of w ≡ get_or ws i 0) where
      grows : (qs : List Policy) × Waits (take (i + 1) ws) qs × Grows (bits_of w) m.before qs × (length qs ≤ waiting_limit)
      grows =
          let N = next_waits ws m.policy m.accepted i h m.before m.waits in
          (N.0, N.1, subst (λ (b : ℕ). Grows b m.before N.0) (sym e) N.2, N.3)

      pub operands_wait : operands w ≤ length held
      operands_wait = omega (arith, grows_enough w m.before grows.0 grows.2, m.as_many)

      pub room_waits : (rest : List Diagram) → rest ≡ drop (operands w) held → length rest < waiting_limit
      room_waits rest r = omega (arith, ap length r, length-drop (operands w) held, grows_count w m.before grows.0 grows.2, grows.3, m.as_many, operands_wait)

      ds : List MDiagram
      ds = map (diagram_of (here c' s')) held

      -- what this word leaves to the rest
      abbrev Rest : MDiagram → Construction
      Rest d = Runs o (drop (suc i) ws) (d ∷ drop (operands w) (map (diagram_of (here c' s')) held))

      this_word : ◌≡◌ {A = Construction} (Runs o (drop i ws) (map (diagram_of (here c' s')) held)) (Then (by_word o w (map (diagram_of (here c' s')) held)) Rest)
      this_word =
          let D = map (diagram_of (here c' s')) held in
          let first : drop i ws ≡ bits_of w ∷ drop (suc i) ws = drop-cons ws i 0 h ∙ ap {B = List ℕ} (λ (b : ℕ). b ∷ drop (suc i) ws) (sym e) in
          ap (λ (v : List ℕ). Runs o v D) first ∙ both D
        where
          both : (D : List MDiagram) → ◌≡◌ {A = Construction} (Then (by_bits o (bits_of w) D) (λ d. Runs o (drop (suc i) ws) (d ∷ drop (taken (kind_of (bits_of w))) D))) (Then (by_word o w D) (λ d. Runs o (drop (suc i) ws) (d ∷ drop (operands w) D)))
          both D = λ j. Then (word_bits o w D j) (λ d. Runs o (drop (suc i) ws) (d ∷ drop (taken_is w j) D))

      now : Pending (Compiled o m.policy) c s m.asks (Then (by_word o w (map (diagram_of (here c' s')) held)) Rest) c' s'
      now = subst (λ (K : Construction). Pending (Compiled o m.policy) c s m.asks K c' s') this_word m.pending

      still : AtLeastOne (Then (by_word o w (map (diagram_of (here c' s')) held)) Rest)
      still = subst (λ (K : Construction). AtLeastOne K) this_word m.ahead

      once : AtMostOne (by_word o w (map (diagram_of (here c' s')) held))
      once = subst (λ (K : Construction). AtMostOne K) (word_bits o w (map (diagram_of (here c' s')) held)) (by_bits_once o (bits_of w) (map (diagram_of (here c' s')) held))

      pub word_stops : {c'' : Counts} {s'' : Stores} {f : StoreFault} {result : Result Diagram StoreFault} (d : Done (by_word o w (map (diagram_of (here c' s')) held)) c' s' c'' s'' (Err f)) → result ≡ Err f → CompiledFrom o ws c s c'' s'' result
      word_stops d r = record { policy = m.policy; accepted = m.accepted; done = halt now refl once still d r }

      pub word_made : {c'' : Counts} {s'' : Stores} {v : Diagram} {rest held' : List Diagram} (d : Done (by_word o w (map (diagram_of (here c' s')) held)) c' s' c'' s'' (Ok v)) → NothingLost c' s' c'' s'' → rest ≡ drop (operands w) held → held' ≡ v ∷ rest → CompileMade o c s ws (i + 1) held' c'' s''
      word_made {c''} {s''} {v} {rest} {held'} d k r r' =
          subst (λ (x : List Diagram). CompileMade o c s ws (i + 1) x c'' s'') (sym (r' ∙ ap {B = List Diagram} (λ (x : List Diagram). v ∷ x) r))
          (record {
            policy = m.policy;
            accepted = m.accepted;
            asks = m.asks ++ d.asks;
            pending = subst (λ (K : Construction). Pending (Compiled o m.policy) c s (m.asks ++ d.asks) K c'' s'') goes (step now refl d k);
            ahead = subst (λ (K : Construction). AtLeastOne K) goes (further now refl once still d);
            present = (d.made.names.present, each_map (present_grown g) (drop (operands w) held) gone);
            formed = (
              subst (Formed o) (sym d.made.names.stands) (by_word_formed L w l (map (diagram_of (here c' s')) held) (each_of_map (Formed o) (diagram_of (here c' s')) held m.formed) d.out d.asks d.by_the_rules),
              formed_same o g (drop (operands w) held) gone (each_drop (λ x. Formed o (diagram_of (here c' s') x)) (operands w) held m.formed),
            );
            before = grows.0;
            waits = grows.1;
            as_many = omega (arith, length-drop (operands w) held, grows_count w m.before grows.0 grows.2, m.as_many, operands_wait);
          })
        where
          g : Grown (here c' s') (here c'' s'')
          g = d.made.added.grown

          gone : Each (Present (here c' s')) (drop (operands w) held)
          gone = each_drop (Present (here c' s')) (operands w) held m.present

          at_next : suc i ≡ i + 1
          at_next = omega arith

          goes : ◌≡◌ {A = Construction} (Rest d.out) (Runs o (drop (i + 1) ws) (map (diagram_of (here c'' s'')) (v ∷ drop (operands w) held)))
          goes =
              ap₂ {C = Construction} (λ (n : ℕ) (D : List MDiagram). Runs o (drop n ws) D) at_next
              (ap₂ {C = List MDiagram} (λ (x : MDiagram) (D : List MDiagram). x ∷ D) (sym d.made.names.stands) (sym (map_same g (drop (operands w) held) gone ∙ map_drop (diagram_of (here c' s')) (operands w) held)))

  -- the end
  module _ (h : length ws ≤ i) where
    last_run : (r : MDiagram) × (a : List Request) × Runs o [] (map (diagram_of (here c' s')) held) r a
    last_run = subst (λ (v : List ℕ). AtLeastOne (Runs o v (map (diagram_of (here c' s')) held))) (drop_all i ws h) m.ahead

    map_long : {X Y : Type 0} (g : X → Y) (l : List X) → length (map g l) ≡ length l
    map_long g [] = refl
    map_long g (x ∷ l) = ap suc (map_long g l)

    pub one_waits : 0 < length held
    one_waits = omega (arith, ap length last_run.2.0, map_long (diagram_of (here c' s')) held)

    pub compile_ends : {v : Diagram} {rest : List Diagram} → held ≡ v ∷ rest → CompiledFrom o ws c s c' s' (Ok v)
    compile_ends {v} {rest} e =
        let D = map (diagram_of (here c' s')) held in
        let n : length rest ≡ 0 = omega (arith, ap length last_run.2.0, map_long (diagram_of (here c' s')) held, ap length e) in
        let alone : held ≡ v ∷ [] = e ∙ ap {B = List Diagram} (λ (x : List Diagram). v ∷ x) (none rest n) in
        let pending = subst (λ (u : List ℕ). Pending (Compiled o m.policy) c s m.asks (Runs o u (map (diagram_of (here c' s')) held)) c' s') (drop_all i ws h) m.pending in
        let there = subst (λ (x : List Diagram). Each (Present (here c' s')) x) alone m.present in
        record {
          policy = m.policy;
          accepted = m.accepted;
          done = ready pending (ap (map (diagram_of (here c' s'))) alone, refl) refl (itself (here c' s') v there.0);
        }
      where
        none : (l : List Diagram) → length l ≡ 0 → l ≡ []
        none [] q = refl
        none (x ∷ l) q = absurd (omega arith)
