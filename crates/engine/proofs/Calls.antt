-- What a call does to an engine. Assumes nothing.
use Rattle.std.proofs.Common.{◌≡◌, ℕ, List, Result, Ok, Err, Some, None, Option, OnOk, sym, ap, ◌∙◌, subst}
use Rattle.std.specs.Result.{IsErrAnd}
use Rattle.faults.proofs.PassedOn.{passed_on}
use Rattle.faults.specs.declared.layers.StoreFault.{StoreFault}
use Rattle.faults.specs.declared.layers.StoreFault.TheVariants.{NotHeld}
use Rattle.format.specs.Policy.{Policy}
use Rattle.checking.specs.Checking.{Accepted}
use Rattle.weights.specs.Weights.{Ops, Laws}
use Rattle.meaning.specs.Leaves.{Each}
use Rattle.meaning.specs.Diagrams.{Diagram as MDiagram, Formed}
use Rattle.requests.specs.Requests.{Request, RecordFormed}
use Rattle.requests.specs.Rules.{Joins, Sequences, Stars, Compiled}
use Rattle.requests.specs.Claims.{Construction}
use Rattle.records.specs.declared.kinds.Diagram.{Diagram}
use Rattle.records.specs.Words.{word_of, Held as WordHeld}
use Rattle.counts.specs.declared.counts.Counts.{Counts}
use Rattle.engine.specs.declared.memory.Stores.{Stores}
use Rattle.engine.specs.Contents.{contents}
use Rattle.stored.specs.Stored.{Stored, Holdings, diagram}
use Rattle.stored.specs.Calls.{Call, Compile, Union, Sequence, Star, Builds, of_policy, of_union, of_sequence, of_star, Unheld, Constructs, built, full, not_held}
use Rattle.engine.specs.declared.memo.PackedEntry.{PackedEntry}
use Rattle.engine.specs.State.{state, diagram_of, Present}
use Rattle.engine.specs.Cells.{LeavesFormed}
use Rattle.engine.specs.Done.{NothingLost, Done}
use Rattle.engine.specs.Memo.{Remembers, NothingWritten, AllRemade}
use Rattle.engine.specs.Compiling.{CompiledFrom}
use Rattle.engine.specs.Views.{holdings, SoundEngine}
use Rattle.engine.proofs.Growing.{held_diagram, word_held, unheld_none, over_of, grows_of, same_rooms}
use Rattle.engine.proofs.Keeping.{good_back, formed_back, word_formed, leaf_formed, made_formed, union_asks, sequence_asks, star_asks, policy_asks}

-- the word is that of the diagram in store
abbrev pub Operand : Counts → ℕ → Diagram → Type 0
Operand c bits d = (word_of d ≡ bits) × WordHeld c.cells c.nodes d

abbrev pub NoOperand : Counts → ℕ → ℕ → StoreFault → Type 0
NoOperand c place bits f = (f ≡ NotHeld place) × ((d : Diagram) → word_of d ≡ bits → WordHeld c.cells c.nodes d → ⊥)

module _ {o : Ops} {m : Stores} {c : Counts} {l : List (Option PackedEntry)} (b : SoundEngine o m c l) where
  abbrev S : Stored
  S = state (contents c m)

  -- operands

  pub operand_held : {x : ℕ} (v : Diagram) → Operand c x v → diagram S x ≡ Some (diagram_of S v)
  operand_held {x} v p = held_diagram c m b.good v x p.0 p.1

  pub operand_unheld : {place x : ℕ} {f : StoreFault} → NoOperand c place x f → diagram S x ≡ None
  operand_unheld {x = x} k = unheld_none c m b.good x k.1

  pub unheld_refused :
      {call : Call} {place : ℕ} {r : Result ℕ StoreFault} {f : StoreFault} {h : Holdings} → IsErrAnd r (λ e. e ≡ f) → f ≡ NotHeld place → Unheld S call place →
      holdings m c ≡ h → Constructs o h call r h
  unheld_refused {call} {place} {r} {f} e k u t =
      subst (λ (h : Holdings). Constructs o h call r h) t
      (subst (λ (x : Result ℕ StoreFault). Constructs o (holdings m c) call x (holdings m c)) (sym (passed_on e ∙ ap {B = Result ℕ StoreFault} Err k)) (not_held u))

  -- the guard lends the counts that it found
  module _ {d : Counts} (i : d ≡ c) where
    pub operand_present : {x : ℕ} (v : Diagram) → Operand c x v → Present (state (contents d m)) v
    operand_present v p = subst (λ (d : Counts). Present (state (contents d m)) v) (sym i) (word_held c m b.good v p.1)

    pub operand_formed : {x : ℕ} (v : Diagram) → Operand c x v → Formed o (diagram_of (state (contents d m)) v)
    operand_formed v p =
        subst (λ (d : Counts). Formed o (diagram_of (state (contents d m)) v)) (sym i) (word_formed (contents c m) b.good.sound b.formed v (word_held c m b.good v p.1))

    pub remembers_lent : Remembers o (state (contents d m)) l
    remembers_lent = subst (λ (d : Counts). Remembers o (state (contents d m)) l) (sym i) b.remembers

  leaves_formed : LeavesFormed o S
  leaves_formed = leaf_formed (contents c m) b.good.sound b.formed

  -- a construction by rules R of the counts that it begins with, for which the guard lent the counts d and left the counts e
  module _
      (R : Counts → Construction) (call : Call) (builds : (r : MDiagram) (asks : List Request) → R c r asks → Builds o S call r asks)
      {d c' : Counts} {m' : Stores} (i : d ≡ c) (k : NothingLost d m c' m') where
    its_kept : NothingLost c m c' m'
    its_kept = subst (λ (u : Counts). NothingLost u m c' m') i k

    its_done : (result : Result Diagram StoreFault) → Done (R d) d m c' m' result → Done (R c) c m c' m' result
    its_done result g = subst (λ (u : Counts). Done (R u) u m c' m' result) i g

    same_holdings : holdings m' c ≡ holdings m c
    same_holdings j = record { stored = state (its_kept.stays j); rooms = same_rooms m m' its_kept.memory j }

    module _ {e : Counts} {result : Result Diagram StoreFault} {f : StoreFault} (j : e ≡ c) (g : Done (R d) d m c' m' result) (q : result ≡ Err f) where
      pub refused_call : {r : Result ℕ StoreFault} {h : Holdings} → IsErrAnd r (λ e. e ≡ f) → holdings m c ≡ h → Constructs o h call r (holdings m' e)
      refused_call {r} {h} t u =
          let g' = its_done (Err f) (subst (λ (x : Result Diagram StoreFault). Done (R d) d m c' m' x) q g) in
          subst (λ (n : Counts). Constructs o h call r (holdings m' n)) (sym j)
          (subst (λ (x : Holdings). Constructs o h call r x) (sym same_holdings)
          (subst (λ (x : Holdings). Constructs o x call r (holdings m c)) u
          (subst (λ (x : Result ℕ StoreFault). Constructs o (holdings m c) call x (holdings m c)) (sym (passed_on t ∙ ap {B = Result ℕ StoreFault} Err g'.made.0))
          (full (builds g'.out g'.asks g'.by_the_rules) (over_of m S g'.asks g'.made.1)))))

      pub refused_engine : {l'' : List (Option PackedEntry)} → NothingWritten l'' → SoundEngine o m' e l''
      refused_engine {l''} n =
          subst (λ (u : Counts). SoundEngine o m' u l'') (sym j)
          (record {
            good = good_back b.good its_kept;
            formed = formed_back its_kept b.formed;
            remembers = (subst (LeavesFormed o) (ap state (sym its_kept.stays)) leaves_formed, λ x w. absurd (n x w), subst (AllRemade o) (ap state (sym its_kept.stays)) b.remembers.2);
          })

    module _ {e : Counts} {result : Result Diagram StoreFault} {w : Diagram} (j : e ≡ c') (g : Done (R d) d m c' m' result) (q : result ≡ Ok w) where
      pub built_call : {bits : ℕ} {h : Holdings} → bits ≡ word_of w → holdings m c ≡ h → Constructs o h call (Ok bits) (holdings m' e)
      built_call {bits} {h} a u =
          let g' = its_done (Ok w) (subst (λ (x : Result Diagram StoreFault). Done (R d) d m c' m' x) q g) in
          subst (λ (n : Counts). Constructs o h call (Ok bits) (holdings m' n)) (sym j)
          (subst (λ (x : Holdings). Constructs o x call (Ok bits) (holdings m' c')) u
          (subst (λ (n : ℕ). Constructs o (holdings m c) call (Ok n) (holdings m' c')) (sym a)
          (subst (λ (z : Holdings). Constructs o (holdings m c) call (Ok (word_of w)) z) (λ p. record { stored = state (contents c' m'); rooms = sym (same_rooms m m' its_kept.memory) p })
          (built (builds g'.out g'.asks g'.by_the_rules) (grows_of c c' m m' g'.out g'.asks w its_kept g'.made)))))

      pub built_engine : {l' l'' : List (Option PackedEntry)} → ((r : MDiagram) (asks : List Request) → R c r asks → Each (RecordFormed o) asks) → l'' ≡ l' → OnOk result (Remembers o (state (contents c' m')) l') → SoundEngine o m' e l''
      built_engine {l'} {l''} a n r =
          let g' = its_done (Ok w) (subst (λ (x : Result Diagram StoreFault). Done (R d) d m c' m' x) q g) in
          subst (λ (u : Counts). SoundEngine o m' u l'') (sym j)
          (record {
            good = g'.made.good;
            formed = made_formed b.formed g' (a g'.out g'.asks g'.by_the_rules);
            remembers = subst (Remembers o (state (contents c' m'))) (sym n) (subst (λ (x : Result Diagram StoreFault). OnOk x (Remembers o (state (contents c' m')) l')) q r);
          })

-- the four

abbrev pub union_rules : Ops → Stores → Diagram → Diagram → Counts → Construction
union_rules o m v w c = Joins o (diagram_of (state (contents c m)) v) (diagram_of (state (contents c m)) w)

abbrev pub sequence_rules : Ops → Stores → Diagram → Diagram → Counts → Construction
sequence_rules o m v w c = Sequences o (diagram_of (state (contents c m)) w) (diagram_of (state (contents c m)) v)

abbrev pub star_rules : Ops → Stores → Diagram → Counts → Construction
star_rules o m v c = Stars o (diagram_of (state (contents c m)) v)

-- the policy of these words
abbrev pub compile_rules : Ops → List ℕ → Counts → Construction
compile_rules o ws c r asks = (p : Policy) × Accepted ws p × Compiled o p r asks

pub compiled_done : {o : Ops} {ws : List ℕ} {c c' : Counts} {m m' : Stores} {result : Result Diagram StoreFault} → CompiledFrom o ws c m c' m' result → Done (compile_rules o ws c) c m c' m' result
compiled_done h = record { out = h.done.out; asks = h.done.asks; by_the_rules = (h.policy, h.accepted, h.done.by_the_rules); made = h.done.made }

module _ {o : Ops} {m : Stores} {c : Counts} {l : List (Option PackedEntry)} (b : SoundEngine o m c l) where
  pub union_builds : {x y : ℕ} (v w : Diagram) → Operand c x v → Operand c y w → (r : MDiagram) (asks : List Request) → union_rules o m v w c r asks → Builds o (state (contents c m)) (Union x y) r asks
  union_builds v w p q r asks h = of_union (operand_held b v p) (operand_held b w q) h

  pub sequence_builds : {x y : ℕ} (v w : Diagram) → Operand c x v → Operand c y w → (r : MDiagram) (asks : List Request) → sequence_rules o m v w c r asks → Builds o (state (contents c m)) (Sequence x y) r asks
  sequence_builds v w p q r asks h = of_sequence (operand_held b v p) (operand_held b w q) h

  pub star_builds : {x : ℕ} (v : Diagram) → Operand c x v → (r : MDiagram) (asks : List Request) → star_rules o m v c r asks → Builds o (state (contents c m)) (Star x) r asks
  star_builds v p r asks h = of_star (operand_held b v p) h

  module _ (L : Laws o) where
    present : {x : ℕ} (v : Diagram) → Operand c x v → Present (state (contents c m)) v
    present v p = word_held c m b.good v p.1

    pub union_formed : {x y : ℕ} (v w : Diagram) → Operand c x v → Operand c y w → (r : MDiagram) (asks : List Request) → union_rules o m v w c r asks → Each (RecordFormed o) asks
    union_formed v w p q r asks h = union_asks L b.good b.formed v w (present v p) (present w q) r asks h

    pub sequence_formed : {x y : ℕ} (v w : Diagram) → Operand c x v → Operand c y w → (r : MDiagram) (asks : List Request) → sequence_rules o m v w c r asks → Each (RecordFormed o) asks
    sequence_formed v w p q r asks h = sequence_asks L b.good b.formed v w (present v p) (present w q) r asks h

    pub star_formed : {x : ℕ} (v : Diagram) → Operand c x v → (r : MDiagram) (asks : List Request) → star_rules o m v c r asks → Each (RecordFormed o) asks
    star_formed v p r asks h = star_asks L b.good b.formed v (present v p) r asks h

pub compile_builds : {o : Ops} {s : Stored} {ws : List ℕ} (c : Counts) (r : MDiagram) (asks : List Request) → compile_rules o ws c r asks → Builds o s (Compile ws) r asks
compile_builds c r asks (p, l, k) = of_policy l k

pub compile_formed : {o : Ops} → Laws o → {ws : List ℕ} (c : Counts) (r : MDiagram) (asks : List Request) → compile_rules o ws c r asks → Each (RecordFormed o) asks
compile_formed L c r asks (p, l, k) = policy_asks L p l.legal r asks k
