-- Constructions that give an operand back and add nothing, and what they rest on: nodes in store are made again.
use Rattle.std.proofs.Common.{◌≡◌, ℕ, ◌≤◌, ◌⊎◌, Bool, true, false, true≢false, List, [], ◌∷◌, get_or, None, Some, Option, Ok, Err, Result, OnOk, sym, ap, ap₂, ◌∙◌, subst, subst₂, inl, inr, arith}
use Rattle.weights.specs.Weights.{Ops, Laws}
use Rattle.format.specs.Actions.{keep_all}
use Rattle.format.specs.declared.settings.PolicyWord.{PolicyWord}
use Rattle.format.specs.declared.settings.Amount.{Amount}
use Rattle.meaning.specs.Leaves.{Action as MAction, Cell as MCell, Each, LeafFormed}
use Rattle.meaning.specs.Diagrams.{Diagram as MDiagram, Leaf as MLeaf, Node as MNode, SetsOf, Unlike}
use Rattle.meaning.specs.Constructions.{root, first_root}
use Rattle.meaning.proofs.Gathering.{each_append}
use Rattle.faults.specs.declared.layers.StoreFault.{StoreFault}
use Rattle.records.specs.declared.kinds.Node.{Node}
use Rattle.records.specs.declared.kinds.Cell.{Cell}
use Rattle.records.specs.declared.kinds.Diagram.{Diagram}
use Rattle.records.specs.declared.kinds.Diagram.TheVariants.{Leaf, Branch}
use Rattle.stores.specs.Numbers.{Numbered}
use Rattle.counts.specs.declared.counts.Counts.{Counts}
use Rattle.engine.specs.declared.memory.Stores.{Stores}
use Rattle.engine.specs.Contents.{contents}
use Rattle.requests.specs.Requests.{Request, node, leaf_records}
use Rattle.requests.specs.Rules.{Narrows, Makes, Prefixes, Joins, joins_leaves, joins_split, Negates, negates_drop, negates_pass, negates_other, pass_cells, compiled_drop, compiled_pass, compiled_test, compiled_set, compiled_cost}
use Rattle.requests.specs.Claims.{Construction}
use Rattle.requests.specs.Again.{Free, Again, Remade, RecordRemade}
use Rattle.requests.proofs.Again.{Settled, leaf_remade, remade, test_remade, narrowed, joined_itself, joined_drop, drop_joined, pass_prefixed}
use Rattle.requests.proofs.Holding.{two}
use Rattle.requests.proofs.Unique.{none_some}
use Rattle.engine.specs.declared.memo.PackedEntry.{PackedEntry}
use Rattle.engine.specs.State.{State, state, diagram_of, Present, Names, Has, Grown}
use Rattle.engine.specs.Done.{SoundStores, Done, Entering, NodeRead}
use Rattle.engine.specs.Leaves.{LeafPresent, leaf_at, SetsTo, Stays, IsDrop}
use Rattle.engine.specs.Cells.{LeavesFormed, number_of, CellRead, action_at}
use Rattle.engine.specs.Memo.{Remembers, AllRemade}
use Rattle.engine.specs.Words.{by_word}
use Rattle.engine.proofs.Numbers.{numbered_any, numbered_value}
use Rattle.engine.proofs.Composing.{grown_refl, has_grown, same_diagram, names_grown, itself}
use Rattle.engine.proofs.Decoding.{nodes_long, one_word}
use Rattle.engine.proofs.Entering.{read_node}
use Rattle.engine.proofs.LeafMerges.{leaf_formed_at, leaf_only}
use Rattle.engine.proofs.FollowRules.{empty_leaf}
use Rattle.engine.proofs.Negated.{records_held}
use Rattle.engine.proofs.NarrowRules.{here}
use Rattle.engine.proofs.Remembering.{memo_keeps}

-- the parts of a node
abbrev field_of : MDiagram → ℕ
field_of (MLeaf l) = 0
field_of (MNode f n y z) = f

abbrev value_of : MDiagram → ℕ
value_of (MLeaf l) = 0
value_of (MNode f n y z) = n

abbrev yes_of : MDiagram → MDiagram
yes_of (MLeaf l) = MLeaf []
yes_of (MNode f n y z) = y

abbrev no_of : MDiagram → MDiagram
no_of (MLeaf l) = MLeaf []
no_of (MNode f n y z) = z

abbrev cells_of : MDiagram → List MCell
cells_of (MLeaf l) = l
cells_of (MNode f n y z) = []

abbrev is_leaf : MDiagram → Bool
is_leaf (MLeaf l) = true
is_leaf (MNode f n y z) = false

-- a node in store, by the words of its sides
record Rooted (s : State) (f n : ℕ) (y z : MDiagram) : Type 0 where
  held : Has s (node f n y z)
  yes : Diagram
  yes_names : Names s yes y
  no : Diagram
  no_names : Names s no z

branch_read : (c : Counts) (s : Stores) → SoundStores c s → (k : Amount) → Present (here c s) (Branch k) → (x : Node) × NodeRead (here c s) k x
unfolding state
branch_read c s g k p =
    let x = numbered_any (contents c s).nodes k.number p.0 (omega (arith, p.1, nodes_long (contents c s) g.sound)) in
    (x.0, read_node (contents c s) g.sound k x.0 x.1)

rooted : (c : Counts) (s : Stores) → SoundStores c s → (w : Diagram) {f n : ℕ} {y z : MDiagram} → Names (here c s) w (MNode f n y z) → Rooted (here c s) f n y z
unfolding diagram_of
rooted c s g (Leaf k) m = absurd (true≢false (ap is_leaf m.stands))
rooted c s g (Branch k) {f} {n} {y} {z} m =
    let there = numbered_any (here c s).nodes k.number m.present.0 m.present.1 in
    let x = branch_read c s g k m.present in
    record {
      held = (k.number, subst (λ (d : MDiagram). Numbered (here c s).nodes k.number d) (sym (numbered_value (MLeaf []) (here c s).nodes k.number there.0 there.1) ∙ m.stands) there.1);
      yes = x.0.yes;
      yes_names = record { present = x.1.yes_present; stands = sym (ap yes_of x.1.itself) ∙ ap yes_of m.stands };
      no = x.0.no;
      no_names = record { present = x.1.no_present; stands = sym (ap no_of x.1.itself) ∙ ap no_of m.stands };
    }

module _ {o : Ops} {c : Counts} {s : Stores} (g : SoundStores c s) (f : LeavesFormed o (here c s)) (r : AllRemade o (here c s)) where
  pub settled : (d : MDiagram) (w : Diagram) → Names (here c s) w d → Settled o (Has (here c s)) d
  settled (MLeaf l) w m =
      let p = leaf_only c s g w m.present (ap root m.stands) in
      let e : leaf_at (here c s) (number_of w).number ≡ l = ap cells_of (sym p.1 ∙ m.stands) in
      subst (λ (x : List MCell). LeafFormed o x × Each (Has (here c s)) (leaf_records x)) e
      (leaf_formed_at (here c s) f (number_of w).number p.0, records_held c s g (number_of w).number p.0)
  settled (MNode f' n y z) w m =
      let x = rooted c s g w m in
      (r (node f' n y z) x.held, settled y x.yes x.yes_names, settled z x.no x.no_names)

-- what gives an operand back is done
pub already : {c : Counts} {s : Stores} {R : Construction} → SoundStores c s → (w : Diagram) → Present (here c s) w → Again (Has (here c s)) R (diagram_of (here c s) w) → Done R c s c s (Ok w)
already {c} {s} g w p a =
    record {
      out = diagram_of (here c s) w;
      asks = a.asks;
      by_the_rules = a.by_the_rules;
      made = record { good = g; names = itself (here c s) w p; added = record { grown = grown_refl (here c s); asked = a.held; nothing_else = λ q h. inl h } };
    }

-- what is asked for where no node is made

pub joined_asks : {o : Ops} (H : Request → Type 0) {d e r : MDiagram} {a : List Request} → Joins o d e r a → first_root (root d) (root e) ≡ None → Each (RecordRemade o H) a
joined_asks H (joins_leaves {l} {m}) e = leaf_remade _ H _
joined_asks H (joins_split t p q i j k) e = none_some (sym e ∙ t)

pub negated_asks : {o : Ops} (H : Request → Type 0) {l : List MCell} {r : MDiagram} {a : List Request} → Negates o (MLeaf l) r a → Each (RecordRemade o H) a
negated_asks {o} H (negates_drop e) = leaf_remade o H (pass_cells o)
negated_asks {o} H (negates_pass h e) = tt
negated_asks {o} H (negates_other {l} h k) = leaf_remade o H l

module _ {o : Ops} (L : Laws o) where
  word_asks : (H : Request → Type 0) (w : PolicyWord) (r : MDiagram) (a : List Request) → by_word o w [] r a → Each H a → Each (RecordRemade o H) a
  word_asks H PolicyWord.Drop r a compiled_drop h = tt
  word_asks H PolicyWord.Pass r a compiled_pass h = leaf_remade o H (pass_cells o)
  word_asks H (PolicyWord.Test t) r a compiled_test h =
      let p = two H (leaf_records (pass_cells o)) (node t.field t.value (MLeaf (pass_cells o)) (MLeaf []) ∷ []) h in
      each_append (RecordRemade o H) (leaf_records (pass_cells o)) _ (leaf_remade o H (pass_cells o)) (test_remade L H t.field t.value p.0 p.1.0, tt)
  word_asks H (PolicyWord.Set t) r a compiled_set h = leaf_remade o H _
  word_asks H (PolicyWord.Cost k) r a compiled_cost h = leaf_remade o H _
  word_asks H PolicyWord.Not r a p h = absurd p
  word_asks H PolicyWord.Union r a p h = absurd p
  word_asks H PolicyWord.Sequence r a p h = absurd p
  word_asks H PolicyWord.Star r a p h = absurd p

  -- a word that takes no operand keeps the memo
  pub word_keeps :
      {c c' : Counts} {s s' : Stores} (w : PolicyWord) (l : List (Option PackedEntry)) (result : Result Diagram StoreFault) →
      Remembers o (here c s) l →
      OnOk result (LeavesFormed o (here c' s')) →
      Done (by_word o w []) c s c' s' result →
      OnOk result (Remembers o (here c' s') l)
  word_keeps {c' = c'} {s' = s'} w l (Ok v) m f d = memo_keeps l (Ok v) m f d (word_asks (Has (here c' s')) w d.out d.asks d.by_the_rules d.made.added.asked)
  word_keeps w l (Err e) m f d = tt

  -- a node that is entered after both sides are narrowed keeps it
  pub node_keeps :
      {c0 c1 c2 c3 : Counts} {s0 s1 s2 s3 : Stores} {f n : ℕ} {v w : Diagram} {Z' V Z'' : MDiagram} (a b : Diagram)
      (l : List (Option PackedEntry)) (result : Result Diagram StoreFault) →
      Present (here c0 s0) a →
      (d1 : Done (Narrows o (diagram_of (here c0 s0) a) f n) c0 s0 c1 s1 (Ok v)) →
      Z' ≡ diagram_of (here c0 s0) b →
      (d2 : Done (Narrows o Z' f n) c1 s1 c2 s2 (Ok w)) →
      (v ≡ w → ⊥) →
      Remembers o (here c2 s2) l →
      V ≡ d1.out →
      Z'' ≡ diagram_of (here c0 s0) b →
      (d3 : Done (Entering f n V Z'') c2 s2 c3 s3 result) →
      OnOk result (LeavesFormed o (here c3 s3)) →
      OnOk result (Remembers o (here c3 s3) l)
  node_keeps {c0} {c1} {c2} {c3} {s0} {s1} {s2} {s3} {f} {n} {v} {w} {Z'} {V} {Z''} a b l (Ok x) p d1 i d2 h m j k d3 leaves =
      memo_keeps l (Ok x) m leaves d3 (subst (λ (x : List Request). Each (RecordRemade o H') x) (sym asks_are) (again, tt))
    where
      H' : Request → Type 0
      H' = Has (here c3 s3)

      side_names : Names (here c2 s2) a (diagram_of (here c0 s0) a)
      side_names = names_grown d2.made.added.grown (names_grown d1.made.added.grown (itself (here c0 s0) a p))

      narrowed_names : Names (here c2 s2) v d1.out
      narrowed_names = names_grown d2.made.added.grown d1.made.names

      asks_are : d3.asks ≡ node f n d1.out Z' ∷ []
      asks_are = d3.by_the_rules.1 ∙ ap₂ {C = List Request} (λ (y z : MDiagram). node f n y z ∷ []) j (k ∙ sym i)

      again : Remade o H' f n d1.out Z'
      again =
          remade L (Has (here c2 s2)) {H' = H'} (has_grown d3.made.added.grown) d1.by_the_rules
          (settled d2.made.good m.0 m.2 _ a side_names)
          (settled d2.made.good m.0 m.2 _ v narrowed_names)
          d2.by_the_rules d2.made.added.asked
          (λ e. h (one_word c2 s2 d2.made.good v w d2.out (subst (λ (x : MDiagram). Names (here c2 s2) v x) e narrowed_names) d2.made.names))
          (subst (λ (x : List Request). Each H' x) asks_are d3.made.added.asked).0
  node_keeps a b l (Err e) p d1 i d2 h m j k d3 leaves = tt

-- whether an action of a leaf sets a field to a value

-- what is sought is among the cells from here on
pub record Sought (s : State) (f n first k : ℕ) : Type 0 where
  pub present : LeafPresent s k
  pub ahead : SetsTo f n (leaf_at s first) → SetsTo f n (leaf_at s k)
  pub back : SetsTo f n (leaf_at s k) → SetsTo f n (leaf_at s first)

module _ {s : State} {f n first k : ℕ} (h : Sought s f n first k) where
  pub sought_end : k ≤ 0 → SetsTo f n (leaf_at s first) → ⊥
  sought_end e p = subst (λ (j : ℕ). SetsTo f n (leaf_at s j)) zero_is (h.ahead p)
    where
      zero_is : k ≡ 0
      zero_is = omega (arith, e)

  module _ {x : Cell} (r : CellRead s k x) {a : MAction} (i : a ≡ action_at s x.action.number) where
    pub sought_here : get_or a f None ≡ Some n → SetsTo f n (leaf_at s first)
    sought_here e = h.back (subst (SetsTo f n) (sym r.itself) (inl (ap (λ (b : MAction). get_or b f None) (sym i) ∙ e)))

    pub sought_on : (get_or a f None ≡ Some n → ⊥) → Sought s f n first x.rest.number
    sought_on e =
        record {
          present = r.rest_present;
          ahead = λ p. go (subst (SetsTo f n) r.itself (h.ahead p));
          back = λ p. h.back (subst (SetsTo f n) (sym r.itself) (inr p));
        }
      where
        go : (get_or (action_at s x.action.number) f None ≡ Some n) ⊎ SetsTo f n (leaf_at s x.rest.number) → SetsTo f n (leaf_at s x.rest.number)
        go (inl q) = absurd (e (ap (λ (b : MAction). get_or b f None) i ∙ q))
        go (inr q) = q

pub sought_first : {s : State} {f n first : ℕ} → LeafPresent s first → Sought s f n first first
sought_first p = record { present = p; ahead = λ q. q; back = λ q. q }

pub no_leaf : (f n : ℕ) {c : Counts} {s : Stores} {w : Diagram} {k : Amount} → SoundStores c s → Present (here c s) w → w ≡ Branch k → Stays f n (diagram_of (here c s) w) → ⊥
no_leaf f n {c} {s} {w} {k} g p e h =
    let x = branch_read c s g k (subst (Present (here c s)) e p) in
    subst (Stays f n) (ap (diagram_of (here c s)) e ∙ x.1.itself) h

stays_free : (f n : ℕ) (d : MDiagram) → Stays f n d → Free f n d
stays_free f n (MLeaf l) h = (tt, each l h)
  where
    each : (m : List MCell) → (SetsTo f n m → ⊥) → Each (λ c. SetsOf (Unlike f n) c.0) m
    each [] h = tt
    each (c ∷ m) h = ((λ g k e i j. h (inl (ap (λ (x : ℕ). get_or c.0 x None) (sym i) ∙ (e ∙ ap {B = Option ℕ} Some j)))), each m (λ p. h (inr p)))
stays_free f n (MNode g m y z) h = absurd h

drops : (s : State) (w : Diagram) → IsDrop w → diagram_of s w ≡ MLeaf []
drops s (Leaf n) e = (empty_leaf s n e).stands
drops s (Branch n) e = absurd e

-- the shortcuts

module _ {o : Ops} (L : Laws o) {c : Counts} {s : Stores} (g : SoundStores c s) (k : LeavesFormed o (here c s)) (r : AllRemade o (here c s)) where
  settled_word : (w : Diagram) → Present (here c s) w → Settled o (Has (here c s)) (diagram_of (here c s) w)
  settled_word w p = settled g k r (diagram_of (here c s) w) w (itself (here c s) w p)

  pub leaf_stays : (w : Diagram) (f n : ℕ) → Present (here c s) w → Stays f n (diagram_of (here c s) w) → Done (Narrows o (diagram_of (here c s) w) f n) c s c s (Ok w)
  leaf_stays w f n p h = already g w p (narrowed L (Has (here c s)) (diagram_of (here c s) w) f n (settled_word w p) (stays_free f n (diagram_of (here c s) w) h))

  pub one_operand : (v w : Diagram) → Present (here c s) v → v ≡ w → Done (Joins o (diagram_of (here c s) v) (diagram_of (here c s) w)) c s c s (Ok v)
  one_operand v w p e =
      subst (λ (x : Diagram). Done (Joins o (diagram_of (here c s) v) (diagram_of (here c s) x)) c s c s (Ok v)) e
      (already g v p (joined_itself L (Has (here c s)) (diagram_of (here c s) v) (settled_word v p)))

  pub drop_right : (v w : Diagram) → Present (here c s) v → IsDrop w → Done (Joins o (diagram_of (here c s) v) (diagram_of (here c s) w)) c s c s (Ok v)
  drop_right v w p e =
      subst (λ (x : MDiagram). Done (Joins o (diagram_of (here c s) v) x) c s c s (Ok v)) (sym (drops (here c s) w e))
      (already g v p (drop_joined L (Has (here c s)) (diagram_of (here c s) v) (settled_word v p)))

  pub drop_left : (v w : Diagram) → Present (here c s) w → IsDrop v → Done (Joins o (diagram_of (here c s) v) (diagram_of (here c s) w)) c s c s (Ok w)
  drop_left v w p e =
      subst (λ (x : MDiagram). Done (Joins o x (diagram_of (here c s) w)) c s c s (Ok w)) (sym (drops (here c s) v e))
      (already g w p (joined_drop L (Has (here c s)) (diagram_of (here c s) w) (settled_word w p)))

  pub keeps_before : (w : Diagram) {a : MAction} {n : ℕ} → Present (here c s) w → a ≡ keep_all → n ≡ o.one → Done (Prefixes o a n (diagram_of (here c s) w)) c s c s (Ok w)
  keeps_before w p i j =
      subst₂ (λ (a : MAction) (n : ℕ). Done (Prefixes o a n (diagram_of (here c s) w)) c s c s (Ok w)) (sym i) (sym j)
      (already g w p (pass_prefixed L (Has (here c s)) (diagram_of (here c s) w) (settled_word w p)))

-- a node in store is made again
pub node_again : {o : Ops} {c : Counts} {s : Stores} {f n : ℕ} {y z : MDiagram} {w : Diagram} → SoundStores c s → AllRemade o (here c s) → Names (here c s) w (MNode f n y z) → Done (Makes o f n y z) c s c s (Ok w)
node_again {o} {c} {s} {f} {n} {y} {z} {w} g r m =
    already g w m.present (subst (Again (Has (here c s)) (Makes o f n y z)) (sym m.stands) (r (node f n y z) (rooted c s g w m).held).again)

pub node_named : {s : State} {w : Diagram} {k : Amount} {x : Node} → Present s w → w ≡ Branch k → NodeRead s k x → Names s (Branch k) (MNode x.test.field x.test.value (diagram_of s x.yes) (diagram_of s x.no))
node_named {s} p e r = record { present = subst (Present s) e p; stands = r.itself }

-- a side that was given back is what it was
pub side_stays : {s s' : State} {v x : Diagram} {d : MDiagram} → Grown s s' → Present s x → v ≡ x → Names s' v d → diagram_of s x ≡ d
side_stays {s} {s'} {v} {x} g p e m = sym (same_diagram g x p) ∙ (ap (diagram_of s') (sym e) ∙ m.stands)
