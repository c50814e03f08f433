-- Constructions one after the other.
use Rattle.std.proofs.Common.{◌≡◌, ℕ, ◌<◌, ◌≤◌, ◌⊎◌, List, [], ◌∷◌, ◌++◌, length, min, Ok, Err, Result, sym, refl, ap, ◌∙◌, subst, inl, inr, append_assoc, length-append, take, arith}
use Rattle.weights.specs.Order.{In}
use Rattle.meaning.specs.Diagrams.{Diagram as MDiagram, Leaf as MLeaf}
use Rattle.faults.specs.declared.layers.StoreFault.{StoreFault}
use Rattle.records.specs.declared.kinds.Diagram.{Diagram}
use Rattle.records.specs.declared.kinds.Diagram.TheVariants.{Leaf, Branch}
use Rattle.stores.specs.Numbers.{Numbered, held, numbers_limit}
use Rattle.counts.specs.declared.counts.Counts.{Counts}
use Rattle.engine.specs.declared.memory.Stores.{Stores}
use Rattle.engine.specs.Contents.{Contents, contents, SameMemory}
use Rattle.requests.specs.Requests.{Request, action, cell, node}
use Rattle.requests.specs.Claims.{Construction}
use Rattle.engine.specs.Built.{numbered_or}
use Rattle.engine.specs.State.{State, state, diagram_of, Present, Names, Has, Grown}
use Rattle.engine.specs.Done.{Kind, actions, cells, nodes, rooms, Added, Over, SoundStores, NothingLost, Done}
use Rattle.engine.proofs.Numbers.{or_grown, numbered_grown, in_left, in_right, take_less, each_map, each_append}

pub append_empty : {X : Type 0} (xs : List X) → xs ++ [] ≡ xs
append_empty [] = refl
append_empty (x ∷ xs) = ap {B = List _} (λ l. x ∷ l) (append_empty xs)

pub grown_refl : (s : State) → Grown s s
grown_refl s =
    record {
      new_actions = [];
      actions_grown = sym (append_empty s.actions);
      new_leaves = [];
      leaves_grown = sym (append_empty s.leaves);
      new_nodes = [];
      nodes_grown = sym (append_empty s.nodes);
    }

longer : {X : Type 0} (a : List X) {b c : List X} (x y : List X) → b ≡ a ++ x → c ≡ b ++ y → c ≡ a ++ (x ++ y)
longer a x y e f = f ∙ (ap (λ l. l ++ y) e ∙ append_assoc a x y)

pub grown_trans : {s s' s'' : State} → Grown s s' → Grown s' s'' → Grown s s''
grown_trans g h =
    record {
      new_actions = g.new_actions ++ h.new_actions;
      actions_grown = longer _ g.new_actions h.new_actions g.actions_grown h.actions_grown;
      new_leaves = g.new_leaves ++ h.new_leaves;
      leaves_grown = longer _ g.new_leaves h.new_leaves g.leaves_grown h.leaves_grown;
      new_nodes = g.new_nodes ++ h.new_nodes;
      nodes_grown = longer _ g.new_nodes h.new_nodes g.nodes_grown h.nodes_grown;
    }

module _ {s s' : State} (g : Grown s s') where
  long : {X : Type 0} (a b c : List X) (n : ℕ) → c ≡ a ++ b → n ≤ length a → n ≤ length c
  long a b c n e h = subst (λ (l : List _). n ≤ length l) (sym e) (omega (arith, h, length-append a b))

  pub present_grown : (w : Diagram) → Present s w → Present s' w
  present_grown (Leaf n) h = long s.leaves g.new_leaves s'.leaves n.number g.leaves_grown h
  present_grown (Branch n) h = (h.0, long s.nodes g.new_nodes s'.nodes n.number g.nodes_grown h.1)

  -- a word goes on standing for the same
  pub same_diagram : (w : Diagram) → Present s w → diagram_of s' w ≡ diagram_of s w
  unfolding diagram_of
  same_diagram (Leaf n) h = ap {B = MDiagram} MLeaf (ap (λ l. numbered_or [] l n.number) g.leaves_grown ∙ or_grown [] s.leaves g.new_leaves n.number h)
  same_diagram (Branch n) h = ap (λ l. numbered_or (MLeaf []) l n.number) g.nodes_grown ∙ or_grown (MLeaf []) s.nodes g.new_nodes n.number h.1

  pub names_grown : {w : Diagram} {d : MDiagram} → Names s w d → Names s' w d
  names_grown {w} n = record { present = present_grown w n.present; stands = same_diagram w n.present ∙ n.stands }

  still : {X : Type 0} (a b c : List X) (n : ℕ) (x : X) → c ≡ a ++ b → Numbered a n x → Numbered c n x
  still a b c n x e h = subst (λ l. Numbered l n x) (sym e) (numbered_grown a b n x h)

  pub has_grown : (q : Request) → Has s q → Has s' q
  has_grown (action a) h = (h.0, still s.actions g.new_actions s'.actions h.0 _ g.actions_grown h.1)
  has_grown (cell a w l) h = (h.0, still s.leaves g.new_leaves s'.leaves h.0 _ g.leaves_grown h.1)
  has_grown (node f n y z) h = (h.0, still s.nodes g.new_nodes s'.nodes h.0 _ g.nodes_grown h.1)

pub added_none : (s : State) → Added s [] s
added_none s = record { grown = grown_refl s; asked = tt; nothing_else = λ q h. inl h }

pub added_then : {s s' s'' : State} {a b : List Request} → Added s a s' → Added s' b s'' → Added s (a ++ b) s''
added_then {s} {s'} {s''} {a} {b} g h =
    record {
      grown = grown_trans g.grown h.grown;
      asked = each_append (Has s'') a b (each_map (has_grown h.grown) a g.asked) h.asked;
      nothing_else = λ q m. first q (h.nothing_else q m);
    }
  where
    second : (q : Request) → Has s q ⊎ In q a → Has s q ⊎ In q (a ++ b)
    second q (inl m) = inl m
    second q (inr m) = inr (in_left q a b m)

    first : (q : Request) → Has s' q ⊎ In q b → Has s q ⊎ In q (a ++ b)
    first q (inl m) = second q (g.nothing_else q m)
    first q (inr m) = inr (in_right q a b m)

-- every one of the first is among the second
abbrev pub Among : List Request → List Request → Type 0
Among a x = (q : Request) → In q a → In q x

-- records too many after some were added are too many before
pub over_within : {size : Kind → ℕ} {s s' : State} {a b x : List Request} → Added s a s' → Among a x → Among b x → Over size s' b → Over size s x
over_within {s = s} {s' = s'} {a = a} {b = b} {x = x} g i j v =
    record {
      kind = v.kind;
      records = v.records;
      different = v.different;
      of_kind = v.of_kind;
      held_or_asked = each_map first v.records v.held_or_asked;
      too_many = v.too_many;
    }
  where
    second : (q : Request) → Has s q ⊎ In q a → Has s q ⊎ In q x
    second q (inl m) = inl m
    second q (inr m) = inr (i q m)

    first : (q : Request) → Has s' q ⊎ In q b → Has s q ⊎ In q x
    first q (inl m) = second q (g.nothing_else q m)
    first q (inr m) = inr (j q m)

pub rooms_same : {s s' : Stores} → SameMemory s s' → (k : Kind) → rooms s' k ≡ rooms s k
rooms_same m actions = ap (λ n. min n numbers_limit) m.actions_size
rooms_same m cells = ap (λ n. min n numbers_limit) m.cells_size
rooms_same m nodes = ap (λ n. min n numbers_limit) m.nodes_size

over_sized : {size size' : Kind → ℕ} {s : State} {a : List Request} → ((k : Kind) → size k ≡ size' k) → Over size s a → Over size' s a
over_sized e v =
    record {
      kind = v.kind;
      records = v.records;
      different = v.different;
      of_kind = v.of_kind;
      held_or_asked = v.held_or_asked;
      too_many = subst (λ n. n < length v.records) (e v.kind) v.too_many;
    }

still_held : {X : Type 0} {m n : ℕ} (xs ys : List X) → m ≤ n → held n xs ≡ held n ys → held m xs ≡ held m ys
still_held {m = m} {n = n} xs ys h e = sym (take_less (min m numbers_limit) (min n numbers_limit) xs (omega arith)) ∙ (ap (take (min m numbers_limit)) e ∙ take_less (min m numbers_limit) (min n numbers_limit) ys (omega arith))

pub same_memory_refl : (s : Stores) → SameMemory s s
same_memory_refl s = record { actions_lender = refl; cells_lender = refl; nodes_lender = refl; actions_size = refl; cells_size = refl; nodes_size = refl }

pub same_memory_trans : {s s' s'' : Stores} → SameMemory s s' → SameMemory s' s'' → SameMemory s s''
same_memory_trans m n =
    record {
      actions_lender = n.actions_lender ∙ m.actions_lender;
      cells_lender = n.cells_lender ∙ m.cells_lender;
      nodes_lender = n.nodes_lender ∙ m.nodes_lender;
      actions_size = n.actions_size ∙ m.actions_size;
      cells_size = n.cells_size ∙ m.cells_size;
      nodes_size = n.nodes_size ∙ m.nodes_size;
    }

pub kept_refl : (c : Counts) (s : Stores) → NothingLost c s c s
kept_refl c s = record { actions_rise = omega arith; cells_rise = omega arith; nodes_rise = omega arith; stays = refl; memory = same_memory_refl s }

contents_stay : {c c' c'' : Counts} {s s' s'' : Stores} → NothingLost c s c' s' → NothingLost c' s' c'' s'' → contents c s'' ≡ contents c s
contents_stay k l =
    λ i. record {
      actions = (still_held _ _ k.actions_rise (ap (λ (x : Contents). x.actions) l.stays) ∙ ap (λ (x : Contents). x.actions) k.stays) i;
      cells = (still_held _ _ k.cells_rise (ap (λ (x : Contents). x.cells) l.stays) ∙ ap (λ (x : Contents). x.cells) k.stays) i;
      nodes = (still_held _ _ k.nodes_rise (ap (λ (x : Contents). x.nodes) l.stays) ∙ ap (λ (x : Contents). x.nodes) k.stays) i;
    }

pub kept_trans : {c c' c'' : Counts} {s s' s'' : Stores} → NothingLost c s c' s' → NothingLost c' s' c'' s'' → NothingLost c s c'' s''
kept_trans k l =
    record {
      actions_rise = rise k.actions_rise l.actions_rise;
      cells_rise = rise k.cells_rise l.cells_rise;
      nodes_rise = rise k.nodes_rise l.nodes_rise;
      stays = contents_stay k l;
      memory = same_memory_trans k.memory l.memory;
    }
  where
    rise : {a b d : ℕ} → a ≤ b → b ≤ d → a ≤ d
    rise p q = omega arith

-- how far a construction has come
pub record Sofar (c : Counts) (s : Stores) (a : List Request) (c' : Counts) (s' : Stores) : Type 0 where
  pub good : SoundStores c' s'
  pub added : Added (state (contents c s)) a (state (contents c' s'))
  pub kept : NothingLost c s c' s'

pub start : {c : Counts} {s : Stores} → SoundStores c s → Sofar c s [] c s
start {c} {s} g = record { good = g; added = added_none _; kept = kept_refl c s }

module _ {c : Counts} {s : Stores} {a : List Request} {c' : Counts} {s' : Stores} (p : Sofar c s a c' s') {R : Construction} {c'' : Counts} {s'' : Stores} where
  pub next : {w : Diagram} (d : Done R c' s' c'' s'' (Ok w)) → NothingLost c' s' c'' s'' → Sofar c s (a ++ d.asks) c'' s''
  next d k = record { good = d.made.good; added = added_then p.added d.made.added; kept = kept_trans p.kept k }

  -- a part that is refused is refused for the whole
  pub refused :
      {Q : Construction} (r : MDiagram) (x : List Request) {f : StoreFault} {result : Result Diagram StoreFault} →
      (d : Done R c' s' c'' s'' (Err f)) →
      result ≡ Err f →
      Q r x →
      Among a x →
      Among d.asks x →
      Done Q c s c'' s'' result
  refused {Q} r x {f} {result} d e q i j =
      subst (λ (t : Result Diagram StoreFault). Done Q c s c'' s'' t) (sym e)
      (record {
        out = r;
        asks = x;
        by_the_rules = q;
        made = (d.made.0, over_sized (rooms_same p.kept.memory) (over_within p.added i j d.made.1));
      })

-- the construction is complete
pub complete :
    {c c' : Counts} {s s' : Stores} {Q : Construction} {r : MDiagram} (x : List Request) {w : Diagram} {result : Result Diagram StoreFault} →
    Sofar c s x c' s' →
    result ≡ Ok w →
    Names (state (contents c' s')) w r →
    Q r x →
    Done Q c s c' s' result
complete {c} {c'} {s} {s'} {Q} {r} x {w} p e n q =
    subst (λ (t : Result Diagram StoreFault). Done Q c s c' s' t) (sym e)
    (record { out = r; asks = x; by_the_rules = q; made = record { good = p.good; names = n; added = p.added } })

module _ {c : Counts} {s : Stores} {a : List Request} {c' : Counts} {s' : Stores} (p : Sofar c s a c' s') {R Q : Construction} {c'' : Counts} {s'' : Stores} where
  -- the last part makes the whole, or is refused for it
  pub tail : {result : Result Diagram StoreFault} (d : Done R c' s' c'' s'' result) → Q d.out (a ++ d.asks) → Done Q c s c'' s'' result
  tail {result = Ok w} d q =
      record { out = d.out; asks = a ++ d.asks; by_the_rules = q; made = record { good = d.made.good; names = d.made.names; added = added_then p.added d.made.added } }
  tail {result = Err f} d q =
      record {
        out = d.out;
        asks = a ++ d.asks;
        by_the_rules = q;
        made = (d.made.0, over_sized (rooms_same p.kept.memory) (over_within p.added (λ x m. in_left x a d.asks m) (λ x m. in_right x a d.asks m) d.made.1));
      }

-- a word in store stands for what it stands for
pub itself : (s : State) (w : Diagram) → Present s w → Names s w (diagram_of s w)
itself s w h = record { present = h; stands = refl }
