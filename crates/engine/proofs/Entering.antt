-- A node that is entered.
use Rattle.std.proofs.Common.{◌≡◌, ℕ, zero, suc, ◌+◌, ◌-◌, ◌<◌, ◌≤◌, min, ◌⊎◌, List, [], ◌∷◌, ◌++◌, length, get_or, Some, Ok, Err, Result, sym, refl, ap, ◌∙◌, subst, true≢false, inl, inr, ⊎_elim, length-append, arith}
use Rattle.std.proofs.lemmas.List.{length-take}
use Rattle.std.proofs.lemmas.Bool.Decides.{Decides-eqb, Decides-and}
use Rattle.weights.specs.Order.{In}
use Rattle.meaning.specs.Leaves.{Cell as MCell}
use Rattle.meaning.specs.Diagrams.{Diagram as MDiagram, Leaf as MLeaf, Node as MNode}
use Rattle.faults.specs.declared.layers.StoreFault.{StoreFault}
use Rattle.faults.specs.declared.layers.StoreFault.TheVariants.{Full}
use Rattle.format.specs.declared.settings.Amount.{Amount}
use Rattle.format.specs.declared.settings.Setting.{Setting}
use Rattle.records.specs.declared.kinds.Node.{Node}
use Rattle.records.specs.declared.kinds.Diagram.{Diagram}
use Rattle.records.specs.declared.kinds.Diagram.TheVariants.{Leaf, Branch}
use Rattle.records.proofs.Alike.{settings_told}
use Rattle.stores.specs.Numbers.{Numbered, Absent, Distinct, held, numbers_limit, Entered, NoRoom, Grown as StoreGrown}
use Rattle.stores.proofs.Numbered.{pushed, pushed_last, distinct_pushed}
use Rattle.counts.specs.declared.counts.Counts.{Counts}
use Rattle.engine.specs.declared.memory.Stores.{Stores}
use Rattle.engine.specs.Contents.{Contents, contents}
use Rattle.requests.specs.Requests.{Request, action, cell, node}
use Rattle.engine.specs.State.{state, diagram_of, side_of, node_of, actions_in, leaves_in, nodes_in, Present, Names, Has, Sound, Counted, Grown, NodeNamesEarlier, WordNamesEarlier}
use Rattle.engine.specs.Done.{nodes, kind_of, Added, SoundStores, Done, Entering, NodeRead}
use Rattle.engine.proofs.Numbers.{numbered_bound, numbered_any, numbered_value}
use Rattle.engine.proofs.Building.{build_last, only_one, each_in_at, each_in_last, numbered_slot}
use Rattle.engine.proofs.Decoding.{node_whole, node_read, nodes_long, leaves_long, one_side, present_side}
use Rattle.engine.proofs.Overfull.{over_full}
use Rattle.engine.proofs.Composing.{append_empty, added_none}

pub counted_bounds : {X : Type 0} (k : ℕ) (xs : List X) → length (held k xs) ≡ k → (k ≤ numbers_limit) × (k ≤ length xs)
counted_bounds k xs e = (omega (arith, length-take (min k numbers_limit) xs), omega (arith, length-take (min k numbers_limit) xs))

pub slot_numbered : (c : Counts) (s : Stores) → Counted c s → (n : ℕ) (d : Node) → 0 < n → n ≤ c.nodes → Numbered (contents c s).nodes n (get_or s.nodes.slots.now (n - 1) d)
slot_numbered c s k n d p h =
    let b = counted_bounds c.nodes s.nodes.slots.now k.nodes_counted in
    numbered_slot (min c.nodes numbers_limit) s.nodes.slots.now n d p (omega (arith, b.0)) (omega (arith, b.1))

node_good : (c : Contents) → Sound c → (n : ℕ) (x : Node) → Numbered c.nodes n x → NodeNamesEarlier (length c.cells) (n - 1) x
node_good c h zero x e = cc
node_good c h (suc i) x e =
    let k : 0 + i ≡ suc i - 1 = omega arith in
    subst (λ (n : ℕ). NodeNamesEarlier (length c.cells) n x) k (each_in_at (NodeNamesEarlier (length c.cells)) 0 c.nodes i x h.nodes_name_earlier e)

side_present : (c : Contents) → Sound c → (n : ℕ) → n ≤ length c.nodes → (w : Diagram) → WordNamesEarlier (length c.cells) (n - 1) w → Present (state c) w
unfolding state
side_present c h n l (Leaf k) p = omega (arith, leaves_long c h, p)
side_present c h n l (Branch k) p = (p.0, omega (arith, nodes_long c h, p.1, l))

pub sides_present : (c : Contents) → Sound c → (n : ℕ) (x : Node) → Numbered c.nodes n x → Present (state c) x.yes × Present (state c) x.no
sides_present c h n x e =
    let g = node_good c h n x e in
    let b = numbered_bound c.nodes n x e in
    (side_present c h n b.1 x.yes g.0, side_present c h n b.1 x.no g.1)

pub read_node : (c : Contents) → Sound c → (number : Amount) (x : Node) → Numbered c.nodes number.number x → NodeRead (state c) number x
unfolding state diagram_of
read_node c h number x e =
    let Ls = leaves_in (actions_in c.actions) c.cells in
    let Ns = nodes_in Ls c.nodes in
    let r = node_read c h number.number x e in
    let p = sides_present c h number.number x e in
    record { itself = numbered_value (MLeaf []) Ns number.number (node_of Ls Ns x) r; yes_present = p.0; no_present = p.1 }

same_setting : (a b : Setting) → a.field ≡ b.field → a.value ≡ b.value → a ≡ b
same_setting a b e f =
    (settings_told a b).0 ((Decides-and _ _ (Decides-eqb a.field b.field) (Decides-eqb a.value b.value)).1 (e, f))

-- parts of a diagram
abbrev field_of : MDiagram → ℕ
field_of (MLeaf l) = 0
field_of (MNode f n y z) = f

abbrev value_of : MDiagram → ℕ
value_of (MLeaf l) = 0
value_of (MNode f n y z) = n

abbrev yes_of : MDiagram → MDiagram
yes_of (MLeaf l) = MLeaf []
yes_of (MNode f n y z) = y

abbrev no_of : MDiagram → MDiagram
no_of (MLeaf l) = MLeaf []
no_of (MNode f n y z) = z

-- a record as a diagram, and back
abbrev from_request : Request → MDiagram
from_request (action a) = MLeaf []
from_request (cell a w l) = MLeaf []
from_request (node f n y z) = MNode f n y z

abbrev to_request : MDiagram → Request
to_request (MLeaf l) = action []
to_request (MNode f n y z) = node f n y z

module _ (c : Contents) (h : Sound c) (x : Node) (yes : Present (state c) x.yes) (no : Present (state c) x.no) where
  abbrev Ls : List (List MCell)
  Ls = leaves_in (actions_in c.actions) c.cells

  abbrev Ns : List MDiagram
  Ns = nodes_in Ls c.nodes

  abbrev more : Contents
  more = record { actions = c.actions; cells = c.cells; nodes = c.nodes ++ (x ∷ []) }

  good_side : (w : Diagram) → Present (state c) w → WordNamesEarlier (length c.cells) (length c.nodes) w
  unfolding state
  good_side (Leaf n) p = omega (arith, leaves_long c h, p)
  good_side (Branch n) p = (p.0, omega (arith, nodes_long c h, p.1))

  -- an old node that stands for the same is the same
  node_alone : (m : ℕ) → Numbered Ns m (node_of Ls Ns x) → Numbered c.nodes m x
  unfolding state
  node_alone m e =
      let b = numbered_bound Ns m (node_of Ls Ns x) e in
      let r = numbered_any c.nodes m b.0 (omega (arith, b.1, nodes_long c h)) in
      let y = r.0 in
      let k : node_of Ls Ns y ≡ node_of Ls Ns x = only_one Ns m (node_of Ls Ns y) (node_of Ls Ns x) (node_read c h m y r.1) e in
      let R = sides_present c h m y r.1 in
      let t : y.test ≡ x.test = same_setting y.test x.test (ap field_of k) (ap value_of k) in
      let u : y.yes ≡ x.yes = one_side c h y.yes x.yes (present_side c y.yes R.0) (present_side c x.yes yes) h.leaves_distinct h.nodes_distinct (ap yes_of k) in
      let v : y.no ≡ x.no = one_side c h y.no x.no (present_side c y.no R.1) (present_side c x.no no) h.leaves_distinct h.nodes_distinct (ap no_of k) in
      let w : y ≡ x = λ i. record { test = t i; yes = u i; no = v i } in
      r.1 ∙ ap Some w

  pub node_sound : Absent c.nodes x → Sound more
  unfolding state
  node_sound a =
      record {
        cells_name_earlier = h.cells_name_earlier;
        nodes_name_earlier = each_in_last (NodeNamesEarlier (length c.cells)) 0 c.nodes x h.nodes_name_earlier (good_zero (length c.nodes) (good_side x.yes yes, good_side x.no no));
        actions_distinct = h.actions_distinct;
        leaves_distinct = h.leaves_distinct;
        nodes_distinct =
            subst (λ (l : List MDiagram). Distinct l) (sym (build_last (node_of Ls) [] c.nodes x))
            (distinct_pushed Ns (node_of Ls Ns x) h.nodes_distinct (λ m e. a m (node_alone m e)));
      }
    where
      good_zero : (k : ℕ) → NodeNamesEarlier (length c.cells) k x → NodeNamesEarlier (length c.cells) (0 + k) x
      good_zero k p = let e : k ≡ 0 + k = omega arith in subst (λ (n : ℕ). NodeNamesEarlier (length c.cells) n x) e p

  abbrev d : MDiagram
  d = node_of Ls Ns x

  abbrev q : Request
  q = node x.test.field x.test.value (side_of Ls Ns x.yes) (side_of Ls Ns x.no)

  -- the state with one node more
  node_grown : Grown (state c) (state more)
  unfolding state
  node_grown =
      record {
        new_actions = [];
        actions_grown = sym (append_empty (actions_in c.actions));
        new_leaves = [];
        leaves_grown = sym (append_empty Ls);
        new_nodes = d ∷ [];
        nodes_grown = build_last (node_of Ls) [] c.nodes x;
      }

  one_more : (state more).nodes ≡ Ns ++ (d ∷ [])
  unfolding state
  one_more = build_last (node_of Ls) [] c.nodes x

  last_there : (n : ℕ) → n ≡ length c.nodes + 1 → Numbered (state more).nodes n d
  last_there n e =
      let k : length Ns + 1 ≡ n = omega (arith, e, nodes_long c h) in
      subst (λ (l : List MDiagram). Numbered l n d) (sym one_more) (subst (λ (m : ℕ). Numbered (Ns ++ (d ∷ [])) m d) k (pushed_last Ns d))

  node_added : Added (state c) (q ∷ []) (state more)
  unfolding node_grown state
  node_added =
      record {
        grown = node_grown;
        asked = ((length c.nodes + 1, last_there (length c.nodes + 1) refl), tt);
        nothing_else = was;
      }
    where
      was : (r : Request) → Has (state more) r → Has (state c) r ⊎ In r (q ∷ [])
      was (action a) k = inl (acts k)
        where
          acts : Has (state more) (action a) → Has (state c) (action a)
          acts k = (k.0, subst (λ (l : List (List _)). Numbered l k.0 a) (node_grown.actions_grown ∙ append_empty _) k.1)
      was (cell a w l) k = inl (k.0, subst (λ (m : List (List MCell)). Numbered m k.0 ((a, w) ∷ l)) (node_grown.leaves_grown ∙ append_empty _) k.1)
      was (node f n y z) k = either (pushed Ns d k.0 (MNode f n y z) (subst (λ (m : List MDiagram). Numbered m k.0 (MNode f n y z)) one_more k.1))
        where
          either : Numbered Ns k.0 (MNode f n y z) ⊎ ((k.0 ≡ length Ns + 1) × (MNode f n y z ≡ d)) → Has (state c) (node f n y z) ⊎ In (node f n y z) (q ∷ [])
          either (inl e) = inl (k.0, old e)
            where
              old : Numbered Ns k.0 (MNode f n y z) → Numbered (state c).nodes k.0 (MNode f n y z)
              old e = e
          either (inr e) = inr (inl (ap to_request e.1))

  of_number : (n : Amount) → Numbered Ns n.number d → Names (state c) (Branch n) d
  unfolding state diagram_of
  of_number n e = record { present = numbered_bound Ns n.number d e; stands = numbered_value (MLeaf []) Ns n.number d e }

  more_names : (n : Amount) → n.number ≡ length c.nodes + 1 → Names (state more) (Branch n) d
  unfolding diagram_of
  more_names n e =
      let t = last_there n.number e in
      record { present = numbered_bound (state more).nodes n.number d t; stands = numbered_value (MLeaf []) (state more).nodes n.number d t }

  held_already : (n : ℕ) × Numbered Ns n d → Added (state c) (q ∷ []) (state c)
  unfolding state
  held_already k = record { grown = (added_none (state c)).grown; asked = (k, tt); nothing_else = λ r m. inl m }

  -- entered, whether it was there or not
  node_put :
      (c' : Contents) (n : Amount) →
      c'.actions ≡ c.actions →
      c'.cells ≡ c.cells →
      ((c'.nodes ≡ c.nodes) ⊎ (Absent c.nodes x × (c'.nodes ≡ c.nodes ++ (x ∷ [])))) →
      Numbered c'.nodes n.number x →
      Sound c' × Names (state c') (Branch n) d × Added (state c) (q ∷ []) (state c')
  node_put c' n ea ec (inl en) e =
      subst (λ (k : Contents). Sound k × Names (state k) (Branch n) d × Added (state c) (q ∷ []) (state k)) (sym same)
      (h, names, added)
    where
      same : c' ≡ c
      same = λ i. record { actions = ea i; cells = ec i; nodes = en i }

      there : Numbered c.nodes n.number x
      there = subst (λ (l : List Node). Numbered l n.number x) en e

      names : Names (state c) (Branch n) d
      names = of_number n (node_read c h n.number x there)

      added : Added (state c) (q ∷ []) (state c)
      added = held_already (n.number, node_read c h n.number x there)
  node_put c' n ea ec (inr (a, en)) e =
      subst (λ (k : Contents). Sound k × Names (state k) (Branch n) d × Added (state c) (q ∷ []) (state k)) (sym same)
      (node_sound a, more_names n (⊎_elim (λ k. absurd (a n.number k)) (λ k. k.0) (pushed c.nodes x n.number x there)), node_added)
    where
      same : c' ≡ more
      same = λ i. record { actions = ea i; cells = ec i; nodes = en i }

      there : Numbered (c.nodes ++ (x ∷ [])) n.number x
      there = subst (λ (l : List Node). Numbered l n.number x) en e

pub node_made :
    (c : Counts) (s : Stores) (g : SoundStores c s) (x : Node) →
    Present (state (contents c s)) x.yes →
    Present (state (contents c s)) x.no →
    (c' : Counts) (s' : Stores) (n : Amount) →
    (contents c' s').actions ≡ (contents c s).actions →
    (contents c' s').cells ≡ (contents c s).cells →
    c'.actions ≡ c.actions →
    c'.cells ≡ c.cells →
    Entered c.nodes (contents c s).nodes x n.number c'.nodes (contents c' s').nodes →
    Done (Entering x.test.field x.test.value (diagram_of (state (contents c s)) x.yes) (diagram_of (state (contents c s)) x.no)) c s c' s' (Ok (Branch n))
unfolding state diagram_of
node_made c s g x pyes pno c' s' n ha hc na nc e =
    let p = node_put (contents c s) g.sound x pyes pno (contents c' s') n ha hc growth e.number in
    record {
      out = d (contents c s) g.sound x pyes pno;
      asks = q (contents c s) g.sound x pyes pno ∷ [];
      by_the_rules = (refl, refl);
      made =
          record {
            good = record {
              sound = p.0;
              counted = record {
                actions_counted = ap length ha ∙ (g.counted.actions_counted ∙ sym na);
                cells_counted = ap length hc ∙ (g.counted.cells_counted ∙ sym nc);
                nodes_counted = counted e.growth;
              };
            };
            names = p.1;
            added = p.2;
          };
    }
  where
    growth : ((contents c' s').nodes ≡ (contents c s).nodes) ⊎ (Absent (contents c s).nodes x × ((contents c' s').nodes ≡ (contents c s).nodes ++ (x ∷ [])))
    growth = ⊎_elim (λ k. inl k.1) (λ k. inr (k.0, k.2)) e.growth

    counted : StoreGrown c.nodes (contents c s).nodes x c'.nodes (contents c' s').nodes → length (contents c' s').nodes ≡ c'.nodes
    counted (inl k) = ap length k.1 ∙ (g.counted.nodes_counted ∙ sym k.0)
    counted (inr k) = omega (arith, ap length k.2, length-append (contents c s).nodes (x ∷ []), g.counted.nodes_counted, k.1)

pub node_refused :
    (c : Counts) (s : Stores) (g : SoundStores c s) (x : Node) →
    Present (state (contents c s)) x.yes →
    Present (state (contents c s)) x.no →
    (c' : Counts) (s' : Stores) {f : StoreFault} {result : Result Diagram StoreFault} →
    result ≡ Err f →
    f ≡ Full →
    NoRoom c.nodes s.nodes.slots.now x →
    Done (Entering x.test.field x.test.value (diagram_of (state (contents c s)) x.yes) (diagram_of (state (contents c s)) x.no)) c s c' s' result
unfolding state diagram_of
node_refused c s g x pyes pno c' s' {f} {result} e h r =
    subst (λ (t : Result Diagram StoreFault). Done (Entering x.test.field x.test.value (side_of L N x.yes) (side_of L N x.no)) c s c' s' t) (sym e)
    (record {
      out = D;
      asks = Q ∷ [];
      by_the_rules = (refl, refl);
      made = (h, over_full to_request from_request nodes N D refl refl (inl refl) absent g.sound.nodes_distinct each (omega (arith, r.full, nodes_long C g.sound, g.counted.nodes_counted)));
    })
  where
    C : Contents
    C = contents c s

    L : List (List MCell)
    L = leaves_in (actions_in (contents c s).actions) (contents c s).cells

    N : List MDiagram
    N = nodes_in (leaves_in (actions_in (contents c s).actions) (contents c s).cells) (contents c s).nodes

    D : MDiagram
    D = d (contents c s) g.sound x pyes pno

    Q : Request
    Q = q (contents c s) g.sound x pyes pno

    absent : Absent N D
    absent m k = r.absent m (node_alone (contents c s) g.sound x pyes pno m k)

    each : (n : ℕ) (y : MDiagram) → Numbered N n y → (from_request (to_request y) ≡ y) × (kind_of (to_request y) ≡ nodes) × Has (state (contents c s)) (to_request y)
    each n (MLeaf l) k = absurd (true≢false (node_whole (contents c s) g.sound n (MLeaf l) k))
    each n (MNode f m y z) k = (refl, refl, (n, k))
