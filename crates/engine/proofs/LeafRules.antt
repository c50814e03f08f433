-- Leaves put together, and strands merged, over the stores.
use Rattle.std.proofs.Common.{◌≡◌, ℕ, ◌⊎◌, List, [], ◌∷◌, ◌++◌, Ok, Err, Result, OnOk, sym, refl, ap, ◌∙◌, subst, inl, inr, arith}
use Rattle.weights.specs.Weights.{Ops}
use Rattle.weights.specs.Order.{In}
use Rattle.meaning.specs.Leaves.{Action as MAction, Cell as MCell, Each, LeafFormed}
use Rattle.meaning.specs.Diagrams.{Diagram as MDiagram, Leaf as MLeaf, Node as MNode}
use Rattle.meaning.proofs.Starring.{each_in}
use Rattle.faults.specs.declared.layers.StoreFault.{StoreFault}
use Rattle.faults.specs.declared.layers.StoreFault.TheVariants.{Full}
use Rattle.format.specs.declared.settings.Amount.{Amount}
use Rattle.records.specs.declared.kinds.Diagram.{Diagram}
use Rattle.records.specs.declared.kinds.Diagram.TheVariants.{Leaf}
use Rattle.counts.specs.declared.counts.Counts.{Counts}
use Rattle.engine.specs.declared.memory.Stores.{Stores}
use Rattle.engine.specs.Contents.{contents}
use Rattle.requests.specs.Requests.{Request, action, cell, node, leaf_records}
use Rattle.requests.specs.Claims.{Construction}
use Rattle.engine.specs.Built.{numbered_or}
use Rattle.engine.specs.State.{State, state, diagram_of, Names, Has, Grown}
use Rattle.engine.specs.Done.{Entering, Added, Over, SoundStores, NothingLost, Done, rooms}
use Rattle.engine.specs.Leaves.{LeafPresent, leaf_at}
use Rattle.engine.specs.Cells.{action_at, CellEntering, PutOn, LeafOf, ActionMade, LeavesFormed, leaf_result}
use Rattle.engine.proofs.Numbers.{or_grown, numbered_value, in_left, in_right, in_split}
use Rattle.engine.proofs.Composing.{start, next, refused, complete, tail, Among, added_none, over_within}

abbrev pub here : Counts → Stores → State
here c s = state (contents c s)

each_from : {P : Request → Type 0} (l : List Request) → ((q : Request) → In q l → P q) → Each P l
each_from [] f = tt
each_from (q ∷ l) f = (f q (inl refl), each_from l (λ r m. f r (inr m)))

-- the same records asked, in another order
pub reordered :
    {Q R : Construction} {c c' : Counts} {s s' : Stores} {result : Result Diagram StoreFault} (x : List Request) →
    Done R c s c' s' result →
    ((r : MDiagram) (a : List Request) → R r a → Q r x × Among a x × Among x a) →
    Done Q c s c' s' result
reordered {c' = c'} {s' = s'} {result = Ok w} x d f =
    record {
      out = d.out;
      asks = x;
      by_the_rules = (f d.out d.asks d.by_the_rules).0;
      made = record {
        good = d.made.good;
        names = d.made.names;
        added = record {
          grown = d.made.added.grown;
          asked = each_from x (λ r m. each_in (Has (here c' s')) d.asks d.made.added.asked r ((f d.out d.asks d.by_the_rules).2 r m));
          nothing_else = λ r m. more r (d.made.added.nothing_else r m);
        };
      };
    }
  where
    more : {A : Type 0} (r : Request) → A ⊎ In r d.asks → A ⊎ In r x
    more r (inl k) = inl k
    more r (inr m) = inr ((f d.out d.asks d.by_the_rules).1 r m)
reordered {s = s} {result = Err e} x d f =
    let p = f d.out d.asks d.by_the_rules in
    record { out = d.out; asks = x; by_the_rules = p.0; made = (d.made.0, over_within (added_none _) (λ r m. absurd m) p.1 d.made.1) }

pub leaf_grown : {s s' : State} → Grown s s' → (n : ℕ) → LeafPresent s n → leaf_at s' n ≡ leaf_at s n
leaf_grown {s} {s'} g n h = ap (λ l. numbered_or [] l n) g.leaves_grown ∙ or_grown [] s.leaves g.new_leaves n h

pub leaf_tail : {o : Ops} {c : MCell} {l : List MCell} → LeafFormed o (c ∷ l) → LeafFormed o l
leaf_tail h = record { cells = h.cells.1; ascending = h.ascending.1 }

abbrev cells_of : MDiagram → List MCell
cells_of (MLeaf l) = l
cells_of (MNode f n y z) = []

-- the leaf of a word
pub leaf_named : {s : State} {n : Amount} {l : List MCell} {d : MDiagram} → Names s (Leaf n) d → d ≡ MLeaf l → leaf_at s n.number ≡ l
unfolding diagram_of
leaf_named m e = ap cells_of (m.stands ∙ e)

pub leaves_after :
    {o : Ops} {s s' : State} {a : List Request} →
    LeavesFormed o s →
    Added s a s' →
    ((b : MAction) (v : ℕ) (l : List MCell) → In (cell b v l) a → LeafFormed o ((b, v) ∷ l)) →
    LeavesFormed o s'
leaves_after h a f n [] e = record { cells = tt; ascending = tt }
leaves_after {o} {s} {s'} {a = asks} h a f n (x ∷ l) e = go (a.nothing_else (cell x.0 x.1 l) (n, e))
  where
    go : Has s (cell x.0 x.1 l) ⊎ In (cell x.0 x.1 l) asks → LeafFormed o (x ∷ l)
    go (inl k) = h k.0 (x ∷ l) k.1
    go (inr m) = f x.0 x.1 l m

as_leaf : Request → List MCell
as_leaf (action a) = []
as_leaf (cell a w l) = (a, w) ∷ l
as_leaf (node f n y z) = []

-- a node adds no leaf
pub node_leaves :
    {o : Ops} {f n : ℕ} {y z : MDiagram} {c c1 : Counts} {s s1 : Stores} (result : Result Diagram StoreFault) →
    LeavesFormed o (here c s) →
    Done (Entering f n y z) c s c1 s1 result →
    OnOk result (LeavesFormed o (here c1 s1))
node_leaves {o} {f} {n} {y} {z} (Ok w) h d = leaves_after h d.made.added (λ b v l m. go b v l (subst (λ (x : List Request). In (cell b v l) x) d.by_the_rules.1 m))
  where
    go : (b : MAction) (v : ℕ) (l : List MCell) → In (cell b v l) (node f n y z ∷ []) → LeafFormed o ((b, v) ∷ l)
    go b v l (inl e) = cc
    go b v l (inr k) = absurd k
node_leaves (Err e) h d = tt

-- the same by other rules
pub redone : {Q R : Construction} {c c' : Counts} {s s' : Stores} {result : Result Diagram StoreFault} → Done R c s c' s' result → ((r : MDiagram) (a : List Request) → R r a → Q r a) → Done Q c s c' s' result
redone d f = record { out = d.out; asks = d.asks; by_the_rules = f d.out d.asks d.by_the_rules; made = d.made }

module _ {a : MAction} {w : ℕ} {c c1 : Counts} {s s1 : Stores} where
  -- the action is entered, then the cell
  pub put_makes :
      {c2 : Counts} {s2 : Stores} {n r : ℕ} {result : Result Diagram StoreFault} →
      ActionMade a c s c1 s1 n →
      NothingLost c s c1 s1 →
      LeafPresent (here c s) r →
      Done (CellEntering (action_at (here c1 s1) n) w (leaf_at (here c1 s1) r)) c1 s1 c2 s2 result →
      Done (PutOn a w (leaf_at (here c s) r)) c s c2 s2 result
  put_makes {c2} {s2} {n} {r} m k p d =
      tail (record { good = m.good; added = m.added; kept = k }) {R = CellEntering (action_at (here c1 s1) n) w (leaf_at (here c1 s1) r)} {Q = PutOn a w (leaf_at (here c s) r)} d
      (d.by_the_rules.0 ∙ ap₂' (λ b l. MLeaf ((b, w) ∷ l)), ap {B = List Request} (λ l. action a ∷ l) (d.by_the_rules.1 ∙ ap₂' (λ b l. cell b w l ∷ [])))
    where
      its : action_at (here c1 s1) n ≡ a
      its = numbered_value [] (here c1 s1).actions n a m.numbered

      rest : leaf_at (here c1 s1) r ≡ leaf_at (here c s) r
      rest = leaf_grown m.added.grown r p

      ap₂' : {X : Type 0} (f : MAction → List MCell → X) → f (action_at (here c1 s1) n) (leaf_at (here c1 s1) r) ≡ f a (leaf_at (here c s) r)
      ap₂' f = λ i. f (its i) (rest i)

  pub put_stops :
      {l : List MCell} {f : StoreFault} {result : Result Amount StoreFault} →
      result ≡ Err f →
      (f ≡ Full) × Over (rooms s) (here c s) (action a ∷ []) →
      Done (PutOn a w l) c s c1 s1 (leaf_result result)
  put_stops {l} e v =
      subst (λ (t : Result Amount StoreFault). Done (PutOn a w l) c s c1 s1 (leaf_result t)) (sym e)
      (record {
        out = MLeaf ((a, w) ∷ l);
        asks = action a ∷ cell a w l ∷ [];
        by_the_rules = (refl, refl);
        made = (v.0, over_within (added_none _) (λ q m. absurd m) (λ q m. in_left q (action a ∷ []) (cell a w l ∷ []) m) v.1);
      })

  pub put_leaves :
      {o : Ops} {l : List MCell} (result : Result Amount StoreFault) →
      LeavesFormed o (here c s) →
      LeafFormed o ((a, w) ∷ l) →
      Done (PutOn a w l) c s c1 s1 (leaf_result result) →
      OnOk result (LeavesFormed o (here c1 s1))
  unfolding as_leaf
  put_leaves {o} {l} (Ok n) h f d = leaves_after h d.made.added (λ b v m i. go b v m (subst (λ (x : List Request). In (cell b v m) x) d.by_the_rules.1 i))
    where
      go : (b : MAction) (v : ℕ) (m : List MCell) → In (cell b v m) (action a ∷ cell a w l ∷ []) → LeafFormed o ((b, v) ∷ m)
      go b v m (inl e) = cc
      go b v m (inr (inl e)) = subst (LeafFormed o) (sym (ap as_leaf e)) f
      go b v m (inr (inr k)) = absurd k
  put_leaves (Err e) h f d = tt

module _ {M M' : List MCell} {a : MAction} {w : ℕ} (whole : M ≡ (a, w) ∷ M') where
  pub rest_formed : {o : Ops} → LeafFormed o M → LeafFormed o M'
  rest_formed {o} h = leaf_tail (subst (LeafFormed o) whole h)

  -- the rest of a leaf is refused, or made and then its first cell put on it
  pub rest_stops :
      {c c1 : Counts} {s s1 : Stores} {f : StoreFault} {result : Result Amount StoreFault} →
      SoundStores c s →
      Done (LeafOf M') c s c1 s1 (Err f) →
      result ≡ Err f →
      Done (LeafOf M) c s c1 s1 (leaf_result result)
  rest_stops g d e =
      refused (start g) {R = LeafOf M'} {Q = LeafOf M} (MLeaf M) (leaf_records M) d (ap leaf_result e) (refl, refl) (λ q m. absurd m)
      (λ q m. subst (λ (x : List Request). In q x) (sym (ap leaf_records whole)) (inr (inr (subst (λ (x : List Request). In q x) d.by_the_rules.1 m))))

  pub first_put :
      {c c1 c2 : Counts} {s s1 s2 : Stores} {n : Amount} {result : Result Diagram StoreFault} →
      SoundStores c s →
      (d : Done (LeafOf M') c s c1 s1 (Ok (Leaf n))) →
      NothingLost c s c1 s1 →
      Done (PutOn a w (leaf_at (here c1 s1) n.number)) c1 s1 c2 s2 result →
      Done (LeafOf M) c s c2 s2 result
  first_put {c} {c1} {c2} {s} {s1} {s2} {n} g d k e =
      reordered (leaf_records M)
      (tail (next (start g) {R = LeafOf M'} d k) {R = PutOn a w (leaf_at (here c1 s1) n.number)} {Q = λ r x. (r ≡ MLeaf M) × (x ≡ leaf_records M' ++ (action a ∷ cell a w M' ∷ []))} e
      (e.by_the_rules.0 ∙ (ap (λ (l : List MCell). MLeaf ((a, w) ∷ l)) same ∙ ap {B = MDiagram} MLeaf (sym whole)), asked))
      (λ r x h. (
        (h.0, refl),
        (λ q m. subst (λ (x : List Request). In q x) (sym (ap leaf_records whole)) (there q (in_split' q (subst (λ (x : List Request). In q x) h.1 m)))),
        (λ q m. subst (λ (x : List Request). In q x) (sym h.1) (back q (subst (λ (x : List Request). In q x) (ap leaf_records whole) m))),
      ))
    where
      same : leaf_at (here c1 s1) n.number ≡ M'
      same = leaf_named d.made.names d.by_the_rules.0

      asked : d.asks ++ e.asks ≡ leaf_records M' ++ (action a ∷ cell a w M' ∷ [])
      asked = λ i. d.by_the_rules.1 i ++ (e.by_the_rules.1 ∙ ap (λ (l : List MCell). action a ∷ cell a w l ∷ []) same) i

      in_split' : (q : Request) → In q (leaf_records M' ++ (action a ∷ cell a w M' ∷ [])) → In q (leaf_records M') ⊎ In q (action a ∷ cell a w M' ∷ [])
      in_split' q m = in_split q (leaf_records M') (action a ∷ cell a w M' ∷ []) m

      there : (q : Request) → In q (leaf_records M') ⊎ In q (action a ∷ cell a w M' ∷ []) → In q (action a ∷ cell a w M' ∷ leaf_records M')
      there q (inl m) = inr (inr m)
      there q (inr (inl m)) = inl m
      there q (inr (inr (inl m))) = inr (inl m)
      there q (inr (inr (inr m))) = absurd m

      back : (q : Request) → In q (action a ∷ cell a w M' ∷ leaf_records M') → In q (leaf_records M' ++ (action a ∷ cell a w M' ∷ []))
      back q (inl m) = in_right q (leaf_records M') (action a ∷ cell a w M' ∷ []) (inl m)
      back q (inr (inl m)) = in_right q (leaf_records M') (action a ∷ cell a w M' ∷ []) (inr (inl m))
      back q (inr (inr m)) = in_left q (leaf_records M') (action a ∷ cell a w M' ∷ []) m

  -- the leaf that is made is well-formed
  pub first_formed : {c c1 : Counts} {s s1 : Stores} {o : Ops} {n : Amount} → LeafFormed o M → (d : Done (LeafOf M') c s c1 s1 (Ok (Leaf n))) → LeafFormed o ((a, w) ∷ leaf_at (here c1 s1) n.number)
  first_formed {o = o} h d =
      subst (λ (l : List MCell). LeafFormed o ((a, w) ∷ l)) (sym (leaf_named d.made.names d.by_the_rules.0)) (subst (LeafFormed o) whole h)

-- no cell at all
pub none_made : {M : List MCell} {c : Counts} {s : Stores} {n : Amount} → M ≡ [] → n.number ≡ 0 → SoundStores c s → Done (LeafOf M) c s c s (Ok (Leaf n))
unfolding diagram_of
none_made {M} {c} {s} {n} e z g =
    complete {Q = LeafOf M} {r = MLeaf M} [] (start g) refl
    (record {
      present = omega (arith, z);
      stands = ap {B = MDiagram} MLeaf (ap (λ (k : ℕ). numbered_or [] (here c s).leaves k) z ∙ sym e);
    })
    (refl, ap leaf_records (sym e))
