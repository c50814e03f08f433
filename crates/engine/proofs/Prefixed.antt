-- A leaf behind an action, selected cell by cell.
use Rattle.std.proofs.Common.{◌≡◌, ℕ, List, [], ◌∷◌, ◌++◌, length, map, Some, None, Option, Ok, Err, Result, sym, refl, ap, ◌∙◌, subst, inl, inr, arith, ◌<◌, length-append}
use Rattle.weights.specs.Weights.{Ops, Laws, Weight}
use Rattle.weights.specs.Order.{In}
use Rattle.format.specs.Actions.{ActionBelow}
use Rattle.faults.specs.declared.layers.StoreFault.{StoreFault}
use Rattle.format.specs.declared.settings.Amount.{Amount}
use Rattle.actions.specs.declared.actions.Action.{Action}
use Rattle.records.specs.declared.kinds.Diagram.TheVariants.{Leaf}
use Rattle.counts.specs.declared.counts.Counts.{Counts}
use Rattle.engine.specs.declared.memory.Stores.{Stores}
use Rattle.meaning.specs.Leaves.{Action as MAction, Cell as MCell, ActionFormed, LeafFormed}
use Rattle.meaning.specs.Diagrams.{Diagram as MDiagram, Leaf as MLeaf}
use Rattle.meaning.specs.Constructions.{prefix_cell}
use Rattle.meaning.proofs.Gathering.{each_of_map}
use Rattle.meaning.proofs.Making.{collect_formed}
use Rattle.meaning.proofs.Sequencing.{compose_formed}
use Rattle.requests.specs.Requests.{Request, action, cell, leaf_records}
use Rattle.requests.specs.Rules.{prefix_leaf}
use Rattle.engine.specs.declared.prefixing.WeightedAction.{WeightedAction}
use Rattle.engine.specs.Done.{SoundStores, NothingLost, Done}
use Rattle.engine.specs.Leaves.{LeafPresent, leaf_at}
use Rattle.engine.specs.Cells.{PutOn, LeafOf, LeavesFormed, leaf_result}
use Rattle.engine.specs.Merging.{sets_of}
use Rattle.engine.specs.Greatest.{under, last, greater, better, found_cell}
use Rattle.engine.proofs.Composing.{start, next, refused, kept_refl, kept_trans, append_empty}
use Rattle.engine.proofs.LeafRules.{here, leaf_tail, leaf_named, leaf_grown, none_made, first_put, redone}
use Rattle.engine.proofs.Merged.{three_below, three_level, three_above, below_before}
use Rattle.engine.proofs.Greatest.{Cut, cut, none_left}

module _ (o : Ops) (x : WeightedAction) {y : WeightedAction} {m : Option WeightedAction} (e : m ≡ Some y) where
  pub greater_less : ActionBelow x.action.sets y.action.sets → Some (y.action.sets, y.weight) ≡ greater o (x.action.sets, x.weight) (found_cell m)
  greater_less h =
      sym (ap (λ (u : Option WeightedAction). greater o (x.action.sets, x.weight) (found_cell u)) e ∙ three_below x.action.sets y.action.sets _ _ _ (below_before _ _ h))

  pub greater_equal : {w : ℕ} → x.action ≡ y.action → w ≡ o.join x.weight y.weight → Some (x.action.sets, w) ≡ greater o (x.action.sets, x.weight) (found_cell m)
  greater_equal h q =
      ap (λ (v : ℕ). Some (x.action.sets, v)) q
      ∙ sym (ap (λ (u : Option WeightedAction). greater o (x.action.sets, x.weight) (found_cell u)) e ∙ three_level x.action.sets y.action.sets _ _ _ (ap (λ (a : Action). a.sets) h))

  pub greater_greater : ActionBelow y.action.sets x.action.sets → Some (x.action.sets, x.weight) ≡ greater o (x.action.sets, x.weight) (found_cell m)
  greater_greater h =
      sym (ap (λ (u : Option WeightedAction). greater o (x.action.sets, x.weight) (found_cell u)) e ∙ three_above x.action.sets y.action.sets _ _ _ (below_before _ _ h))

module _ (o : Ops) (x : WeightedAction) (m : Option MCell) {k : Option MCell} {b : Option Action} {a : Action} (e : b ≡ Some a) where
  pub better_less : ActionBelow x.action.sets a.sets → k ≡ greater o (x.action.sets, x.weight) m → k ≡ better o (sets_of b) (x.action.sets, x.weight) m
  better_less h q =
      q ∙ sym (ap (λ (u : Option Action). better o (sets_of u) (x.action.sets, x.weight) m) e ∙ three_below x.action.sets a.sets _ _ _ (below_before _ _ h))

module _ (o : Ops) (x : WeightedAction) (m : Option MCell) {b : Option Action} {a : Action} (e : b ≡ Some a) where
  pub better_equal : x.action ≡ a → m ≡ better o (sets_of b) (x.action.sets, x.weight) m
  better_equal h =
      sym (ap (λ (u : Option Action). better o (sets_of u) (x.action.sets, x.weight) m) e ∙ three_level x.action.sets a.sets _ _ _ (ap (λ (c : Action). c.sets) h))

  pub better_greater : ActionBelow a.sets x.action.sets → m ≡ better o (sets_of b) (x.action.sets, x.weight) m
  better_greater h =
      sym (ap (λ (u : Option Action). better o (sets_of u) (x.action.sets, x.weight) m) e ∙ three_above x.action.sets a.sets _ _ _ (below_before _ _ h))

-- the leaf behind the action is well-formed
pub prefix_formed : {o : Ops} → Laws o → {a : MAction} {w : ℕ} (l : List MCell) → ActionFormed a → Weight o w → LeafFormed o l → LeafFormed o (prefix_leaf o a w l)
prefix_formed {o} L {a} {w} l h k f =
    collect_formed L (map (prefix_cell o a w) l) (each_of_map _ (λ c. ActionFormed c.0 × Weight o c.1) (prefix_cell o a w) (λ c p. (compose_formed a c.0 h p.action, L.times_weight w c.1 k p.weight)) l f.cells)

-- from the end of the leaf l the cells down to the bound are made
pub record Selected (o : Ops) (c0 : Counts) (s0 : Stores) (l : List MCell) (b : Option MAction) (c : Counts) (s : Stores) (n : Amount) : Type 0 where
  pub tail : List MCell
  pub whole : under b l ++ tail ≡ l
  pub done : Done (LeafOf tail) c0 s0 c s (Ok (Leaf n))
  pub kept : NothingLost c0 s0 c s
  pub leaves : LeavesFormed o (here c s)

back_formed : {o : Ops} (k l : List MCell) → LeafFormed o (k ++ l) → LeafFormed o l
back_formed [] l h = h
back_formed (c ∷ k) l h = back_formed k l (leaf_tail h)

back_records : (k l : List MCell) (q : Request) → In q (leaf_records l) → In q (leaf_records (k ++ l))
back_records [] l q m = m
back_records (c ∷ k) l q m = inr (inr (back_records k l q m))

pub nothing_selected : {o : Ops} {c : Counts} {s : Stores} {l : List MCell} {n : Amount} → n.number ≡ 0 → SoundStores c s → LeavesFormed o (here c s) → Selected o c s l None c s n
unfolding under
nothing_selected {l = l} z g h = record { tail = []; whole = append_empty l; done = none_made refl z g; kept = kept_refl _ _; leaves = h }

module _ {o : Ops} {c0 c : Counts} {s0 s : Stores} {l : List MCell} {b : Option MAction} {n : Amount} (S : Selected o c0 s0 l b c s n) where
  pub all_selected : last (under b l) ≡ None → Done (LeafOf l) c0 s0 c s (Ok (Leaf n))
  all_selected q = let e : S.tail ≡ l = none_left b l S.tail S.whole q in redone S.done (λ r x i. (i.0 ∙ ap {B = MDiagram} MLeaf e, i.1 ∙ ap leaf_records e))

  module _ {e : MCell} (f : LeafFormed o l) (q : last (under b l) ≡ Some e) where
    its_cut : Cut b e l S.tail
    its_cut = cut b e l S.tail f.ascending S.whole q

    pub next_formed : LeafFormed o (e ∷ leaf_at (here c s) n.number)
    next_formed =
        let C = its_cut in
        subst (λ (t : List MCell). LeafFormed o (e ∷ t)) (sym (leaf_named S.done.made.names S.done.by_the_rules.0)) (back_formed C.front (e ∷ S.tail) (subst (LeafFormed o) C.parts f))

    pub next_shorter : length (under (Some e.0) l) < length (under b l)
    next_shorter = its_cut.shorter

    pub next_selected :
        {c' : Counts} {s' : Stores} {n' : Amount} →
        SoundStores c0 s0 →
        Done (PutOn e.0 e.1 (leaf_at (here c s) n.number)) c s c' s' (Ok (Leaf n')) →
        NothingLost c s c' s' →
        LeavesFormed o (here c' s') →
        Selected o c0 s0 l (Some e.0) c' s' n'
    next_selected g d k h =
        record {
          tail = e ∷ S.tail;
          whole = its_cut.whole;
          done = first_put refl g S.done S.kept d;
          kept = kept_trans S.kept k;
          leaves = h;
        }

    pub next_refused :
        {c' : Counts} {s' : Stores} {x : StoreFault} {result : Result Amount StoreFault} →
        SoundStores c0 s0 →
        Done (PutOn e.0 e.1 (leaf_at (here c s) n.number)) c s c' s' (Err x) →
        result ≡ Err x →
        Done (LeafOf l) c0 s0 c' s' (leaf_result result)
    next_refused g d r =
        refused (next (start g) {R = LeafOf S.tail} S.done S.kept) {R = PutOn e.0 e.1 (leaf_at (here c s) n.number)} {Q = LeafOf l} (MLeaf l) (leaf_records l) d (ap leaf_result r) (refl, refl)
        (λ q m. moved q (back_records its_cut.front (e ∷ S.tail) q (inr (inr (subst (λ (x : List Request). In q x) S.done.by_the_rules.1 m)))))
        (λ q m. moved q (back_records its_cut.front (e ∷ S.tail) q (own q (subst (λ (x : List Request). In q x) (d.by_the_rules.1 ∙ ap (λ (t : List MCell). action e.0 ∷ cell e.0 e.1 t ∷ []) same) m))))
      where
        same : leaf_at (here c s) n.number ≡ S.tail
        same = leaf_named S.done.made.names S.done.by_the_rules.0

        moved : (q : Request) → In q (leaf_records (its_cut.front ++ (e ∷ S.tail))) → In q (leaf_records l)
        moved q m = subst (λ (t : List MCell). In q (leaf_records t)) (sym its_cut.parts) m

        own : (q : Request) → In q (action e.0 ∷ cell e.0 e.1 S.tail ∷ []) → In q (leaf_records (e ∷ S.tail))
        own q (inl m) = inl m
        own q (inr (inl m)) = inr (inl m)
        own q (inr (inr m)) = absurd m

-- the leaf that is read stays what it was
pub source_stays : {o : Ops} {c0 c : Counts} {s0 s : Stores} {l : List MCell} {b : Option MAction} {n : Amount} → Selected o c0 s0 l b c s n → (k : ℕ) → LeafPresent (here c0 s0) k → LeafPresent (here c s) k × (leaf_at (here c s) k ≡ leaf_at (here c0 s0) k)
source_stays {c0 = c0} {c = c} {s0 = s0} {s = s} S k p = (long, leaf_grown S.done.made.added.grown k p)
  where
    long : LeafPresent (here c s) k
    long = omega (arith, ap length S.done.made.added.grown.leaves_grown, p, length-append (here c0 s0).leaves S.done.made.added.grown.new_leaves)

pub seen :
    {o : Ops} {c0 c : Counts} {s0 s : Stores} {l : List MCell} {b : Option MAction} {n : Amount} {r t : Option WeightedAction} (a : MAction) (w k : ℕ) →
    Selected o c0 s0 l b c s n →
    LeafPresent (here c0 s0) k →
    found_cell r ≡ last (under b (prefix_leaf o a w (leaf_at (here c s) k))) →
    r ≡ t →
    last (under b (prefix_leaf o a w (leaf_at (here c0 s0) k))) ≡ found_cell t
seen {o = o} {b = b} a w k S p e q =
    ap (λ (l : List MCell). last (under b (prefix_leaf o a w l))) (sym (source_stays S k p).1) ∙ (sym e ∙ ap found_cell q)
