-- A collected list, from its end: selection of the greatest cell below a bound.
use Rattle.std.proofs.Common.{◌≡◌, ℕ, List, [], ◌∷◌, ◌++◌, length, map, Some, None, Option, sym, refl, ap, ◌∙◌, subst, inl, inr, ◌⊎◌, arith, ◌<◌, append_assoc, length-append}
use Rattle.weights.specs.Weights.{Ops, Laws, Weight}
use Rattle.format.specs.Actions.{compose}
use Rattle.meaning.specs.Decide.{choice, decide, three, Tri, below, level, above, order_actions, Before}
use Rattle.meaning.specs.Leaves.{Action as MAction, Cell as MCell, Each, Ascending, CellFormed, LeafFormed, put, enter, collect}
use Rattle.meaning.specs.Constructions.{prefix_cell}
use Rattle.std.proofs.lemmas.List.{map-append}
use Rattle.meaning.proofs.Making.{leaves_equal, collect_tidy}
use Rattle.engine.proofs.Composing.{append_empty}
use Rattle.meaning.proofs.Gathering.{Weights, each_append, equal_actions, chosen_additive, gather_collect, gather_append, gather_weight, before_trans, each_map, collect_ascending}
use Rattle.requests.specs.Rules.{prefix_leaf}
use Rattle.records.specs.declared.kinds.Cell.{Cell}
use Rattle.engine.specs.State.{State}
use Rattle.engine.specs.Leaves.{LeafPresent, leaf_at}
use Rattle.engine.specs.Cells.{CellRead, action_at}
use Rattle.engine.specs.Greatest.{under, last_or, last, greater, better, entered}
use Rattle.engine.proofs.Merged.{three_below, three_level, three_above}
use Rattle.engine.proofs.Collected.{After}

past : (a b : MAction) (l : List MCell) → Before a b → After b l → After a l
past a b l p h = each_map (λ x q. before_trans a b x.0 p q) l h

last_after : (a : MAction) (e : MCell) (l : List MCell) → Before a e.0 → After a l → Before a (last_or e l).0
last_after a e [] p h = p
last_after a e (f ∷ l) p h = last_after a f l h.0 h.1

module _ (o : Ops) where
  last_behind : (e : MCell) (a : MAction) (w : ℕ) (l : List MCell) → last (e ∷ put o a w l) ≡ last (put o a w l)
  last_behind e a w [] = refl
  last_behind e a w (c ∷ l) = go (order_actions a c.0)
    where
      go : (t : Tri (Before a c.0) (a ≡ c.0) (Before c.0 a)) → last (e ∷ three t ((a, w) ∷ c ∷ l) ((a, o.join w c.1) ∷ l) (c ∷ put o a w l)) ≡ last (three t ((a, w) ∷ c ∷ l) ((a, o.join w c.1) ∷ l) (c ∷ put o a w l))
      go (below p) = refl
      go (level p) = refl
      go (above p) = refl

  last_put : (c : MCell) (l : List MCell) → Ascending l → last (put o c.0 c.1 l) ≡ greater o c (last l)
  last_put c [] s = refl
  last_put c (e ∷ l) s = go (order_actions c.0 e.0) (last_put c l s.1)
    where
      same : (l : List MCell) → After e.0 l → c.0 ≡ e.0 → last ((c.0, o.join c.1 e.1) ∷ l) ≡ greater o c (Some (last_or e l))
      same [] h q = sym (three_level c.0 e.0 _ _ _ q)
      same (f ∷ l) h q =
          let k : After c.0 (f ∷ l) = subst (λ (a : MAction). After a (f ∷ l)) (sym q) h in
          sym (three_below c.0 (last_or f l).0 _ _ _ (last_after c.0 f l k.0 k.1))

      skip : (l : List MCell) → Before e.0 c.0 → greater o c (last l) ≡ greater o c (Some (last_or e l))
      skip [] p = sym (three_above c.0 e.0 _ _ _ p)
      skip (f ∷ l) p = refl

      go :
          (t : Tri (Before c.0 e.0) (c.0 ≡ e.0) (Before e.0 c.0)) →
          last (put o c.0 c.1 l) ≡ greater o c (last l) →
          last (three t (c ∷ e ∷ l) ((c.0, o.join c.1 e.1) ∷ l) (e ∷ put o c.0 c.1 l)) ≡ greater o c (Some (last_or e l))
      go (below p) ih = sym (three_below c.0 (last_or e l).0 _ _ _ (last_after c.0 e l p (past c.0 e.0 l p s.0)))
      go (level q) ih = same l s.0 q
      go (above p) ih = last_behind e c.0 c.1 l ∙ (ih ∙ skip l p)

  module _ (b : MAction) where
    -- a cell that is not below the bound
    abbrev Out : MAction → Type 0
    Out a = (a ≡ b) ⊎ Before b a

    stops : {X : Type 0} (a : MAction) (x y : X) → Out a → three (order_actions a b) x y y ≡ y
    stops a x y (inl e) = three_level a b x y y e
    stops a x y (inr p) = three_above a b x y y p

    farther : (a c : MAction) → Out a → Before a c → Out c
    farther a c (inl e) p = inr (subst (λ (x : MAction). Before x c) e p)
    farther a c (inr q) p = inr (before_trans b a c q p)

    under_out : (c : MCell) (l : List MCell) → Out c.0 → under (Some b) (put o c.0 c.1 l) ≡ under (Some b) l
    unfolding under
    under_out c [] h = stops c.0 _ _ h
    under_out c (e ∷ l) h = go (order_actions c.0 e.0) (under_out c l h)
      where
        go :
            (t : Tri (Before c.0 e.0) (c.0 ≡ e.0) (Before e.0 c.0)) →
            under (Some b) (put o c.0 c.1 l) ≡ under (Some b) l →
            under (Some b) (three t (c ∷ e ∷ l) ((c.0, o.join c.1 e.1) ∷ l) (e ∷ put o c.0 c.1 l)) ≡ three (order_actions e.0 b) (e ∷ under (Some b) l) [] []
        go (below p) ih = stops c.0 _ _ h ∙ sym (stops e.0 _ _ (farther c.0 e.0 h p))
        go (level q) ih = stops c.0 _ _ h ∙ sym (stops e.0 _ _ (subst Out q h))
        go (above p) ih = ap (λ (k : List MCell). three (order_actions e.0 b) (e ∷ k) [] []) ih

    under_in : (c : MCell) (l : List MCell) → Before c.0 b → under (Some b) (put o c.0 c.1 l) ≡ put o c.0 c.1 (under (Some b) l)
    unfolding under
    under_in c [] h = three_below c.0 b _ _ _ h
    under_in c (e ∷ l) h = go (order_actions c.0 e.0) (under_in c l h)
      where
        U : List MCell
        U = under (Some b) l

        first : Before c.0 e.0 → (t : Tri (Before e.0 b) (e.0 ≡ b) (Before b e.0)) → c ∷ three t (e ∷ under (Some b) l) [] [] ≡ put o c.0 c.1 (three t (e ∷ under (Some b) l) [] [])
        first p (below q) = sym (three_below c.0 e.0 _ _ _ p)
        first p (level q) = refl
        first p (above q) = refl

        go :
            (t : Tri (Before c.0 e.0) (c.0 ≡ e.0) (Before e.0 c.0)) →
            under (Some b) (put o c.0 c.1 l) ≡ put o c.0 c.1 (under (Some b) l) →
            under (Some b) (three t (c ∷ e ∷ l) ((c.0, o.join c.1 e.1) ∷ l) (e ∷ put o c.0 c.1 l)) ≡ put o c.0 c.1 (three (order_actions e.0 b) (e ∷ under (Some b) l) [] [])
        go (below p) ih = three_below c.0 b _ _ _ h ∙ first p (order_actions e.0 b)
        go (level q) ih =
            three_below c.0 b _ _ _ h
            ∙ sym (ap (put o c.0 c.1) (three_below e.0 b _ _ _ (subst (λ (a : MAction). Before a b) q h)) ∙ three_level c.0 e.0 _ _ _ q)
        go (above p) ih =
            let k : Before e.0 b = before_trans e.0 c.0 b p h in
            three_below e.0 b _ _ _ k
            ∙ (ap {B = List MCell} (λ m. e ∷ m) ih ∙ sym (ap (put o c.0 c.1) (three_below e.0 b _ _ _ k) ∙ three_above c.0 e.0 _ _ _ p))

    under_each : (P : MCell → Type 0) (l : List MCell) → Each P l → Each P (under (Some b) l)
    unfolding under
    under_each P [] h = tt
    under_each P (c ∷ l) h = go (order_actions c.0 b) (under_each P l h.1)
      where
        go : (t : Tri (Before c.0 b) (c.0 ≡ b) (Before b c.0)) → Each P (under (Some b) l) → Each P (three t (c ∷ under (Some b) l) [] [])
        go (below p) ih = (h.0, ih)
        go (level p) ih = tt
        go (above p) ih = tt

    under_ascending : (l : List MCell) → Ascending l → Ascending (under (Some b) l)
    unfolding under
    under_ascending [] s = tt
    under_ascending (c ∷ l) s = go (order_actions c.0 b) (under_ascending l s.1)
      where
        go : (t : Tri (Before c.0 b) (c.0 ≡ b) (Before b c.0)) → Ascending (under (Some b) l) → Ascending (three t (c ∷ under (Some b) l) [] [])
        go (below p) ih = (under_each (λ e. Before c.0 e.0) l s.0, ih)
        go (level p) ih = tt
        go (above p) ih = tt

  better_put : (b : Option MAction) (c : MCell) (l : List MCell) → Ascending l → last (under b (put o c.0 c.1 l)) ≡ better o b c (last (under b l))
  unfolding under
  better_put None c l s = last_put c l s
  better_put (Some b) c l s = go (order_actions c.0 b)
    where
      go : (t : Tri (Before c.0 b) (c.0 ≡ b) (Before b c.0)) → last (under (Some b) (put o c.0 c.1 l)) ≡ three t (greater o c (last (under (Some b) l))) (last (under (Some b) l)) (last (under (Some b) l))
      go (below p) = ap last (under_in b c l p) ∙ last_put c (under (Some b) l) (under_ascending b l s)
      go (level e) = ap last (under_out b c l (inl e))
      go (above p) = ap last (under_out b c l (inr p))

-- the cells of a leaf that were seen from its head on, and the greatest of them
pub record Scanned (o : Ops) (a : MAction) (w : ℕ) (b : Option MAction) (S : State) (first : ℕ) (rest : ℕ) (m : Option MCell) : Type 0 where
  pub seen : List MCell
  pub parts : seen ++ leaf_at S rest ≡ leaf_at S first
  pub found : m ≡ last (under b (prefix_leaf o a w seen))
  pub present : LeafPresent S rest

under_nothing : (b : Option MAction) → under b [] ≡ []
unfolding under
under_nothing None = refl
under_nothing (Some b) = refl

pub nothing_scanned : {o : Ops} {a : MAction} {w : ℕ} {b : Option MAction} {S : State} {n : ℕ} → LeafPresent S n → Scanned o a w b S n n None
nothing_scanned {b = b} p = record { seen = []; parts = refl; found = sym (ap last (under_nothing b)); present = p }

module _ {o : Ops} (L : Laws o) where
  -- the last cell of a list may be entered last
  collect_end : (l : List MCell) (c : MCell) → Weights o l → Weight o c.1 → collect o (l ++ (c ∷ [])) ≡ enter o c.0 c.1 (collect o l)
  collect_end l c h k =
      leaves_equal L (collect o (l ++ (c ∷ []))) (collect o (c ∷ l))
      (collect_tidy L (l ++ (c ∷ [])) (each_append (λ e. Weight o e.1) l (c ∷ []) h (k, tt)))
      (collect_tidy L (c ∷ l) (k, h))
      (λ a.
      let A = chosen_additive L (λ b. equal_actions b a) in
      gather_collect L A (l ++ (c ∷ [])) (each_append (λ e. Weight o e.1) l (c ∷ []) h (k, tt))
      ∙ (gather_append L A l (c ∷ []) h (k, tt)
      ∙ (L.join_commutative _ _ (gather_weight L A l h) (gather_weight L A (c ∷ []) (k, tt))
      ∙ (sym (gather_append L A (c ∷ []) l (k, tt) h)
      ∙ sym (gather_collect L A (c ∷ l) (k, h))))))

  entered_put : (b : Option MAction) (c : MCell) (l : List MCell) → Ascending l → last (under b (enter o c.0 c.1 l)) ≡ entered o b c (last (under b l))
  entered_put b c l s = go (decide c.1 o.zero)
    where
      go : (d : Dec (c.1 ≡ o.zero)) → last (under b (choice d l (put o c.0 c.1 l))) ≡ choice d (last (under b l)) (better o b c (last (under b l)))
      go (yes e) = refl
      go (no h) = better_put o b c l s

  middle_weight : {w : ℕ} → Weight o w → (l : List MCell) (c : MCell) (r : List MCell) → Each (CellFormed o) (l ++ (c ∷ r)) → Weight o (o.times w c.1)
  middle_weight hw [] c r h = L.times_weight _ c.1 hw h.0.weight
  middle_weight hw (e ∷ l) c r h = middle_weight hw l c r h.1

  module _ (a : MAction) {w : ℕ} (hw : Weight o w) where
    front_weights : (l r : List MCell) → Each (CellFormed o) (l ++ r) → Weights o (map (prefix_cell o a w) l)
    front_weights [] r h = tt
    front_weights (c ∷ l) r h = (L.times_weight w c.1 hw h.0.weight, front_weights l r h.1)

    -- one cell further
    pub scanned_on :
        {b : Option MAction} {S : State} {first n : ℕ} {m : Option MCell} (f : LeafFormed o (leaf_at S first)) {x : Cell} {k : Option MCell} (u : MAction) →
        Scanned o a w b S first n m →
        CellRead S n x →
        u ≡ action_at S x.action.number →
        k ≡ entered o b (compose a u, o.times w x.weight.number) m →
        Scanned o a w b S first x.rest.number k
    scanned_on {b} {S} {first} {n} {m} f {x} {k} u s r g e =
        record { seen = s.seen ++ (C ∷ []); parts = append_assoc s.seen (C ∷ []) (leaf_at S x.rest.number) ∙ whole; found = e ∙ (now ∙ sym later); present = r.rest_present }
      where
        C : MCell
        C = (action_at S x.action.number, x.weight.number)

        whole : s.seen ++ (C ∷ leaf_at S x.rest.number) ≡ leaf_at S first
        whole = ap (λ (l : List MCell). s.seen ++ l) (sym r.itself) ∙ s.parts

        formed : Each (CellFormed o) (s.seen ++ (C ∷ leaf_at S x.rest.number))
        formed = subst (Each (CellFormed o)) (sym whole) f.cells

        later : last (under b (prefix_leaf o a w (s.seen ++ (C ∷ [])))) ≡ entered o b (prefix_cell o a w C) (last (under b (prefix_leaf o a w s.seen)))
        later =
            ap (λ (l : List MCell). last (under b (collect o l))) (map-append (prefix_cell o a w) s.seen (C ∷ []))
            ∙ (ap (λ (l : List MCell). last (under b l)) (collect_end (map (prefix_cell o a w) s.seen) (prefix_cell o a w C) (front_weights s.seen (C ∷ leaf_at S x.rest.number) formed) (middle_weight hw s.seen C (leaf_at S x.rest.number) formed))
            ∙ entered_put b (prefix_cell o a w C) (collect o (map (prefix_cell o a w) s.seen)) (collect_ascending L (map (prefix_cell o a w) s.seen)))

        now : entered o b (compose a u, o.times w x.weight.number) m ≡ entered o b (prefix_cell o a w C) (last (under b (prefix_leaf o a w s.seen)))
        now = λ i. entered o b (compose a (g i), o.times w x.weight.number) (s.found i)

pub all_scanned : {o : Ops} {a : MAction} {w : ℕ} {b : Option MAction} {S : State} {first n : ℕ} {m : Option MCell} → Scanned o a w b S first n m → n ≡ 0 → m ≡ last (under b (prefix_leaf o a w (leaf_at S first)))
all_scanned {o} {a} {w} {b} {S} s z =
    s.found ∙ ap (λ (l : List MCell). last (under b (prefix_leaf o a w l))) (sym (append_empty s.seen) ∙ (ap (λ (l : List MCell). s.seen ++ l) (sym (ap (leaf_at S) z)) ∙ s.parts))

-- an ascending list, cut before the cell that was found
split_or : (c : MCell) (l : List MCell) → (k : List MCell) × (c ∷ l ≡ k ++ (last_or c l ∷ []))
split_or c [] = ([], refl)
split_or c (e ∷ l) = let r = split_or e l in (c ∷ r.0, ap {B = List MCell} (λ k. c ∷ k) r.1)

last_split : (l : List MCell) (e : MCell) → last l ≡ Some e → (k : List MCell) × (l ≡ k ++ (e ∷ []))
last_split [] e q = cc
last_split (c ∷ l) e q =
    let r = split_or c l in
    let k : last_or c l ≡ e = cc in
    (r.0, r.1 ∙ ap (λ (x : MCell). r.0 ++ (x ∷ [])) k)

each_middle : (P : MCell → Type 0) (k : List MCell) (e : MCell) (l : List MCell) → Each P (k ++ (e ∷ l)) → P e
each_middle P [] e l h = h.0
each_middle P (c ∷ k) e l h = each_middle P k e l h.1

under_middle : (k : List MCell) (e : MCell) (l : List MCell) → Ascending (k ++ (e ∷ l)) → under (Some e.0) (k ++ (e ∷ l)) ≡ k
unfolding under
under_middle [] e l s = three_level e.0 e.0 _ _ _ refl
under_middle (c ∷ k) e l s = three_below c.0 e.0 _ _ _ (each_middle (λ x. Before c.0 x.0) k e l s.0) ∙ ap {B = List MCell} (λ m. c ∷ m) (under_middle k e l s.1)

pub record Cut (b : Option MAction) (e : MCell) (l t : List MCell) : Type 0 where
  pub front : List MCell
  pub parts : l ≡ front ++ (e ∷ t)
  pub whole : under (Some e.0) l ++ (e ∷ t) ≡ l
  pub shorter : length (under (Some e.0) l) < length (under b l)

pub cut : (b : Option MAction) (e : MCell) (l t : List MCell) → Ascending l → under b l ++ t ≡ l → last (under b l) ≡ Some e → Cut b e l t
cut b e l t s w q =
    let r = last_split (under b l) e q in
    let p : l ≡ r.0 ++ (e ∷ t) = sym w ∙ (ap (λ (k : List MCell). k ++ t) r.1 ∙ append_assoc r.0 (e ∷ []) t) in
    let u : under (Some e.0) l ≡ r.0 = ap (under (Some e.0)) p ∙ under_middle r.0 e t (subst Ascending p s) in
    record {
      front = r.0;
      parts = p;
      whole = ap (λ (k : List MCell). k ++ (e ∷ t)) u ∙ sym p;
      shorter = omega (arith, ap length u, ap length r.1, length-append r.0 (e ∷ []));
    }

pub none_left : (b : Option MAction) (l t : List MCell) → under b l ++ t ≡ l → last (under b l) ≡ None → t ≡ l
none_left b l t w q = go (under b l) w q
  where
    go : (k : List MCell) → k ++ t ≡ l → last k ≡ None → t ≡ l
    go [] w q = w
    go (c ∷ k) w q = cc
