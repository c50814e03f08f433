-- Collected lists are merged ones.
use Rattle.std.proofs.Common.{zero, suc, cond, eqb, true, false, ◌≡◌, ℕ, ◌≢◌, List, [], ◌∷◌, ◌++◌, get_or, Some, None, Option, sym, refl, ap, ◌∙◌, subst, inl, inr, ◌⊎◌, arith}
use Rattle.std.proofs.lemmas.Bool.{eq-eqb}
use Rattle.std.proofs.lemmas.Bool.Decides.{eqb_tells}
use Rattle.format.specs.Actions.{SetBelow, narrow_action, unless}
use Rattle.format.specs.declared.settings.Setting.{Setting}
use Rattle.weights.specs.Weights.{Ops}
use Rattle.meaning.specs.Decide.{choice, decide, three, Tri, below, level, above, order_actions, Before, equal_sets}
use Rattle.meaning.specs.Leaves.{Action as MAction, Cell as MCell, Each, Ascending, put, collect}
use Rattle.meaning.proofs.Gathering.{before_trans, choice_no, each_map}
use Rattle.requests.specs.Rules.{narrow_leaf}
use Rattle.engine.specs.declared.merging.Selection.TheVariants.{All, Unchanged, Changed}
use Rattle.engine.specs.Merging.{put_first, sift, join_in, merge}
use Rattle.engine.proofs.Merged.{three_below, three_level, three_above}

abbrev pub After : MAction → List MCell → Type 0
After a l = Each (λ e. Before a e.0) l

abbrev pub NoZeros : Ops → List MCell → Type 0
NoZeros o l = Each (λ e. e.1 ≢ o.zero) l

module _ (o : Ops) where
  -- a cell before all of a list comes first
  pub put_before : (a : MAction) (w : ℕ) (l : List MCell) → After a l → put o a w l ≡ (a, w) ∷ l
  put_before a w [] h = refl
  put_before a w (c ∷ l) h = three_below a c.0 _ _ _ h.0

  -- a cell before all of the first list
  pub merge_later : (c : MCell) (l m : List MCell) → After c.0 l → merge o l (c ∷ m) ≡ c ∷ merge o l m
  unfolding merge
  merge_later c [] m h = refl
  merge_later c (d ∷ l) m h = three_above d.0 c.0 _ _ _ h.0

  pub merge_empty : (l : List MCell) → merge o l [] ≡ l
  unfolding merge
  merge_empty [] = refl
  merge_empty (c ∷ l) = ap {B = List MCell} (λ k. c ∷ k) (merge_empty l)

  -- what holds of the actions of both
  module _ (P : MAction → Type 0) where
    each_join_in : (c : MCell) (k : List MCell → List MCell) → P c.0 → ((m : List MCell) → Each (λ e. P e.0) m → Each (λ e. P e.0) (k m)) → (m : List MCell) → Each (λ e. P e.0) m → Each (λ e. P e.0) (join_in o c k m)
    each_join_in c k p f [] h = (p, f [] tt)
    each_join_in c k p f (e ∷ m) h = go (order_actions c.0 e.0) (each_join_in c k p f m h.1)
      where
        go : (t : Tri (Before c.0 e.0) (c.0 ≡ e.0) (Before e.0 c.0)) → Each (λ e. P e.0) (join_in o c k m) → Each (λ e. P e.0) (three t (c ∷ k (e ∷ m)) ((c.0, o.join c.1 e.1) ∷ k m) (e ∷ join_in o c k m))
        go (below q) ih = (p, f (e ∷ m) h)
        go (level q) ih = (p, f m h.1)
        go (above q) ih = (h.0, ih)

    pub each_merge : (l m : List MCell) → Each (λ e. P e.0) l → Each (λ e. P e.0) m → Each (λ e. P e.0) (merge o l m)
    unfolding merge
    each_merge [] m h k = k
    each_merge (c ∷ l) m h k = each_join_in c (merge o l) h.0 (λ x i. each_merge l x h.1 i) m k

  -- a cell before all of the first list is put into both as one
  pub put_merge : (c : MCell) (l m : List MCell) → After c.0 l → Ascending m → put o c.0 c.1 (merge o l m) ≡ merge o (c ∷ l) m
  unfolding merge
  put_merge c l [] h s = ap (put o c.0 c.1) (merge_empty l) ∙ (put_before c.0 c.1 l h ∙ ap {B = List MCell} (λ k. c ∷ k) (sym (merge_empty l)))
  put_merge c l (e ∷ m) h s = go (order_actions c.0 e.0) (put_merge c l m h s.1)
    where
      past : (a : MAction) (k : List MCell) → (a ≡ c.0) ⊎ Before a c.0 → After c.0 k → After a k
      past a k (inl q) r = subst (λ (b : MAction). After b k) (sym q) r
      past a k (inr q) r = each_map (λ x p. before_trans a c.0 x.0 q p) k r

      go :
          (t : Tri (Before c.0 e.0) (c.0 ≡ e.0) (Before e.0 c.0)) →
          put o c.0 c.1 (merge o l m) ≡ merge o (c ∷ l) m →
          put o c.0 c.1 (merge o l (e ∷ m)) ≡ three t (c ∷ merge o l (e ∷ m)) ((c.0, o.join c.1 e.1) ∷ merge o l m) (e ∷ join_in o c (merge o l) m)
      go (below p) ih = put_before c.0 c.1 (merge o l (e ∷ m)) (each_merge (λ b. Before c.0 b) l (e ∷ m) h (p, each_map (λ x q. before_trans c.0 e.0 x.0 p q) m s.0))
      go (level q) ih =
          ap (put o c.0 c.1) (merge_later e l m (past e.0 l (inl (sym q)) h)) ∙ three_level c.0 e.0 _ _ _ q
      go (above p) ih =
          ap (put o c.0 c.1) (merge_later e l m (past e.0 l (inr p) h)) ∙ (three_above c.0 e.0 _ _ _ p ∙ ap {B = List MCell} (λ k. e ∷ k) ih)

  -- an ascending list with no zeros stays
  pub collect_stays : (m : List MCell) → Ascending m → NoZeros o m → collect o m ≡ m
  collect_stays [] s h = refl
  collect_stays (c ∷ m) s h =
      choice_no (decide c.1 o.zero) (collect o m) (put o c.0 c.1 (collect o m)) h.0
      ∙ (ap (put o c.0 c.1) (collect_stays m s.1 h.1) ∙ put_before c.0 c.1 m s.0)

  pub collect_merge : (l m : List MCell) → Ascending l → NoZeros o l → Ascending m → NoZeros o m → collect o (l ++ m) ≡ merge o l m
  unfolding merge
  collect_merge [] m s h t k = collect_stays m t k
  collect_merge (c ∷ l) m s h t k =
      choice_no (decide c.1 o.zero) (collect o (l ++ m)) (put o c.0 c.1 (collect o (l ++ m))) h.0
      ∙ (ap (put o c.0 c.1) (collect_merge l m s.1 h.1 t k) ∙ put_merge c l m s.0 t)

pub sift_whole : (l : List MCell) → sift All l ≡ l
unfolding sift
sift_whole [] = refl
sift_whole (c ∷ l) = ap {B = List MCell} (λ k. c ∷ k) (sift_whole l)

none_some : {A : Type 0} (n : ℕ) → None ≡ Some n → A
none_some n e = cc

unless_same : (n : ℕ) → unless n (Some n) ≡ None
unless_same n = ap (λ b. cond b None (Some n)) (eq-eqb n n refl)

unless_other : (n : ℕ) (x : Option ℕ) → x ≢ Some n → unless n x ≡ x
unless_other n None h = refl
unless_other n (Some m) h = go (eqb_tells m n)
  where
    go : ((eqb m n ≡ true) × (m ≡ n)) ⊎ ((eqb m n ≡ false) × (m ≢ n)) → cond (eqb m n) None (Some m) ≡ Some m
    go (inl p) = absurd (h (ap Some p.1))
    go (inr p) = ap (λ b. cond b None (Some m)) p.0

set_below_self : (n : ℕ) → SetBelow (Some n) (Some n) → ⊥
set_below_self n p = omega arith

-- an action that changes comes before itself, and two that change stay in order
lowered : (a : MAction) (f n : ℕ) → get_or a f None ≡ Some n → Before (narrow_action a f n) a
lowered [] f n e = none_some n e
lowered (x ∷ a) zero n e = inl (subst (λ u. SetBelow u x) (sym (ap (unless n) e ∙ unless_same n)) (subst (λ u. SetBelow None u) (sym e) tt))
lowered (x ∷ a) (suc f) n e = inr (refl, lowered a f n e)

lowered_both : (a b : MAction) (f n : ℕ) → get_or a f None ≡ Some n → get_or b f None ≡ Some n → Before a b → Before (narrow_action a f n) (narrow_action b f n)
lowered_both [] b f n e k p = none_some n e
lowered_both (x ∷ a) [] f n e k p = none_some n k
lowered_both (x ∷ a) (y ∷ b) zero n e k (inl l) = absurd (set_below_self n (subst (λ u. SetBelow u (Some n)) e (subst (λ u. SetBelow x u) k l)))
lowered_both (x ∷ a) (y ∷ b) zero n e k (inr q) = inr (ap (unless n) q.0, q.1)
lowered_both (x ∷ a) (y ∷ b) (suc f) n e k (inl l) = inl l
lowered_both (x ∷ a) (y ∷ b) (suc f) n e k (inr q) = inr (q.0, lowered_both a b f n e k q.1)

unchanged : (a : MAction) (f n : ℕ) → get_or a f None ≢ Some n → narrow_action a f n ≡ a
unchanged [] f n h = refl
unchanged (x ∷ a) zero n h = ap {B = MAction} (λ u. u ∷ a) (unless_other n x h)
unchanged (x ∷ a) (suc f) n h = ap {B = MAction} (λ b. x ∷ b) (unchanged a f n h)

-- the two strands of a leaf that is narrowed
module _ (t : Setting) where
  abbrev sets : (a : MAction) → Dec (get_or a t.field None ≡ Some t.value)
  sets a = equal_sets (get_or a t.field None) (Some t.value)

  abbrev narrowed : MAction → MAction
  narrowed a = narrow_action a t.field t.value

  kept_after : (b : MAction) (l : List MCell) → After b l → After b (sift (Unchanged t) l)
  unfolding sift
  kept_after b [] h = tt
  kept_after b (c ∷ l) h = go (sets c.0) (kept_after b l h.1)
    where
      go : (d : Dec (get_or c.0 t.field None ≡ Some t.value)) → After b (sift (Unchanged t) l) → After b (put_first c.1 (choice d None (Some c.0)) (sift (Unchanged t) l))
      go (yes e) ih = ih
      go (no k) ih = (h.0, ih)

  changed_after : (b : MAction) → get_or b t.field None ≡ Some t.value → (l : List MCell) → After b l → After (narrowed b) (sift (Changed t) l)
  unfolding sift
  changed_after b q [] h = tt
  changed_after b q (c ∷ l) h = go (sets c.0) (changed_after b q l h.1)
    where
      go : (d : Dec (get_or c.0 t.field None ≡ Some t.value)) → After (narrowed b) (sift (Changed t) l) → After (narrowed b) (put_first c.1 (choice d (Some (narrowed c.0)) None) (sift (Changed t) l))
      go (yes e) ih = (lowered_both b c.0 t.field t.value q e h.0, ih)
      go (no k) ih = ih

  changed_ascending : (l : List MCell) → Ascending l → Ascending (sift (Changed t) l)
  unfolding sift
  changed_ascending [] s = tt
  changed_ascending (c ∷ l) s = go (sets c.0) (changed_ascending l s.1)
    where
      go : (d : Dec (get_or c.0 t.field None ≡ Some t.value)) → Ascending (sift (Changed t) l) → Ascending (put_first c.1 (choice d (Some (narrowed c.0)) None) (sift (Changed t) l))
      go (yes e) ih = (changed_after c.0 e l s.0, ih)
      go (no k) ih = ih

  pub narrow_merge : (o : Ops) (l : List MCell) → Ascending l → NoZeros o l → narrow_leaf o l t.field t.value ≡ merge o (sift (Unchanged t) l) (sift (Changed t) l)
  unfolding sift
  narrow_merge o [] s h = sym (merge_empty o [])
  narrow_merge o (c ∷ l) s h =
      choice_no (decide c.1 o.zero) _ _ h.0
      ∙ (ap (put o (narrowed c.0) c.1) (narrow_merge o l s.1 h.1) ∙ go (sets c.0))
    where
      K : List MCell
      K = sift (Unchanged t) l

      C : List MCell
      C = sift (Changed t) l

      go :
          (d : Dec (get_or c.0 t.field None ≡ Some t.value)) →
          put o (narrowed c.0) c.1 (merge o (sift (Unchanged t) l) (sift (Changed t) l)) ≡ merge o (put_first c.1 (choice d None (Some c.0)) (sift (Unchanged t) l)) (put_first c.1 (choice d (Some (narrowed c.0)) None) (sift (Changed t) l))
      go (yes e) =
          let p = lowered c.0 t.field t.value e in
          let k : After (narrowed c.0) (sift (Unchanged t) l) = kept_after (narrowed c.0) l (each_map (λ x q. before_trans (narrowed c.0) c.0 x.0 p q) l s.0) in
          put_before o (narrowed c.0) c.1 _ (each_merge o (λ b. Before (narrowed c.0) b) (sift (Unchanged t) l) (sift (Changed t) l) k (changed_after c.0 e l s.0))
          ∙ sym (merge_later o (narrowed c.0, c.1) (sift (Unchanged t) l) (sift (Changed t) l) k)
      go (no k) =
          ap (λ (a : MAction). put o a c.1 (merge o (sift (Unchanged t) l) (sift (Changed t) l))) (unchanged c.0 t.field t.value k)
          ∙ put_merge o c (sift (Unchanged t) l) (sift (Changed t) l) (kept_after c.0 l s.0) (changed_ascending l s.1)
