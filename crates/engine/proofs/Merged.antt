-- Lists merged, by their heads.
use Rattle.std.proofs.Common.{◌≡◌, ℕ, List, [], ◌∷◌, length, Some, None, Option, sym, refl, ap, ◌∙◌, subst, inl, inr, arith, ◌<◌}
use Rattle.format.specs.Actions.{ActionBelow}
use Rattle.weights.specs.Weights.{Ops}
use Rattle.meaning.specs.Decide.{three, Tri, below, level, above, order_actions, Before}
use Rattle.meaning.specs.Leaves.{Action as MAction, Cell as MCell}
use Rattle.meaning.proofs.Gathering.{before_trans, before_self, before_differ}
use Rattle.actions.specs.declared.actions.Action.{Action}
use Rattle.engine.specs.declared.merging.Selection.{Selection}
use Rattle.engine.specs.declared.merging.CellList.{CellList}
use Rattle.engine.specs.declared.merging.FirstCell.{FirstCell}
use Rattle.engine.specs.State.{State}
use Rattle.engine.specs.Leaves.{LeafPresent, leaf_at}
use Rattle.engine.specs.Cells.{CellRead, action_at}
use Rattle.records.specs.declared.kinds.Cell.{Cell}
use Rattle.engine.specs.Merging.{shown_action, put_first, sift, strand, merge, sets_of, FirstCellRead, FirstCellIs, MergeStepRead}

pub below_before : (a b : MAction) → ActionBelow a b → Before a b
below_before [] b h = absurd h
below_before (x ∷ a) [] h = absurd h
below_before (x ∷ a) (y ∷ b) (inl h) = inl h
below_before (x ∷ a) (y ∷ b) (inr h) = inr (h.0, below_before a b h.1)

module _ {X : Type 0} (a b : MAction) (x y z : X) where
  pub three_below : Before a b → three (order_actions a b) x y z ≡ x
  three_below h = go (order_actions a b)
    where
      go : (t : Tri (Before a b) (a ≡ b) (Before b a)) → three t x y z ≡ x
      go (below p) = refl
      go (level e) = absurd (before_differ a b h e)
      go (above p) = absurd (before_self a (before_trans a b a h p))

  pub three_level : a ≡ b → three (order_actions a b) x y z ≡ y
  three_level e = go (order_actions a b)
    where
      go : (t : Tri (Before a b) (a ≡ b) (Before b a)) → three t x y z ≡ y
      go (below p) = absurd (before_differ a b p e)
      go (level e) = refl
      go (above p) = absurd (before_differ b a p (sym e))

  pub three_above : Before b a → three (order_actions a b) x y z ≡ z
  three_above h = go (order_actions a b)
    where
      go : (t : Tri (Before a b) (a ≡ b) (Before b a)) → three t x y z ≡ z
      go (below p) = absurd (before_self a (before_trans a b a p h))
      go (level e) = absurd (before_differ b a h (sym e))
      go (above p) = refl

module _ (o : Ops) (x y : List MCell) where
  pub merge_none : x ≡ [] → y ≡ [] → merge o x y ≡ []
  unfolding merge
  merge_none e f = λ i. merge o (e i) (f i)

  pub merge_left : (c : MCell) (l : List MCell) → x ≡ c ∷ l → y ≡ [] → merge o x y ≡ c ∷ merge o l y
  unfolding merge
  merge_left c l e f = (λ i. merge o (e i) (f i)) ∙ ap {B = List MCell} (λ k. c ∷ merge o l k) (sym f)

  pub merge_right : (c : MCell) (m : List MCell) → x ≡ [] → y ≡ c ∷ m → merge o x y ≡ c ∷ merge o x m
  unfolding merge
  merge_right c m e f = (λ i. merge o (e i) (f i)) ∙ ap {B = List MCell} (λ k. c ∷ merge o k m) (sym e)

  module _ (c d : MCell) (l m : List MCell) (e : x ≡ c ∷ l) (f : y ≡ d ∷ m) where
    pub merge_less : Before c.0 d.0 → merge o x y ≡ c ∷ merge o l y
    unfolding merge
    merge_less h = (λ i. merge o (e i) (f i)) ∙ (three_below c.0 d.0 _ _ _ h ∙ ap {B = List MCell} (λ k. c ∷ merge o l k) (sym f))

    pub merge_equal : c.0 ≡ d.0 → merge o x y ≡ (c.0, o.join c.1 d.1) ∷ merge o l m
    unfolding merge
    merge_equal h = (λ i. merge o (e i) (f i)) ∙ three_level c.0 d.0 _ _ _ h

    pub merge_greater : Before d.0 c.0 → merge o x y ≡ d ∷ merge o x m
    unfolding merge
    merge_greater h = (λ i. merge o (e i) (f i)) ∙ (three_above c.0 d.0 _ _ _ h ∙ ap {B = List MCell} (λ k. d ∷ merge o k m) (sym e))

-- the cell under a number, as a view shows it
module _ {s : State} {n : ℕ} {x : Cell} (v : Selection) (r : CellRead s n x) (a : Action) (e : a.sets ≡ action_at s x.action.number) (t : Option Action) (f : sets_of t ≡ shown_action v a.sets) where
  sifted : sift v (leaf_at s n) ≡ put_first x.weight.number (sets_of t) (sift v (leaf_at s x.rest.number))
  unfolding sift
  sifted =
      ap (sift v) r.itself ∙ ap (λ (b : Option MAction). put_first x.weight.number b (sift v (leaf_at s x.rest.number))) (sym (f ∙ ap (shown_action v) e))

  pub sift_shows : (b : Action) → t ≡ Some b → sift v (leaf_at s n) ≡ (b.sets, x.weight.number) ∷ sift v (leaf_at s x.rest.number)
  sift_shows b k = sifted ∙ ap (λ (u : Option Action). put_first x.weight.number (sets_of u) (sift v (leaf_at s x.rest.number))) k

  pub sift_hides : t ≡ None → sift v (leaf_at s n) ≡ sift v (leaf_at s x.rest.number)
  sift_hides k = sifted ∙ ap (λ (u : Option Action). put_first x.weight.number (sets_of u) (sift v (leaf_at s x.rest.number))) k

pub read_shorter : {s : State} {n : ℕ} {x : Cell} → CellRead s n x → length (leaf_at s x.rest.number) < length (leaf_at s n)
read_shorter r = omega (arith, ap length r.itself)

pub sift_end : (s : State) (v : Selection) (n : ℕ) → n ≡ 0 → sift v (leaf_at s n) ≡ []
unfolding sift
sift_end s v n e = ap (λ (k : ℕ). sift v (leaf_at s k)) e

-- what the two first cells give
module _ {o : Ops} {s : State} {x y : CellList} where
  pub turn_left : {t : FirstCell} → LeafPresent s y.first.number → FirstCellRead s x t → strand s y ≡ [] → MergeStepRead o s x y (record { action = t.action; weight = t.weight; left = t.rest; right = y })
  turn_left p t e =
      record { whole = merge_left o _ _ _ _ t.whole e; left_present = t.rest_present; right_present = p; shorter = omega (arith, ap length t.whole) }

  pub turn_right : {t : FirstCell} → LeafPresent s x.first.number → strand s x ≡ [] → FirstCellRead s y t → MergeStepRead o s x y (record { action = t.action; weight = t.weight; left = x; right = t.rest })
  turn_right p e t =
      record { whole = merge_right o _ _ _ _ e t.whole; left_present = p; right_present = t.rest_present; shorter = omega (arith, ap length t.whole) }

  pub turn_less :
      {t u : FirstCell} →
      LeafPresent s y.first.number →
      FirstCellRead s x t →
      FirstCellRead s y u →
      ActionBelow t.action.sets u.action.sets →
      MergeStepRead o s x y (record { action = t.action; weight = t.weight; left = t.rest; right = y })
  turn_less {t} {u} p T U h =
      record { whole = merge_less o _ _ _ _ _ _ T.whole U.whole (below_before _ _ h); left_present = T.rest_present; right_present = p; shorter = omega (arith, ap length T.whole) }

  pub turn_equal :
      {t u : FirstCell} {w : ℕ} →
      FirstCellRead s x t →
      FirstCellRead s y u →
      t.action ≡ u.action →
      w ≡ o.join t.weight u.weight →
      MergeStepRead o s x y (record { action = t.action; weight = w; left = t.rest; right = u.rest })
  turn_equal {t} {u} {w} T U h e =
      record {
        whole = merge_equal o _ _ _ _ _ _ T.whole U.whole (ap (λ (a : Action). a.sets) h) ∙ ap {B = List MCell} (λ (v : ℕ). (t.action.sets, v) ∷ merge o (strand s t.rest) (strand s u.rest)) (sym e);
        left_present = T.rest_present;
        right_present = U.rest_present;
        shorter = omega (arith, ap length T.whole, ap length U.whole);
      }

  pub turn_greater :
      {t u : FirstCell} →
      LeafPresent s x.first.number →
      FirstCellRead s x t →
      FirstCellRead s y u →
      ActionBelow u.action.sets t.action.sets →
      MergeStepRead o s x y (record { action = u.action; weight = u.weight; left = x; right = u.rest })
  turn_greater {t} {u} p T U h =
      record { whole = merge_greater o _ _ _ _ _ _ T.whole U.whole (below_before _ _ h); left_present = p; right_present = U.rest_present; shorter = omega (arith, ap length U.whole) }

pub steps_some : {s : State} {x : CellList} {r : Option FirstCell} {t : FirstCell} → r ≡ Some t → FirstCellIs s x r → FirstCellRead s x t
steps_some {s} {x} e h = subst (FirstCellIs s x) e h

pub steps_none : (s : State) (x : CellList) {r : Option FirstCell} → r ≡ None → FirstCellIs s x r → strand s x ≡ []
steps_none s x e h = subst (FirstCellIs s x) e h
