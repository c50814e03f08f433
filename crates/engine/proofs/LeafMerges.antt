-- Leaves joined and narrowed by merging.
use Rattle.std.proofs.Common.{◌≢◌, get_or, ◌≡◌, ℕ, zero, suc, true≢false, List, [], ◌∷◌, ◌++◌, Some, None, Option, Result, sym, refl, ap, ap₂, ◌∙◌, subst, subst₂, arith}
use Rattle.weights.specs.Weights.{Ops, Laws, Weight}
use Rattle.meaning.specs.Leaves.{Action as MAction, Cell as MCell, Each, ActionFormed, LeafFormed, collect}
use Rattle.meaning.specs.Diagrams.{Diagram as MDiagram, Leaf as MLeaf, Node as MNode, Formed, known}
use Rattle.meaning.specs.Constructions.{root, first_root}
use Rattle.meaning.proofs.Gathering.{each_map, each_append, choice_yes, choice_no}
use Rattle.meaning.specs.Decide.{decide}
use Rattle.format.specs.Actions.{LegalSet}
use Rattle.actions.specs.declared.actions.Action.{Action}
use Rattle.meaning.proofs.Making.{collect_formed, formed_narrows}
use Rattle.format.specs.declared.settings.Amount.{Amount}
use Rattle.format.specs.declared.settings.Setting.{Setting}
use Rattle.faults.specs.declared.layers.StoreFault.{StoreFault}
use Rattle.records.specs.declared.kinds.Diagram.{Diagram}
use Rattle.records.specs.declared.kinds.Diagram.TheVariants.{Leaf, Branch}
use Rattle.stores.specs.Numbers.{Numbered}
use Rattle.counts.specs.declared.counts.Counts.{Counts}
use Rattle.engine.specs.declared.memory.Stores.{Stores}
use Rattle.engine.specs.Contents.{contents}
use Rattle.requests.specs.Requests.{Request, leaf_records}
use Rattle.requests.specs.Rules.{one_cell, narrow_leaf, Joins, joins_leaves}
use Rattle.requests.specs.Claims.{Construction}
use Rattle.requests.proofs.Acting.{narrow_of_leaf}
use Rattle.engine.specs.declared.merging.Selection.TheVariants.{All, Unchanged, Changed}
use Rattle.engine.specs.State.{State, state, diagram_of, Present}
use Rattle.engine.specs.Done.{SoundStores, Done}
use Rattle.engine.specs.Leaves.{LeafPresent, leaf_at, LeafNarrows}
use Rattle.engine.specs.Cells.{PutOn, LeafOf, LeavesFormed, number_of}
use Rattle.engine.specs.Merging.{sift, merge}
use Rattle.engine.proofs.Numbers.{numbered_any, numbered_value}
use Rattle.engine.proofs.Decoding.{node_whole}
use Rattle.engine.proofs.Collected.{collect_merge, narrow_merge, sift_whole, NoZeros}
use Rattle.engine.proofs.LeafRules.{here, redone}

pub leaf_formed_at : {o : Ops} (s : State) → LeavesFormed o s → (n : ℕ) → LeafPresent s n → LeafFormed o (leaf_at s n)
leaf_formed_at s h zero p = record { cells = tt; ascending = tt }
leaf_formed_at {o} s h (suc n) p =
    let r = numbered_any s.leaves (suc n) (omega arith) p in
    subst (LeafFormed o) (sym (numbered_value [] s.leaves (suc n) r.0 r.1)) (h (suc n) r.0 r.1)

no_zeros : {o : Ops} (l : List MCell) → LeafFormed o l → NoZeros o l
no_zeros l h = each_map (λ c k. k.not_zero) l h.cells

weighed : {o : Ops} (l : List MCell) → LeafFormed o l → Each (λ c. ActionFormed c.0 × Weight o c.1) l
weighed l h = each_map (λ c k. (k.action, k.weight)) l h.cells

-- two leaves as one
module _ {o : Ops} (L : Laws o) (l m : List MCell) (h : LeafFormed o l) (k : LeafFormed o m) where
  joined : collect o (l ++ m) ≡ merge o (sift All l) (sift All m)
  joined = collect_merge o l m h.ascending (no_zeros l h) k.ascending (no_zeros m k) ∙ sym (ap₂ (merge o) (sift_whole l) (sift_whole m))

  pub joined_formed : LeafFormed o (merge o (sift All l) (sift All m))
  joined_formed = subst (LeafFormed o) joined (collect_formed L (l ++ m) (each_append (λ c. ActionFormed c.0 × Weight o c.1) l m (weighed l h) (weighed m k)))

  pub joined_done :
      {d e : MDiagram} {c c' : Counts} {s s' : Stores} {result : Result Diagram StoreFault} →
      d ≡ MLeaf l →
      e ≡ MLeaf m →
      Done (LeafOf (merge o (sift All l) (sift All m))) c s c' s' result →
      Done (Joins o d e) c s c' s' result
  joined_done {d} {e} p q x =
      redone x (λ r a i.
      subst₂ (λ (u v : MDiagram). Joins o u v r a) (sym p) (sym q)
      (subst₂ (λ (t : MDiagram) (b : List Request). Joins o (MLeaf l) (MLeaf m) t b) (sym (i.0 ∙ ap {B = MDiagram} MLeaf (sym joined))) (sym (i.1 ∙ ap leaf_records (sym joined))) joins_leaves))

-- a leaf where a field holds a value
module _ {o : Ops} (L : Laws o) (l : List MCell) (h : LeafFormed o l) (t : Setting) where
  narrowed : narrow_leaf o l t.field t.value ≡ merge o (sift (Unchanged t) l) (sift (Changed t) l)
  narrowed = narrow_merge t o l h.ascending (no_zeros l h)

  pub narrowed_formed : LeafFormed o (merge o (sift (Unchanged t) l) (sift (Changed t) l))
  narrowed_formed = subst (LeafFormed o) narrowed (subst (Formed o) (narrow_of_leaf o l t.field t.value) (formed_narrows L (MLeaf l) (known t.field t.value) h))

  pub narrowed_done :
      {c c' : Counts} {s s' : Stores} {result : Result Diagram StoreFault} →
      Done (LeafOf (merge o (sift (Unchanged t) l) (sift (Changed t) l))) c s c' s' result →
      Done (LeafNarrows o l t.field t.value) c s c' s' result
  narrowed_done x = redone x (λ r a i. (i.0 ∙ ap {B = MDiagram} MLeaf (sym narrowed), i.1 ∙ ap leaf_records (sym narrowed)))

-- a diagram without a root test is a leaf
none_some : {A X : Type 0} (x : X) → Some x ≡ None → A
none_some x e = cc

not_node : (c : Counts) (s : Stores) → SoundStores c s → (n : ℕ) (d : MDiagram) → Numbered (here c s).nodes n d → root d ≡ None → ⊥
unfolding state
not_node c s g n (MLeaf l) e q = true≢false (node_whole (contents c s) g.sound n (MLeaf l) e)
not_node c s g n (MNode f m y z) e q = none_some (f, m) q

pub leaf_only :
    (c : Counts) (s : Stores) → SoundStores c s → (w : Diagram) → Present (here c s) w → root (diagram_of (here c s) w) ≡ None →
    LeafPresent (here c s) (number_of w).number × (diagram_of (here c s) w ≡ MLeaf (leaf_at (here c s) (number_of w).number))
unfolding diagram_of
leaf_only c s g (Leaf n) p e = (p, refl)
leaf_only c s g (Branch n) p e =
    let r = numbered_any (here c s).nodes n.number p.0 p.1 in
    absurd (not_node c s g n.number r.0 r.1 (ap root (sym (numbered_value (MLeaf []) (here c s).nodes n.number r.0 r.1)) ∙ e))

pub leaf_word_only :
    {c : Counts} {s : Stores} (w : Diagram) (n : Amount) → n ≡ number_of w → SoundStores c s → Present (here c s) w → root (diagram_of (here c s) w) ≡ None →
    LeafPresent (here c s) n.number × (diagram_of (here c s) w ≡ MLeaf (leaf_at (here c s) n.number))
leaf_word_only {c} {s} w n e g p h =
    subst (λ (m : Amount). LeafPresent (here c s) m.number × (diagram_of (here c s) w ≡ MLeaf (leaf_at (here c s) m.number))) (sym e) (leaf_only c s g w p h)

pub neither : (t u : Option (ℕ × ℕ)) → first_root t u ≡ None → (t ≡ None) × (u ≡ None)
neither None u e = (refl, e)
neither (Some t) u e = none_some _ e

pub along : {Q : Construction} {c c' : Counts} {s s' : Stores} {r t : Result Diagram StoreFault} → r ≡ t → Done Q c s c' s' t → Done Q c s c' s' r
along {Q} {c} {c'} {s} {s'} e d = subst (λ (t : Result Diagram StoreFault). Done Q c s c' s' t) (sym e) d

pub action_formed : (x : Action) → ActionFormed x.sets
action_formed x = record { all_fields = x.whole; legal = λ f h. go f (get_or x.sets f None) refl }
  where
    go : (f : ℕ) (u : Option ℕ) → get_or x.sets f None ≡ u → LegalSet f u
    go f None e = tt
    go f (Some n) e = x.legal f n e

-- one cell
module _ (o : Ops) (a : MAction) {w : ℕ} where
  pub no_cell : w ≡ o.zero → one_cell o a w ≡ []
  no_cell e = choice_yes (decide w o.zero) [] ((a, w) ∷ []) e

  pub single_formed : ActionFormed a → Weight o w → w ≢ o.zero → LeafFormed o ((a, w) ∷ [])
  single_formed h k n = record { cells = (record { action = h; weight = k; not_zero = n }, tt); ascending = (tt, tt) }

  pub single_done :
      {c c' : Counts} {s s' : Stores} {result : Result Diagram StoreFault} →
      w ≢ o.zero →
      Done (PutOn a w []) c s c' s' result →
      Done (LeafOf (one_cell o a w)) c s c' s' result
  single_done n d = redone d (λ r x i. (i.0 ∙ ap {B = MDiagram} MLeaf (sym whole), i.1 ∙ ap leaf_records (sym whole)))
    where
      whole : one_cell o a w ≡ (a, w) ∷ []
      whole = choice_no (decide w o.zero) [] ((a, w) ∷ []) n
