-- Words and what they stand for.
use Rattle.std.proofs.Common.{◌≡◌, ℕ, zero, suc, ◌+◌, ◌<◌, ◌≤◌, Bool, true, false, true≢false, List, [], ◌∷◌, ◌++◌, length, sym, refl, ap, ap₂, ◌∙◌, subst, arith}
use Rattle.std.proofs.lemmas.Bool.Decides.{Decides-eqb}
use Rattle.meaning.specs.Leaves.{Cell as MCell}
use Rattle.meaning.specs.Diagrams.{Diagram as MDiagram, Leaf as MLeaf, Node as MNode}
use Rattle.format.specs.declared.settings.Amount.{Amount}
use Rattle.records.specs.declared.kinds.Node.{Node}
use Rattle.records.specs.declared.kinds.Diagram.{Diagram}
use Rattle.records.specs.declared.kinds.Diagram.TheVariants.{Leaf, Branch}
use Rattle.records.proofs.Alike.{amounts_told}
use Rattle.stores.specs.Numbers.{Numbered, Distinct}
use Rattle.counts.specs.declared.counts.Counts.{Counts}
use Rattle.engine.specs.declared.memory.Stores.{Stores}
use Rattle.engine.specs.Contents.{Contents, contents}
use Rattle.engine.specs.Built.{numbered_or}
use Rattle.engine.specs.State.{state, diagram_of, side_of, node_of, leaf_of, actions_in, leaves_in, nodes_in, Present, Names, Sound, NodeNamesEarlier, WordNamesEarlier}
use Rattle.engine.specs.Done.{SoundStores}
use Rattle.engine.proofs.Numbers.{or_grown, numbered_bound, numbered_any, numbered_value}
use Rattle.engine.proofs.Building.{build_at, build_length, at_middle, only_one, each_in_at}

pub same_amount : (a b : Amount) → a.number ≡ b.number → a ≡ b
same_amount a b e = (amounts_told a b).0 ((Decides-eqb a.number b.number).1 e)

-- the parts of a diagram
abbrev is_leaf : MDiagram → Bool
is_leaf (MLeaf l) = true
is_leaf (MNode f n y z) = false

abbrev cells_of : MDiagram → List MCell
cells_of (MLeaf l) = l
cells_of (MNode f n y z) = []

abbrev is_empty : {X : Type 0} → List X → Bool
is_empty [] = true
is_empty (x ∷ l) = false

place : (n : ℕ) → 0 < n → (i : ℕ) × (n ≡ suc i)
place zero h = absurd (omega arith)
place (suc i) h = (i, refl)

module _ (c : Contents) (h : Sound c) where
  abbrev Ls : List (List MCell)
  Ls = leaves_in (actions_in c.actions) c.cells

  abbrev Ns : List MDiagram
  Ns = nodes_in Ls c.nodes

  side_stays : (before rest : List MDiagram) (k : ℕ) (w : Diagram) → WordNamesEarlier k (length before) w → side_of Ls (before ++ rest) w ≡ side_of Ls before w
  side_stays before rest k (Leaf n) p = refl
  side_stays before rest k (Branch n) p = or_grown (MLeaf []) before rest n.number p.1

  -- a node stands for its test over what its sides stand for
  pub node_read : (n : ℕ) (x : Node) → Numbered c.nodes n x → Numbered Ns n (node_of Ls Ns x)
  node_read zero x e = cc
  node_read (suc i) x e =
      let b = build_at (node_of Ls) [] c.nodes i x e in
      let good : NodeNamesEarlier (length c.cells) (0 + i) x = each_in_at (NodeNamesEarlier (length c.cells)) 0 c.nodes i x h.nodes_name_earlier e in
      let long : 0 + i ≡ length b.0 = omega (arith, b.2) in
      let good' = subst (λ (k : ℕ). NodeNamesEarlier (length c.cells) k x) long good in
      let there : Numbered (b.0 ++ (node_of Ls b.0 x ∷ b.1)) (suc i) (node_of Ls b.0 x) = at_middle b.0 (node_of Ls b.0 x) b.1 (suc i) (omega (arith, b.2)) in
      let yes = side_stays b.0 (node_of Ls b.0 x ∷ b.1) (length c.cells) x.yes good'.0 in
      let no = side_stays b.0 (node_of Ls b.0 x ∷ b.1) (length c.cells) x.no good'.1 in
      let same : node_of Ls b.0 x ≡ node_of Ls Ns x =
      ap₂ {C = MDiagram} (λ (y z : MDiagram). MNode x.test.field x.test.value y z)
      (sym (ap (λ (l : List MDiagram). side_of Ls l x.yes) b.3 ∙ yes))
      (sym (ap (λ (l : List MDiagram). side_of Ls l x.no) b.3 ∙ no)) in
      subst (λ (d : MDiagram). Numbered Ns (suc i) d) same (subst (λ (l : List MDiagram). Numbered l (suc i) (node_of Ls b.0 x)) (sym b.3) there)

  pub nodes_long : length Ns ≡ length c.nodes
  nodes_long = build_length (node_of Ls) [] c.nodes ∙ none (length c.nodes)
    where
      none : (k : ℕ) → 0 + k ≡ k
      none k = omega arith

  pub leaves_long : length Ls ≡ length c.cells
  leaves_long = build_length (leaf_of (actions_in c.actions)) [] c.cells ∙ none (length c.cells)
    where
      none : (k : ℕ) → 0 + k ≡ k
      none k = omega arith

  -- a leaf in store has a cell, and a node in store is no leaf
  pub leaf_full : (n : ℕ) (l : List MCell) → Numbered Ls n l → is_empty l ≡ false
  leaf_full zero l e = cc
  leaf_full (suc i) l e =
      let b = numbered_bound Ls (suc i) l e in
      let r = numbered_any c.cells (suc i) b.0 (subst (λ (k : ℕ). suc i ≤ k) leaves_long b.1) in
      let m = build_at (leaf_of (actions_in c.actions)) [] c.cells i r.0 r.1 in
      let v = leaf_of (actions_in c.actions) m.0 r.0 in
      let there : Numbered (m.0 ++ (v ∷ m.1)) (suc i) v = at_middle m.0 v m.1 (suc i) (omega (arith, m.2)) in
      let there' : Numbered Ls (suc i) v = subst (λ (k : List (List MCell)). Numbered k (suc i) v) (sym m.3) there in
      ap is_empty (only_one Ls (suc i) l v e there')

  pub node_whole : (n : ℕ) (d : MDiagram) → Numbered Ns n d → is_leaf d ≡ false
  node_whole n d e =
      let b = numbered_bound Ns n d e in
      let r = numbered_any c.nodes n b.0 (subst (λ (k : ℕ). n ≤ k) nodes_long b.1) in
      ap is_leaf (only_one Ns n d (node_of Ls Ns r.0) e (node_read n r.0 r.1))

  pub leaf_number : (m n : ℕ) → m ≤ length Ls → n ≤ length Ls → Distinct Ls → numbered_or [] Ls m ≡ numbered_or [] Ls n → m ≡ n
  leaf_number zero zero p q d e = refl
  leaf_number zero (suc n) p q d e =
      let r = numbered_any Ls (suc n) (omega arith) q in
      let f = leaf_full (suc n) r.0 r.1 in
      absurd (true≢false (ap is_empty (e ∙ numbered_value [] Ls (suc n) r.0 r.1) ∙ f))
  leaf_number (suc m) zero p q d e =
      let r = numbered_any Ls (suc m) (omega arith) p in
      let f = leaf_full (suc m) r.0 r.1 in
      absurd (true≢false (ap is_empty (sym e ∙ numbered_value [] Ls (suc m) r.0 r.1) ∙ f))
  leaf_number (suc m) (suc n) p q d e =
      let r = numbered_any Ls (suc m) (omega arith) p in
      let s = numbered_any Ls (suc n) (omega arith) q in
      let k : r.0 ≡ s.0 = sym (numbered_value [] Ls (suc m) r.0 r.1) ∙ (e ∙ numbered_value [] Ls (suc n) s.0 s.1) in
      d (suc m) (suc n) s.0 (subst (λ (l : List MCell). Numbered Ls (suc m) l) k r.1) s.1

  -- words that stand for the same are the same
  pub one_side : (v w : Diagram) → WordNamesEarlier (length Ls) (length Ns) v → WordNamesEarlier (length Ls) (length Ns) w → Distinct Ls → Distinct Ns → side_of Ls Ns v ≡ side_of Ls Ns w → v ≡ w
  one_side (Leaf m) (Leaf n) p q d d' e = ap Leaf (same_amount m n (leaf_number m.number n.number p q d (ap cells_of e)))
  one_side (Leaf m) (Branch n) p q d d' e =
      let r = numbered_any Ns n.number q.0 q.1 in
      absurd (true≢false (ap is_leaf (e ∙ numbered_value (MLeaf []) Ns n.number r.0 r.1) ∙ node_whole n.number r.0 r.1))
  one_side (Branch m) (Leaf n) p q d d' e =
      let r = numbered_any Ns m.number p.0 p.1 in
      absurd (true≢false (ap is_leaf (sym e ∙ numbered_value (MLeaf []) Ns m.number r.0 r.1) ∙ node_whole m.number r.0 r.1))
  one_side (Branch m) (Branch n) p q d d' e =
      let r = numbered_any Ns m.number p.0 p.1 in
      let s = numbered_any Ns n.number q.0 q.1 in
      let k : r.0 ≡ s.0 = sym (numbered_value (MLeaf []) Ns m.number r.0 r.1) ∙ (e ∙ numbered_value (MLeaf []) Ns n.number s.0 s.1) in
      ap Branch (same_amount m n (d' m.number n.number s.0 (subst (λ (l : MDiagram). Numbered Ns m.number l) k r.1) s.1))

pub present_side : (c : Contents) (w : Diagram) → Present (state c) w → WordNamesEarlier (length (leaves_in (actions_in c.actions) c.cells)) (length (nodes_in (leaves_in (actions_in c.actions) c.cells) c.nodes)) w
unfolding state
present_side c (Leaf n) p = p
present_side c (Branch n) p = p

pub one_word : (c : Counts) (s : Stores) → SoundStores c s → (v w : Diagram) (d : MDiagram) → Names (state (contents c s)) v d → Names (state (contents c s)) w d → v ≡ w
unfolding state diagram_of
one_word c s g v w d m n =
    one_side (contents c s) g.sound v w (present_side (contents c s) v m.present) (present_side (contents c s) w n.present) g.sound.leaves_distinct g.sound.nodes_distinct (m.stands ∙ sym n.stands)
