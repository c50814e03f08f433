-- What stores hold after they grew. Assumes nothing.
use Rattle.std.proofs.Common.{◌≡◌, ℕ, zero, suc, ◌⊎◌, Bool, true, false, cond, List, [], ◌∷◌, Some, None, Option, sym, refl, ◌∙◌, subst, inl, inr, arith, eqb-true}
use Rattle.std.specs.Prelude.{◌==◌}
use Rattle.std.specs.List.{slice_get}
use Rattle.std.proofs.lemmas.Option.{none-some, same_Some}
use Rattle.format.specs.Words.{kind_of, field_of, value_of}
use Rattle.weights.specs.Weights.{Ops}
use Rattle.weights.specs.Order.{In}
use Rattle.stores.specs.Numbers.{record_at, Numbered}
use Rattle.meaning.specs.Leaves.{Action, Cell, Each, LeafFormed}
use Rattle.meaning.specs.Diagrams.{Diagram, Leaf, Node, Formed}
use Rattle.requests.specs.Requests.{Request, action, cell, node, leaf_records, Records, RecordFormed}
use Rattle.stored.specs.Stored.{Rooms, Stored, diagram, leaf_in, Has, Grown}
use Rattle.stored.specs.Grows.{Fits, Adds}
use Rattle.stored.specs.Whole.{Inside, Whole, AllFormed}
use Rattle.stored.proofs.Numbers.{each_in, in_each, each_weaker, numbered_grown, get_grown}

-- a word and what it is the word of
pub data Standing (s : Stored) (w : ℕ) : Diagram → Type 0 where
  a_leaf : {l : List Cell} → field_of w ≡ 0 → kind_of w ≡ 0 → slice_get ([] ∷ s.leaves) (value_of w) ≡ Some l → Standing s w (Leaf l)
  a_node : {d : Diagram} → field_of w ≡ 0 → kind_of w ≡ 1 → Numbered s.nodes (value_of w) d → Standing s w d

abbrev no_diagram : Option Diagram
no_diagram = None

either : (b : Bool) (x y : Option Diagram) (d : Diagram) → cond b x y ≡ Some d → ((b ≡ true) × (x ≡ Some d)) ⊎ ((b ≡ false) × (y ≡ Some d))
either true x y d h = inl (refl, h)
either false x y d h = inr (refl, h)

pub standing : (s : Stored) (w : ℕ) (d : Diagram) → diagram s w ≡ Some d → Standing s w d
unfolding diagram
standing s w d e = go (either (field_of w == 0) _ None d e)
  where
    leafy : (x : Option (List Cell)) → field_of w ≡ 0 → kind_of w ≡ 0 → slice_get ([] ∷ s.leaves) (value_of w) ≡ x → leaf_in x ≡ Some d → Standing s w d
    leafy None f k p q = absurd (none-some d q)
    leafy (Some l) f k p q = subst (Standing s w) (same_Some (Leaf l) d q) (a_leaf f k p)

    node_or : field_of w ≡ 0 → ((kind_of w == 1) ≡ true) × (record_at s.nodes (value_of w) ≡ Some d) ⊎ (((kind_of w == 1) ≡ false) × (no_diagram ≡ Some d)) → Standing s w d
    node_or f (inl (k, p)) = a_node f (eqb-true (kind_of w) 1 k) p
    node_or f (inr (k, p)) = absurd (none-some d p)

    kinds :
        field_of w ≡ 0 →
        (((kind_of w == 0) ≡ true) × (leaf_in (slice_get ([] ∷ s.leaves) (value_of w)) ≡ Some d)) ⊎ (((kind_of w == 0) ≡ false) × (cond (kind_of w == 1) (record_at s.nodes (value_of w)) None ≡ Some d)) →
        Standing s w d
    kinds f (inl (k, p)) = leafy (slice_get ([] ∷ s.leaves) (value_of w)) f (eqb-true (kind_of w) 0 k) refl p
    kinds f (inr (k, p)) = node_or f (either (kind_of w == 1) (record_at s.nodes (value_of w)) None d p)

    go :
        (((field_of w == 0) ≡ true) × (cond (kind_of w == 0) (leaf_in (slice_get ([] ∷ s.leaves) (value_of w))) (cond (kind_of w == 1) (record_at s.nodes (value_of w)) None) ≡ Some d)) ⊎ (((field_of w == 0) ≡ false) × (no_diagram ≡ Some d)) →
        Standing s w d
    go (inl (f, p)) = kinds (eqb-true (field_of w) 0 f) (either (kind_of w == 0) _ _ d p)
    go (inr (f, p)) = absurd (none-some d p)

pub stands : (s : Stored) (w : ℕ) (d : Diagram) → Standing s w d → diagram s w ≡ Some d
unfolding diagram
stands s w d (a_leaf {l} f k e) = rw (f, k, e) refl
stands s w d (a_node f k e) = rw (f, k) e

-- words of the same diagram are the same

same_word : (v w : ℕ) → value_of v ≡ value_of w → kind_of v ≡ kind_of w → field_of v ≡ 0 → field_of w ≡ 0 → v ≡ w
same_word v w p q f g = omega (arith, p, q, f, g)

module _ (z : Rooms) (s : Stored) (h : Whole z s) where
  one_leaf : (m n : ℕ) (l : List Cell) → slice_get ([] ∷ s.leaves) m ≡ Some l → slice_get ([] ∷ s.leaves) n ≡ Some l → m ≡ n
  one_leaf zero zero l p q = refl
  one_leaf zero (suc n) l p q = absurd (h.no_drop (suc n) (q ∙ sym p))
  one_leaf (suc m) zero l p q = absurd (h.no_drop (suc m) (p ∙ sym q))
  one_leaf (suc m) (suc n) l p q = h.once.leaves (suc m) (suc n) l p q

  one_standing : (v w : ℕ) (d : Diagram) → Standing s v d → Standing s w d → v ≡ w
  one_standing v w d (a_leaf {l} f k e) (a_leaf f' k' e') = same_word v w (one_leaf (value_of v) (value_of w) l e e') (k ∙ sym k') f f'
  one_standing v w d (a_leaf {l} f k e) (a_node f' k' e') = absurd (h.no_leaf l (value_of w) e')
  one_standing v w d (a_node f k e) (a_leaf {l} f' k' e') = absurd (h.no_leaf l (value_of v) e)
  one_standing v w d (a_node f k e) (a_node f' k' e') = same_word v w (h.once.nodes (value_of v) (value_of w) d e e') (k ∙ sym k') f f'

  pub one_word : (v w : ℕ) (d : Diagram) → diagram s v ≡ Some d → diagram s w ≡ Some d → v ≡ w
  one_word v w d p q = one_standing v w d (standing s v d p) (standing s w d q)

  leaf_inside : (n : ℕ) (l : List Cell) → slice_get ([] ∷ s.leaves) n ≡ Some l → Each (Has s) (leaf_records l)
  leaf_inside n [] e = tt
  leaf_inside zero (c ∷ l) e = cc
  leaf_inside (suc n) (c ∷ l) e = h.inside (cell c.0 c.1 l) (suc n, e)

  node_inside : (n : ℕ) (d : Diagram) → Numbered s.nodes n d → Records (Has s) d
  node_inside n (Leaf l) e = absurd (h.no_leaf l n e)
  node_inside n (Node f m y z) e = h.inside (node f m y z) (n, e)

  -- every record of a held diagram is in store
  pub all_inside : (w : ℕ) (d : Diagram) → diagram s w ≡ Some d → Records (Has s) d
  all_inside w d e = go (standing s w d e)
    where
      go : {d : Diagram} → Standing s w d → Records (Has s) d
      go (a_leaf {l} f k e) = leaf_inside (value_of w) l e
      go (a_node {d} f k e) = node_inside (value_of w) d e

  leaf_formed : {o : Ops} → AllFormed o s → (l : List Cell) → Each (Has s) (leaf_records l) → LeafFormed o l
  leaf_formed g [] i = record { cells = tt; ascending = tt }
  leaf_formed g (c ∷ l) i = g (cell c.0 c.1 l) i.1.0

  records_formed : {o : Ops} → AllFormed o s → (d : Diagram) → Records (Has s) d → Formed o d
  records_formed g (Leaf l) i = leaf_formed g l i
  records_formed g (Node f n y z) i = g (node f n y z) i.0

  pub diagram_formed : {o : Ops} → AllFormed o s → (w : ℕ) (d : Diagram) → diagram s w ≡ Some d → Formed o d
  diagram_formed g w d e = records_formed g d (all_inside w d e)

-- grown

module _ (s s' : Stored) (g : Grown s s') where
  pub has_grown : (q : Request) → Has s q → Has s' q
  has_grown (action a) (n, e) = (n, subst (λ (xs : List Action). Numbered xs n a) (sym g.actions_grown) (numbered_grown s.actions g.new_actions n a e))
  has_grown (cell a w l) (n, e) = (n, subst (λ (xs : List (List Cell)). Numbered xs n ((a, w) ∷ l)) (sym g.leaves_grown) (numbered_grown s.leaves g.new_leaves n ((a, w) ∷ l) e))
  has_grown (node f m y z) (n, e) = (n, subst (λ (xs : List Diagram). Numbered xs n (Node f m y z)) (sym g.nodes_grown) (numbered_grown s.nodes g.new_nodes n (Node f m y z) e))

  pub diagram_grown : (w : ℕ) (d : Diagram) → diagram s w ≡ Some d → diagram s' w ≡ Some d
  diagram_grown w d e = stands s' w d (go (standing s w d e))
    where
      go : {d : Diagram} → Standing s w d → Standing s' w d
      go (a_leaf {l} f k e) = a_leaf f k (subst (λ (xs : List (List Cell)). slice_get ([] ∷ xs) (value_of w) ≡ Some l) (sym g.leaves_grown) (get_grown ([] ∷ s.leaves) g.new_leaves (value_of w) l e))
      go (a_node {d} f k e) = a_node f k (subst (λ (xs : List Diagram). Numbered xs (value_of w) d) (sym g.nodes_grown) (numbered_grown s.nodes g.new_nodes (value_of w) d e))

pub records_more : (H K : Request → Type 0) → ((q : Request) → H q → K q) → (d : Diagram) → Records H d → Records K d
records_more H K f (Leaf l) h = each_weaker H K (leaf_records l) f h
records_more H K f (Node g n y z) h = (f (node g n y z) h.0, records_more H K f y h.1, records_more H K f z h.2)

inside_more : (H K : Request → Type 0) → ((q : Request) → H q → K q) → (q : Request) → Inside H q → Inside K q
inside_more H K f (action a) h = tt
inside_more H K f (cell a w l) h = records_more H K f (Leaf ((a, w) ∷ l)) h
inside_more H K f (node g n y z) h = records_more H K f (Node g n y z) h

pub more_records : (s s' : Stored) → Grown s s' → (d : Diagram) → Records (Has s) d → Records (Has s') d
more_records s s' g d h = records_more (Has s) (Has s') (has_grown s s' g) d h

module _ (s : Stored) (asks : List Request) (s' : Stored) (g : Adds s asks s') where
  pub asked_there : Each (Has s') asks
  asked_there = in_each (Has s') asks (λ q i. (g.exactly q).1 (inr i))

  -- stores that were whole stay whole
  pub whole_after : (z : Rooms) → Whole z s → Fits z s' → Each (Inside (Has s')) asks → Whole z s'
  whole_after z h t i = record { once = g.once; fits = t; no_drop = g.no_drop; no_leaf = g.no_leaf; inside = λ q k. go q ((g.exactly q).0 k) }
    where
      go : (q : Request) → Has s q ⊎ In q asks → Inside (Has s') q
      go q (inl k) = inside_more (Has s) (Has s') (has_grown s s' g.grown) q (h.inside q k)
      go q (inr j) = each_in (Inside (Has s')) asks i q j

  pub formed_after : {o : Ops} → AllFormed o s → Each (RecordFormed o) asks → AllFormed o s'
  formed_after {o} h i q k = go ((g.exactly q).0 k)
    where
      go : Has s q ⊎ In q asks → RecordFormed o q
      go (inl k) = h q k
      go (inr j) = each_in (RecordFormed o) asks i q j
