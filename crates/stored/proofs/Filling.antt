-- Whatever is asked for can be added, or is too much. Assumes nothing.
use Rattle.std.proofs.Common.{◌≡◌, ℕ, zero, suc, ◌<◌, ◌≤◌, ◌⊎◌, List, [], ◌∷◌, ◌++◌, map, length, Some, sym, refl, ap, ◌∙◌, subst, inl, inr, arith}
use lib.ListN.{length-map}
use Rattle.std.specs.List.{slice_get, flat_map}
use Rattle.std.proofs.lemmas.Option.{none-some, same_Some}
use Rattle.format.specs.Words.{value_end, word, value_of}
use Rattle.weights.specs.Order.{In}
use Rattle.stores.specs.Numbers.{Numbered, Distinct}
use Rattle.meaning.specs.Decide.{equal_lists, equal_sets, order, Tri, below, level, above}
use Rattle.meaning.specs.Leaves.{Action, Cell, Each}
use Rattle.meaning.specs.Diagrams.{Diagram, Leaf, Node, equal_cells, equal_diagrams}
use Rattle.requests.specs.Requests.{Request, action, cell, node, Records}
use Rattle.stored.specs.Stored.{Rooms, Stored, diagram, Has, Grown}
use Rattle.stored.specs.Grows.{Kind, actions, cells, nodes, kind_of, size, Adds, Fits, Apart, Over}
use Rattle.stored.specs.Whole.{Whole}
use Rattle.stored.proofs.Numbers.{get_in, numbered_grown, numbered_split, in_number, numbered_place}
use Rattle.stored.proofs.Growth.{a_leaf, a_node, stands, has_grown}
use Rattle.stored.proofs.Counting.{in_flat}

-- lists without doubles, by numbers and by elements

apart_get : {X : Type 0} (xs : List X) (m n : ℕ) (x : X) → Apart xs → slice_get xs m ≡ Some x → slice_get xs n ≡ Some x → m ≡ n
apart_get [] m n x a p q = absurd (none-some x p)
apart_get (y ∷ xs) zero zero x a p q = refl
apart_get {X} (y ∷ xs) zero (suc n) x a p q = absurd (a.0 (subst (λ (z : X). In z xs) (sym (same_Some y x p)) (get_in xs n x q)))
apart_get {X} (y ∷ xs) (suc m) zero x a p q = absurd (a.0 (subst (λ (z : X). In z xs) (sym (same_Some y x q)) (get_in xs m x p)))
apart_get (y ∷ xs) (suc m) (suc n) x a p q = ap suc (apart_get xs m n x a.1 p q)

distinct : {X : Type 0} (xs : List X) → Apart xs → Distinct xs
distinct xs a zero n x p q = absurd (none-some x p)
distinct xs a (suc m) zero x p q = absurd (none-some x q)
distinct xs a (suc m) (suc n) x p q = ap suc (apart_get xs m n x a p q)

shifted : {X : Type 0} (y : X) (xs : List X) (n : ℕ) (x : X) → Numbered xs n x → Numbered (y ∷ xs) (suc n) x
shifted y xs zero x e = absurd (none-some x e)
shifted y xs (suc n) x e = e

apart : {X : Type 0} (xs : List X) → Distinct xs → Apart xs
apart [] d = tt
apart (x ∷ xs) d = (first, apart xs rest)
  where
    first : In x xs → ⊥
    first i = let r = in_number xs x i in let s = d 1 (suc r.0) x refl (shifted x xs r.0 x r.1) in let z = positive r.0 r.1 in omega (arith, s, z)
      where
        positive : (n : ℕ) → Numbered xs n x → 0 < n
        positive zero e = absurd (none-some x e)
        positive (suc n) e = omega arith

    rest : Distinct xs
    rest m n y p q = let s = d (suc m) (suc n) y (shifted x xs m y p) (shifted x xs n y q) in omega (arith, s)

-- P and Q of an element of the first or of the second list
in_either : {X : Type 0} (x : X) (a b : List X) → In x (a ++ b) → In x a ⊎ In x b
in_either x [] b i = inr i
in_either x (y ∷ a) b (inl e) = inl (inl e)
in_either x (y ∷ a) b (inr i) = go (in_either x a b i)
  where
    go : In x a ⊎ In x b → In x (y ∷ a) ⊎ In x b
    go (inl j) = inl (inr j)
    go (inr j) = inr j

apart_both : {X : Type 0} (a b : List X) → Apart a → Apart b → ((x : X) → In x b → In x a → ⊥) → Apart (a ++ b)
apart_both [] b p q h = q
apart_both (x ∷ a) b p q h = (λ i. first (in_either x a b i), apart_both a b p.1 q (λ y j i. h y j (inr i)))
  where
    first : In x a ⊎ In x b → ⊥
    first (inl i) = p.0 i
    first (inr j) = h x j (inl refl)

-- what a list lacks of another, each once

module _ {X : Type 0} (same : (x y : X) → Dec (x ≡ y)) where
  member : (x : X) (xs : List X) → Dec (In x xs)
  member x [] = no (λ i. i)
  member x (y ∷ xs) = go (same x y) (member x xs)
    where
      go : Dec (x ≡ y) → Dec (In x xs) → Dec ((x ≡ y) ⊎ In x xs)
      go (yes e) d = yes (inl e)
      go (no h) (yes i) = yes (inr i)
      go (no h) (no k) = no (λ j. neither h k j)
        where
          neither : (x ≡ y → ⊥) → (In x xs → ⊥) → (x ≡ y) ⊎ In x xs → ⊥
          neither h k (inl e) = h e
          neither h k (inr i) = k i

  pub record Lacking (xs ws : List X) : Type 0 where
    pub new : List X
    pub asked : (x : X) → In x new → In x ws
    pub not_there : (x : X) → In x new → In x xs → ⊥
    pub all : (x : X) → In x ws → In x xs ⊎ In x new
    pub apart : Apart new

  lacking : (xs ws : List X) → Lacking xs ws
  lacking xs [] = record { new = []; asked = λ x i. i; not_there = λ x i. absurd i; all = λ x i. absurd i; apart = tt }
  lacking xs (w ∷ ws) = go (lacking xs ws) (member w xs) (λ n. member w n)
    where
      plain : (L : Lacking xs ws) → In w xs ⊎ In w L.new → Lacking xs (w ∷ ws)
      plain L k = record { new = L.new; asked = λ x i. inr (L.asked x i); not_there = L.not_there; all = all; apart = L.apart }
        where
          all : (x : X) → In x (w ∷ ws) → In x xs ⊎ In x L.new
          all x (inl e) = subst (λ (y : X). In y xs ⊎ In y L.new) (sym e) k
          all x (inr i) = L.all x i

      more : (L : Lacking xs ws) → (In w xs → ⊥) → (In w L.new → ⊥) → Lacking xs (w ∷ ws)
      more L h k = record { new = w ∷ L.new; asked = asked; not_there = not_there; all = all; apart = (k, L.apart) }
        where
          asked : (x : X) → (x ≡ w) ⊎ In x L.new → (x ≡ w) ⊎ In x ws
          asked x (inl e) = inl e
          asked x (inr i) = inr (L.asked x i)

          not_there : (x : X) → (x ≡ w) ⊎ In x L.new → In x xs → ⊥
          not_there x (inl e) j = h (subst (λ (y : X). In y xs) e j)
          not_there x (inr i) j = L.not_there x i j

          all : (x : X) → (x ≡ w) ⊎ In x ws → In x xs ⊎ ((x ≡ w) ⊎ In x L.new)
          all x (inl e) = inr (inl e)
          all x (inr i) = further (L.all x i)
            where
              further : In x xs ⊎ In x L.new → In x xs ⊎ ((x ≡ w) ⊎ In x L.new)
              further (inl j) = inl j
              further (inr j) = inr (inr j)

      go : (L : Lacking xs ws) → Dec (In w xs) → ((n : List X) → Dec (In w n)) → Lacking xs (w ∷ ws)
      go L (yes i) f = plain L (inl i)
      go L (no h) f = second (f L.new)
        where
          second : Dec (In w L.new) → Lacking xs (w ∷ ws)
          second (yes i) = plain L (inr i)
          second (no k) = more L h k

  -- the list with what it lacks behind it
  pub record Filled (xs ws : List X) : Type 0 where
    pub new : List X
    pub distinct : Distinct (xs ++ new)
    pub from : (n : ℕ) (x : X) → Numbered (xs ++ new) n x → Numbered xs n x ⊎ In x ws
    pub to : (x : X) → In x ws → (n : ℕ) × Numbered (xs ++ new) n x

  pub filled : (xs ws : List X) → Distinct xs → Filled xs ws
  filled xs ws d =
      record {
        new = L.new;
        distinct = distinct (xs ++ L.new) (apart_both xs L.new (apart xs d) L.apart L.not_there);
        from = λ n x e. from n x (numbered_split xs L.new n x e);
        to = λ x i. to x (L.all x i);
      }
    where
      L : Lacking xs ws
      L = lacking xs ws

      from : (n : ℕ) (x : X) → Numbered xs n x ⊎ In x L.new → Numbered xs n x ⊎ In x ws
      from n x (inl e) = inl e
      from n x (inr i) = inr (L.asked x i)

      to : (x : X) → In x xs ⊎ In x L.new → (n : ℕ) × Numbered (xs ++ L.new) n x
      to x (inl i) = let r = in_number xs x i in (r.0, numbered_grown xs L.new r.0 x r.1)
      to x (inr i) = in_number (xs ++ L.new) x (behind xs)
        where
          behind : (ys : List X) → In x (ys ++ L.new)
          behind [] = i
          behind (y ∷ ys) = inr (behind ys)

-- what is asked for, kind by kind

flat_from : {X Y : Type 0} (f : X → List Y) (y : Y) (xs : List X) → In y (flat_map f xs) → (x : X) × In x xs × In y (f x)
flat_from f y [] i = absurd i
flat_from {X} {Y} f y (x ∷ xs) i = go (in_either y (f x) (flat_map f xs) i) (λ j. flat_from f y xs j)
  where
    go : In y (f x) ⊎ In y (flat_map f xs) → (In y (flat_map f xs) → (u : X) × In u xs × In y (f u)) → (u : X) × In u (x ∷ xs) × In y (f u)
    go (inl j) k = (x, inl refl, j)
    go (inr j) k = let r = k j in (r.0, inr r.1, r.2)

abbrev one_action : Request → List Action
one_action (action a) = a ∷ []
one_action (cell a w l) = []
one_action (node f n y z) = []

abbrev one_leaf : Request → List (List Cell)
one_leaf (action a) = []
one_leaf (cell a w l) = ((a, w) ∷ l) ∷ []
one_leaf (node f n y z) = []

abbrev one_node : Request → List Diagram
one_node (action a) = []
one_node (cell a w l) = []
one_node (node f n y z) = Node f n y z ∷ []

-- an element as its record, if it is one
abbrev LeafAmong : List Request → List Cell → Type 0
LeafAmong qs [] = ⊥
LeafAmong qs (c ∷ l) = In (cell c.0 c.1 l) qs

abbrev NodeAmong : List Request → Diagram → Type 0
NodeAmong qs (Leaf l) = ⊥
NodeAmong qs (Node f n y z) = In (node f n y z) qs

action_among : (qs : List Request) (a : Action) → In a (flat_map one_action qs) → In (action a) qs
action_among qs a i = go (flat_from one_action a qs i)
  where
    go : (q : Request) × In q qs × In a (one_action q) → In (action a) qs
    go (action b, j, inl e) = subst (λ (x : Action). In (action x) qs) (sym e) j
    go (action b, j, inr k) = absurd k
    go (cell b w l, j, k) = absurd k
    go (node f n y z, j, k) = absurd k

leaf_among : (qs : List Request) (l : List Cell) → In l (flat_map one_leaf qs) → LeafAmong qs l
leaf_among qs l i = go (flat_from one_leaf l qs i)
  where
    go : (q : Request) × In q qs × In l (one_leaf q) → LeafAmong qs l
    go (action b, j, k) = absurd k
    go (cell b w m, j, inl e) = subst (LeafAmong qs) (sym e) j
    go (cell b w m, j, inr k) = absurd k
    go (node f n y z, j, k) = absurd k

node_among : (qs : List Request) (d : Diagram) → In d (flat_map one_node qs) → NodeAmong qs d
node_among qs d i = go (flat_from one_node d qs i)
  where
    go : (q : Request) × In q qs × In d (one_node q) → NodeAmong qs d
    go (action b, j, k) = absurd k
    go (cell b w m, j, k) = absurd k
    go (node f n y z, j, inl e) = subst (NodeAmong qs) (sym e) j
    go (node f n y z, j, inr k) = absurd k

-- elements as records, and back

abbrev as_cell : List Cell → Request
as_cell [] = cell [] 0 []
as_cell (c ∷ l) = cell c.0 c.1 l

abbrev as_node : Diagram → Request
as_node (Leaf l) = node 0 0 (Leaf l) (Leaf l)
as_node (Node f n y z) = node f n y z

abbrev the_action : Request → Action
the_action (action a) = a
the_action (cell a w l) = a
the_action (node f n y z) = []

abbrev the_leaf : Request → List Cell
the_leaf (action a) = []
the_leaf (cell a w l) = (a, w) ∷ l
the_leaf (node f n y z) = []

abbrev the_node : Request → Diagram
the_node (action a) = Leaf []
the_node (cell a w l) = Leaf []
the_node (node f n y z) = Node f n y z

module _ {X : Type 0} (f : X → Request) (back : Request → X) where
  mapped_from : (q : Request) (xs : List X) → In q (map f xs) → (x : X) × In x xs × (q ≡ f x)
  mapped_from q [] i = absurd i
  mapped_from q (x ∷ xs) (inl e) = (x, inl refl, e)
  mapped_from q (x ∷ xs) (inr i) = let r = mapped_from q xs i in (r.0, inr r.1, r.2)

  apart_mapped : (xs : List X) → ((x : X) → In x xs → back (f x) ≡ x) → Apart xs → Apart (map f xs)
  apart_mapped [] h a = tt
  apart_mapped (x ∷ xs) h a = (first, apart_mapped xs (λ y i. h y (inr i)) a.1)
    where
      first : In (f x) (map f xs) → ⊥
      first i =
          let r = mapped_from (f x) xs i in
          a.0 (subst (λ (y : X). In y xs) (sym (h r.0 (inr r.1)) ∙ ap back (sym r.2) ∙ h x (inl refl)) r.1)

  each_mapped : (P : Request → Type 0) (xs : List X) → ((x : X) → In x xs → P (f x)) → Each P (map f xs)
  each_mapped P [] h = tt
  each_mapped P (x ∷ xs) h = (h x (inl refl), each_mapped P xs (λ y i. h y (inr i)))

  -- too many elements of one kind are too much
  over_by : (sizes : Kind → ℕ) (s : Stored) (asks : List Request) (k : Kind) (xs : List X) → Distinct xs →
      ((x : X) → In x xs → (back (f x) ≡ x) × (kind_of (f x) ≡ k) × (Has s (f x) ⊎ In (f x) asks)) → sizes k < length xs → Over sizes s asks
  over_by sizes s asks k xs d h l =
      record {
        kind = k;
        records = map f xs;
        different = apart_mapped xs (λ x i. (h x i).0) (apart xs d);
        of_kind = each_mapped (λ q. kind_of q ≡ k) xs (λ x i. (h x i).1);
        held_or_asked = each_mapped (λ q. Has s q ⊎ In q asks) xs (λ x i. (h x i).2);
        too_many = let a = length-map xs f in omega (arith, a, l);
      }

-- the stores with all that is asked for, or too much

pub fewer : (m n : ℕ) → (m < n) ⊎ (n ≤ m)
fewer m n = go (order m n)
  where
    go : Tri (m < n) (m ≡ n) (n < m) → (m < n) ⊎ (n ≤ m)
    go (below l) = inl l
    go (level e) = inr (omega (arith, e))
    go (above l) = inr (omega (arith, l))

module _ (z : Rooms) (s : Stored) (h : Whole z s) (asks : List Request) where
  A : Filled (equal_lists equal_sets) s.actions (flat_map one_action asks)
  A = filled (equal_lists equal_sets) s.actions (flat_map one_action asks) h.once.actions

  C : Filled (equal_lists equal_cells) s.leaves (flat_map one_leaf asks)
  C = filled (equal_lists equal_cells) s.leaves (flat_map one_leaf asks) h.once.leaves

  N : Filled equal_diagrams s.nodes (flat_map one_node asks)
  N = filled equal_diagrams s.nodes (flat_map one_node asks) h.once.nodes

  abbrev with_asked : Stored
  with_asked = record { actions = s.actions ++ A.new; leaves = s.leaves ++ C.new; nodes = s.nodes ++ N.new }

  no_empty : (n : ℕ) → Numbered s.leaves n [] ⊎ In [] (flat_map one_leaf asks) → ⊥
  no_empty n (inl e) = h.no_drop n e
  no_empty n (inr i) = leaf_among asks [] i

  no_end : (l : List Cell) (n : ℕ) → Numbered s.nodes n (Leaf l) ⊎ In (Leaf l) (flat_map one_node asks) → ⊥
  no_end l n (inl e) = h.no_leaf l n e
  no_end l n (inr i) = node_among asks (Leaf l) i

  was : (q : Request) → Has with_asked q → Has s q ⊎ In q asks
  was (action a) (n, e) = go (A.from n a e)
    where
      go : Numbered s.actions n a ⊎ In a (flat_map one_action asks) → Has s (action a) ⊎ In (action a) asks
      go (inl p) = inl (n, p)
      go (inr i) = inr (action_among asks a i)
  was (cell a w l) (n, e) = go (C.from n ((a, w) ∷ l) e)
    where
      go : Numbered s.leaves n ((a, w) ∷ l) ⊎ In ((a, w) ∷ l) (flat_map one_leaf asks) → Has s (cell a w l) ⊎ In (cell a w l) asks
      go (inl p) = inl (n, p)
      go (inr i) = inr (leaf_among asks ((a, w) ∷ l) i)
  was (node f m y v) (n, e) = go (N.from n (Node f m y v) e)
    where
      go : Numbered s.nodes n (Node f m y v) ⊎ In (Node f m y v) (flat_map one_node asks) → Has s (node f m y v) ⊎ In (node f m y v) asks
      go (inl p) = inl (n, p)
      go (inr i) = inr (node_among asks (Node f m y v) i)

  asked : (q : Request) → In q asks → Has with_asked q
  asked (action a) i = A.to a (in_flat one_action a (action a) (inl refl) asks i)
  asked (cell a w l) i = C.to ((a, w) ∷ l) (in_flat one_leaf ((a, w) ∷ l) (cell a w l) (inl refl) asks i)
  asked (node f m y v) i = N.to (Node f m y v) (in_flat one_node (Node f m y v) (node f m y v) (inl refl) asks i)

  abbrev grown : Grown s with_asked
  grown = record { new_actions = A.new; actions_grown = refl; new_leaves = C.new; leaves_grown = refl; new_nodes = N.new; nodes_grown = refl }

  there : (q : Request) → Has s q ⊎ In q asks → Has with_asked q
  there q (inl k) = has_grown s with_asked grown q k
  there q (inr i) = asked q i

  adds : Adds s asks with_asked
  adds =
      record {
        grown = grown;
        once = record { actions = A.distinct; leaves = C.distinct; nodes = N.distinct };
        exactly = λ q. (was q, there q);
        no_drop = λ n e. no_empty n (C.from n [] e);
        no_leaf = λ l n e. no_end l n (N.from n (Leaf l) e);
      }

  action_there : (a : Action) → In a with_asked.actions → (a ≡ a) × (kind_of (action a) ≡ actions) × (Has s (action a) ⊎ In (action a) asks)
  action_there a i = (refl, refl, was (action a) (in_number with_asked.actions a i))

  leaf_there : (l : List Cell) → In l with_asked.leaves → (the_leaf (as_cell l) ≡ l) × (kind_of (as_cell l) ≡ cells) × (Has s (as_cell l) ⊎ In (as_cell l) asks)
  leaf_there [] i = let r = in_number with_asked.leaves [] i in absurd (adds.no_drop r.0 r.1)
  leaf_there (c ∷ l) i = (refl, refl, was (cell c.0 c.1 l) (in_number with_asked.leaves (c ∷ l) i))

  node_there : (d : Diagram) → In d with_asked.nodes → (the_node (as_node d) ≡ d) × (kind_of (as_node d) ≡ nodes) × (Has s (as_node d) ⊎ In (as_node d) asks)
  node_there (Leaf l) i = let r = in_number with_asked.nodes (Leaf l) i in absurd (adds.no_leaf l r.0 r.1)
  node_there (Node f m y v) i = (refl, refl, was (node f m y v) (in_number with_asked.nodes (Node f m y v) i))

  pub added_or_over : ((m : Stored) × Adds s asks m × Fits z m) ⊎ Over (size z) s asks
  added_or_over = go (fewer z.actions (length with_asked.actions)) (fewer z.cells (length with_asked.leaves)) (fewer z.nodes (length with_asked.nodes))
    where
      go :
          (z.actions < length with_asked.actions) ⊎ (length with_asked.actions ≤ z.actions) →
          (z.cells < length with_asked.leaves) ⊎ (length with_asked.leaves ≤ z.cells) →
          (z.nodes < length with_asked.nodes) ⊎ (length with_asked.nodes ≤ z.nodes) →
          ((m : Stored) × Adds s asks m × Fits z m) ⊎ Over (size z) s asks
      go (inl l) x y = inr (over_by action the_action (size z) s asks actions with_asked.actions A.distinct action_there l)
      go (inr e) (inl l) y = inr (over_by as_cell the_leaf (size z) s asks cells with_asked.leaves C.distinct leaf_there l)
      go (inr e) (inr k) (inl l) = inr (over_by as_node the_node (size z) s asks nodes with_asked.nodes N.distinct node_there l)
      go (inr e) (inr k) (inr l) = inl (with_asked, adds, record { actions = e; leaves = k; nodes = l })

-- the word of a diagram whose records are in store

leaf_number : (xs : List (List Cell)) (n : ℕ) (l : List Cell) → Numbered xs n l → slice_get ([] ∷ xs) n ≡ Some l
leaf_number xs zero l e = absurd (none-some l e)
leaf_number xs (suc n) l e = e

leaf_word : (s : Stored) (n : ℕ) (l : List Cell) → n < value_end → slice_get ([] ∷ s.leaves) n ≡ Some l → diagram s (word 0 0 n) ≡ Some (Leaf l)
leaf_word s n l h e = stands s (word 0 0 n) (Leaf l) (a_leaf (omega (arith, h)) (omega (arith, h)) (subst (λ (k : ℕ). slice_get ([] ∷ s.leaves) k ≡ Some l) is e))
  where
    is : n ≡ value_of (word 0 0 n)
    is = omega (arith, h)

node_word : (s : Stored) (n : ℕ) (d : Diagram) → n < value_end → Numbered s.nodes n d → diagram s (word 1 0 n) ≡ Some d
node_word s n d h e = stands s (word 1 0 n) d (a_node (omega (arith, h)) (omega (arith, h)) (subst (λ (k : ℕ). Numbered s.nodes k d) is e))
  where
    is : n ≡ value_of (word 1 0 n)
    is = omega (arith, h)

pub has_word : (s : Stored) → length s.leaves < value_end → length s.nodes < value_end → (d : Diagram) → Records (Has s) d → (w : ℕ) × (diagram s w ≡ Some d)
has_word s a b (Leaf []) h = (word 0 0 0, leaf_word s 0 [] (omega arith) refl)
has_word s a b (Leaf (c ∷ l)) h = let r = h.1.0 in (word 0 0 r.0, leaf_word s r.0 (c ∷ l) (omega (arith, a, numbered_place s.leaves r.0 (c ∷ l) r.1)) (leaf_number s.leaves r.0 (c ∷ l) r.1))
has_word s a b (Node f n y z) h = let r = h.0 in (word 1 0 r.0, node_word s r.0 (Node f n y z) (omega (arith, b, numbered_place s.nodes r.0 (Node f n y z) r.1)) r.1)
