-- How many records are in store. Assumes nothing.
use Rattle.std.proofs.Common.{◌+◌, ◌≡◌, suc, ◌<◌, ◌≤◌, List, [], ◌∷◌, ◌++◌, map, length, ◌⊎◌, sym, refl, ap, ◌∙◌, subst, inl, inr, arith, length-append}
use lib.ListN.{length-map}
use Rattle.std.specs.List.{flat_map}
use Rattle.format.specs.Words.{value_end}
use Rattle.weights.specs.Order.{In}
use Rattle.meaning.specs.Leaves.{Action, Cell}
use Rattle.meaning.specs.Diagrams.{Diagram, Leaf, Node}
use Rattle.requests.specs.Requests.{Request, action, cell, node}
use Rattle.stored.specs.Stored.{Rooms, Stored, Has}
use Rattle.stored.specs.Grows.{Kind, actions, cells, nodes, kind_of, size, Fits, Adds, Apart, Over}
use Rattle.stored.specs.Whole.{Whole}
use Rattle.stored.proofs.Numbers.{each_in, numbered_in}

-- no more elements that differ are in a list than it has

one_on :
    {X : Type 0} (x z : X) (zs : List X) →
    (ys : List X) × (length zs ≡ suc (length ys)) × ((y : X) → In y zs → (y ≡ x) ⊎ In y ys) →
    (ys : List X) × (length (z ∷ zs) ≡ suc (length ys)) × ((y : X) → In y (z ∷ zs) → (y ≡ x) ⊎ In y ys)
one_on {X} x z zs r = (z ∷ r.0, ap suc r.1, go)
  where
    further : (y : X) → (y ≡ x) ⊎ In y r.0 → (y ≡ x) ⊎ In y (z ∷ r.0)
    further y (inl k) = inl k
    further y (inr k) = inr (inr k)

    go : (y : X) → (y ≡ z) ⊎ In y zs → (y ≡ x) ⊎ In y (z ∷ r.0)
    go y (inl k) = inr (inl k)
    go y (inr k) = further y (r.2 y k)

without : {X : Type 0} (x : X) (xs : List X) → In x xs → (ys : List X) × (length xs ≡ suc (length ys)) × ((y : X) → In y xs → (y ≡ x) ⊎ In y ys)
without x [] i = absurd i
without x (z ∷ zs) (inl e) = (zs, refl, λ y j. go y j)
  where
    go : (y : _) → (y ≡ z) ⊎ In y zs → (y ≡ x) ⊎ In y zs
    go y (inl k) = inl (k ∙ sym e)
    go y (inr k) = inr k
without {X} x (z ∷ zs) (inr i) = one_on x z zs (without x zs i)

pub pigeons : {X : Type 0} (xs ys : List X) → Apart xs → ((x : X) → In x xs → In x ys) → length xs ≤ length ys
pigeons [] ys n h = omega arith
pigeons {X} (x ∷ xs) ys n h = let a = pigeons xs w.0 n.1 rest in let b = w.1 in omega (arith, a, b)
  where
    w : (zs : List X) × (length ys ≡ suc (length zs)) × ((y : X) → In y ys → (y ≡ x) ⊎ In y zs)
    w = without x ys (h x (inl refl))

    rest : (y : X) → In y xs → In y w.0
    rest y i = go (w.2 y (h y (inr i)))
      where
        go : (y ≡ x) ⊎ In y w.0 → In y w.0
        go (inl e) = absurd (n.0 (subst (λ (z : X). In z xs) e i))
        go (inr j) = j

-- the records of each kind

abbrev cell_in : List Cell → List Request
cell_in [] = []
cell_in (c ∷ l) = cell c.0 c.1 l ∷ []

abbrev node_in : Diagram → List Request
node_in (Leaf l) = []
node_in (Node f n y z) = node f n y z ∷ []

abbrev part : Stored → Kind → List Request
part s actions = map action s.actions
part s cells = flat_map cell_in s.leaves
part s nodes = flat_map node_in s.nodes

pub in_left : {X : Type 0} (q : X) (a b : List X) → In q a → In q (a ++ b)
in_left q [] b m = absurd m
in_left q (x ∷ a) b (inl e) = inl e
in_left q (x ∷ a) b (inr m) = inr (in_left q a b m)

pub in_right : {X : Type 0} (q : X) (a b : List X) → In q b → In q (a ++ b)
in_right q [] b m = m
in_right q (x ∷ a) b m = inr (in_right q a b m)

in_mapped : (a : Action) (xs : List Action) → In a xs → In (action a) (map action xs)
in_mapped a [] i = absurd i
in_mapped a (x ∷ xs) (inl e) = inl (ap action e)
in_mapped a (x ∷ xs) (inr i) = inr (in_mapped a xs i)

pub in_flat : {X Y : Type 0} (f : X → List Y) (y : Y) (x : X) → In y (f x) → (xs : List X) → In x xs → In y (flat_map f xs)
in_flat f y x h [] i = absurd i
in_flat {X} f y x h (z ∷ xs) (inl e) = in_left y (f z) (flat_map f xs) (subst (λ (u : X). In y (f u)) e h)
in_flat f y x h (z ∷ xs) (inr i) = in_right y (f z) (flat_map f xs) (in_flat f y x h xs i)

in_own_part : (s : Stored) (q : Request) → Has s q → In q (part s (kind_of q))
in_own_part s (action a) (n, e) = in_mapped a s.actions (numbered_in s.actions n a e)
in_own_part s (cell a w l) (n, e) = in_flat cell_in (cell a w l) ((a, w) ∷ l) (inl refl) s.leaves (numbered_in s.leaves n ((a, w) ∷ l) e)
in_own_part s (node f m y z) (n, e) = in_flat node_in (node f m y z) (Node f m y z) (inl refl) s.nodes (numbered_in s.nodes n (Node f m y z) e)

few_cells : (ls : List (List Cell)) → length (flat_map cell_in ls) ≤ length ls
few_cells [] = omega arith
few_cells ([] ∷ ls) = let a = few_cells ls in omega (arith, a)
few_cells ((c ∷ l) ∷ ls) = let a = few_cells ls in omega (arith, a)

few_nodes : (ds : List Diagram) → length (flat_map node_in ds) ≤ length ds
few_nodes [] = omega arith
few_nodes (Leaf l ∷ ds) = let a = few_nodes ds in omega (arith, a)
few_nodes (Node f n y z ∷ ds) = let a = few_nodes ds in omega (arith, a)

part_fits : (z : Rooms) (s : Stored) → Fits z s → (k : Kind) → length (part s k) ≤ size z k
part_fits z s h actions = let a = length-map s.actions action in omega (arith, a, h.actions)
part_fits z s h cells = let a = few_cells s.leaves in omega (arith, a, h.leaves)
part_fits z s h nodes = let a = few_nodes s.nodes in omega (arith, a, h.nodes)

-- where what was asked for was added and fits, it was not too much
pub not_over : (z : Rooms) (s : Stored) (asks : List Request) (s' : Stored) → Adds s asks s' → Fits z s' → Over (size z) s asks → ⊥
not_over z s asks s' g t o =
    let a = pigeons o.records (part s' o.kind) o.different inside in
    let b = part_fits z s' t o.kind in
    let c = o.too_many in
    omega (arith, a, b, c)
  where
    inside : (q : Request) → In q o.records → In q (part s' o.kind)
    inside q i =
        subst (λ (k : Kind). In q (part s' k)) (each_in (λ q. kind_of q ≡ o.kind) o.records o.of_kind q i)
        (in_own_part s' q ((g.exactly q).1 (each_in (λ q. Has s q ⊎ In q asks) o.records o.held_or_asked q i)))

-- all records in store
unfoldable pub contents : Stored → List Request
contents s = part s actions ++ (part s cells ++ part s nodes)

pub in_contents : (s : Stored) (q : Request) → Has s q → In q (contents s)
unfolding contents
in_contents s q h = go (kind_of q) (in_own_part s q h)
  where
    go : (k : Kind) → In q (part s k) → In q (part s actions ++ (part s cells ++ part s nodes))
    go actions i = in_left q (part s actions) (part s cells ++ part s nodes) i
    go cells i = in_right q (part s actions) (part s cells ++ part s nodes) (in_left q (part s cells) (part s nodes) i)
    go nodes i = in_right q (part s actions) (part s cells ++ part s nodes) (in_right q (part s cells) (part s nodes) i)

pub few_contents : (z : Rooms) (s : Stored) → Whole z s → z.actions + z.cells + z.nodes < value_end → length (contents s) < value_end
unfolding contents
few_contents z s h f =
    let a = part_fits z s h.fits actions in
    let b = part_fits z s h.fits cells in
    let c = part_fits z s h.fits nodes in
    let d = length-append (part s actions) (part s cells ++ part s nodes) in
    let e = length-append (part s cells) (part s nodes) in
    omega (arith, a, b, c, d, e, f)
