-- Every record of a result is one of an operand or is requested. Assumes nothing.
use Rattle.std.proofs.Common.{ℕ, List, [], ◌∷◌, ◌++◌}
use Rattle.format.specs.Policy.{Policy}
use Rattle.weights.specs.Weights.{Ops}
use Rattle.meaning.specs.Leaves.{Action, Cell, Each}
use Rattle.meaning.specs.Diagrams.{Diagram, Leaf, Node}
use Rattle.meaning.specs.Constructions.{equal_tests, off}
use Rattle.meaning.proofs.Gathering.{choice_both}
use Rattle.requests.specs.Requests.{Request, node, leaf_records, Records}
use Rattle.requests.specs.Rules.{Narrows, narrows_leaf, narrows_yes, narrows_no, narrows_both, Makes, makes_no, makes_node, At, at_root, at_other, Joins, joins_leaves, joins_split, Chooses, chooses_here, chooses_same_field, chooses_other_field, Prefixes, prefixes_leaf, prefixes_yes, prefixes_no, prefixes_both, Follows, follows_none, follows_next, Sequences, sequences_leaf, sequences_node, pass_cells, Negates, negates_drop, negates_pass, negates_other, negates_node, Rounds, rounds_end, rounds_on, Stars, stars_rounds, Compiled, compiled_drop, compiled_pass, compiled_test, compiled_set, compiled_cost, compiled_not, compiled_union, compiled_sequence, compiled_star}

module _ (H : Request → Type 0) where
  pub two : (a b : List Request) → Each H (a ++ b) → Each H a × Each H b
  two [] b h = (tt, h)
  two (q ∷ a) b h = let x = two a b h.1 in ((h.0, x.0), x.1)

  pub three : (a b c : List Request) → Each H (a ++ (b ++ c)) → Each H a × Each H b × Each H c
  three a b c h =
      let x = two a (b ++ c) h in
      let y = two b c x.1 in
      (x.0, y.0, y.1)

  pub five : (a b c d e : List Request) → Each H (a ++ (b ++ (c ++ (d ++ e)))) → Each H a × Each H b × Each H c × Each H d × Each H e
  five a b c d e h =
      let x = two a (b ++ (c ++ (d ++ e))) h in
      let y = two b (c ++ (d ++ e)) x.1 in
      let z = three c d e y.1 in
      (x.0, y.0, z.0, z.1, z.2)

  pub off_hold : (d : Diagram) (f n : ℕ) → Records H d → Records H (off d f n)
  off_hold (Leaf l) f n k = k
  off_hold (Node g m y z) f n k = choice_both (Records H) (equal_tests g m f n) z (Node g m y z) (λ e. k.2) (λ e. k)

module _ {o : Ops} (H : Request → Type 0) where
  mutual
    pub narrows_hold : {d : Diagram} {f n : ℕ} {r : Diagram} {a : List Request} → Narrows o d f n r a → Each H a → Records H d → Records H r
    narrows_hold narrows_leaf h k = h
    narrows_hold (narrows_yes p q) h k = k.1
    narrows_hold (narrows_no p q s) h k = narrows_hold s h k.2
    narrows_hold (narrows_both {a = a} {b = b} {c = c} p s t m) h k =
        let x = three H a b c h in
        makes_hold m x.2 (narrows_hold s x.0 k.1) (narrows_hold t x.1 k.2)

    pub makes_hold : {f n : ℕ} {y z r : Diagram} {a : List Request} → Makes o f n y z r a → Each H a → Records H y → Records H z → Records H r
    makes_hold (makes_no s t e) h k j = j
    makes_hold (makes_node {f} {n} {z = z} {v = v} {a = a} {b = b} s t e) h k j =
        let x = three H a b (node f n v z ∷ []) h in
        (x.2.0, narrows_hold s x.0 k, j)

  pub at_hold : {d : Diagram} {f n : ℕ} {r : Diagram} {a : List Request} → At o d f n r a → Each H a → Records H d → Records H r
  at_hold (at_root p q) h k = k.1
  at_hold (at_other e s) h k = narrows_hold s h k

  pub joins_hold : {d e r : Diagram} {a : List Request} → Joins o d e r a → Each H a → Records H d → Records H e → Records H r
  joins_hold joins_leaves h k j = h
  joins_hold (joins_split {d} {e} {f = f} {n = n} {a = a} {b = b} {c = c} {g = g} {h = w} t p q i i' m) h k j =
      let x = five H a b c g w h in
      makes_hold m x.4 (joins_hold i x.2 (at_hold p x.0 k) (at_hold q x.1 j)) (joins_hold i' x.3 (off_hold H d f n k) (off_hold H e f n j))

  pub chooses_hold : {f n : ℕ} {y z r : Diagram} {a : List Request} → Chooses o f n y z r a → Each H a → Records H y → Records H z → Records H r
  chooses_hold {f} {n} (chooses_here {z = z} t m) h k j = makes_hold m h k (off_hold H z f n j)
  chooses_hold (chooses_same_field {y} {z} {g = g} {m = v} {a = a} {b = b} {c = c} t p q i i' m) h k j =
      let x = three H a b c h in
      makes_hold m x.2 (at_hold i x.0 j) (chooses_hold i' x.1 (off_hold H y g v k) (off_hold H z g v j))
  chooses_hold (chooses_other_field {y} {z} {g = g} {m = v} {a = a} {b = b} {c = c} {h = u} {k = w} t p s s' i i' m) h k j =
      let x = five H a b c u w h in
      makes_hold m x.4 (chooses_hold i x.2 (at_hold s x.0 k) (at_hold s' x.1 j)) (chooses_hold i' x.3 (off_hold H y g v k) (off_hold H z g v j))

  pub prefixes_hold : {s : Action} {w : ℕ} {d r : Diagram} {a : List Request} → Prefixes o s w d r a → Each H a → Records H d → Records H r
  prefixes_hold prefixes_leaf h k = h
  prefixes_hold (prefixes_yes e q p) h k = prefixes_hold p h k.1
  prefixes_hold (prefixes_no e q p) h k = prefixes_hold p h k.2
  prefixes_hold (prefixes_both {a = a} {b = b} {c = c} e p q m) h k =
      let x = three H a b c h in
      makes_hold m x.2 (prefixes_hold p x.0 k.1) (prefixes_hold q x.1 k.2)

  pub follows_hold : {e d r : Diagram} {l : List Cell} {a : List Request} → Follows o e d l r a → Each H a → Records H e → Records H d → Records H r
  follows_hold follows_none h j k = k
  follows_hold (follows_next {a = a} {b = b} {g = g} p i f) h j k =
      let x = three H a b g h in
      follows_hold f x.2 j (joins_hold i x.1 k (prefixes_hold p x.0 j))

  pub sequences_hold : {e d r : Diagram} {a : List Request} → Sequences o e d r a → Each H a → Records H e → Records H d → Records H r
  sequences_hold (sequences_leaf f) h j k = follows_hold f h j tt
  sequences_hold (sequences_node {a = a} {b = b} {c = c} p q i) h j k =
      let x = three H a b c h in
      chooses_hold i x.2 (sequences_hold p x.0 j k.1) (sequences_hold q x.1 j k.2)

  pub negates_hold : {d r : Diagram} {a : List Request} → Negates o d r a → Each H a → Records H d → Records H r
  negates_hold (negates_drop e) h k = h
  negates_hold (negates_pass p e) h k = tt
  negates_hold (negates_other p q) h k = h
  negates_hold (negates_node {a = a} {b = b} {c = c} p q m) h k =
      let x = three H a b c h in
      makes_hold m x.2 (negates_hold p x.0 k.1) (negates_hold q x.1 k.2)

  pub rounds_hold : {d s r : Diagram} {a : List Request} → Rounds o d s r a → Each H a → Each H (leaf_records (pass_cells o)) → Records H d → Records H s → Records H r
  rounds_hold (rounds_end p j e) h u k i = i
  rounds_hold (rounds_on {a = a} {b = b} {c = c} p j e f) h u k i =
      let x = three H a b c h in
      rounds_hold f x.2 u k (joins_hold j x.1 u (sequences_hold p x.0 i k))

  pub stars_hold : {d r : Diagram} {a : List Request} → Stars o d r a → Each H a → Records H d → Records H r
  stars_hold (stars_rounds {a = a} f) h k =
      let x = two H (leaf_records (pass_cells o)) a h in
      rounds_hold f x.1 x.0 k x.0

  pub compiled_hold : {p : Policy} {r : Diagram} {a : List Request} → Compiled o p r a → Each H a → Records H r
  compiled_hold compiled_drop h = tt
  compiled_hold compiled_pass h = h
  compiled_hold (compiled_test {f} {n}) h =
      let x = two H (leaf_records (pass_cells o)) (node f n (Leaf (pass_cells o)) (Leaf []) ∷ []) h in
      (x.1.0, x.0, tt)
  compiled_hold compiled_set h = h
  compiled_hold compiled_cost h = h
  compiled_hold (compiled_not {a = a} {b = b} p n) h = let x = two H a b h in negates_hold n x.1 (compiled_hold p x.0)
  compiled_hold (compiled_union {a = a} {b = b} {c = c} p q j) h = let x = three H a b c h in joins_hold j x.2 (compiled_hold p x.0) (compiled_hold q x.1)
  compiled_hold (compiled_sequence {a = a} {b = b} {c = c} p q s) h = let x = three H a b c h in sequences_hold s x.2 (compiled_hold q x.1) (compiled_hold p x.0)
  compiled_hold (compiled_star {a = a} {b = b} p s) h = let x = two H a b h in stars_hold s x.1 (compiled_hold p x.0)
