-- The constructions on diagrams, rule by rule: each gives a diagram and every record that it requests.
-- A leaf that a rule gives is requested as a whole, and only once it is collected.
use Rattle.std.specs.Prelude.{◌≡◌, ℕ, ◌≢◌, List, [], ◌∷◌, ◌++◌, map, Some, None, slice_index_or, slice_set}
use Rattle.format.specs.Actions.{narrow_action, keep_all}
use Rattle.format.specs.Policy.{Policy, Drop, Pass, Test, Set, Cost, Not, Union, Sequence, Star}
use Rattle.weights.specs.Weights.{Ops}
use Rattle.meaning.specs.Leaves.{Action, Cell, enter, collect}
use Rattle.meaning.specs.Diagrams.{Diagram, Leaf, Node}
use Rattle.meaning.specs.Constructions.{Tested, root, earlier, first_root, off, prefix_cell}
use Rattle.requests.specs.Requests.{Request, node, leaf_records}

-- where field f holds n, an action that sets f to n keeps f instead
abbrev pub narrow_one : ℕ → ℕ → Cell → Cell
narrow_one f n c = (narrow_action c.0 f n, c.1)

-- the leaf where field f holds n, collected
abbrev pub narrow_leaf : Ops → List Cell → ℕ → ℕ → List Cell
narrow_leaf o l f n = collect o (map (narrow_one f n) l)

mutual
  -- Narrows o d f n r asks: d for frames whose field f holds n is r
  pub data Narrows (o : Ops) : Diagram → ℕ → ℕ → Diagram → List Request → Type 0 where
    narrows_leaf : {l : List Cell} {f n : ℕ} → Narrows o (Leaf l) f n (Leaf (narrow_leaf o l f n)) (leaf_records (narrow_leaf o l f n))
    -- a node of this test gives its yes side
    narrows_yes : {g m f n : ℕ} {y z : Diagram} → g ≡ f → m ≡ n → Narrows o (Node g m y z) f n y []
    -- a node of the field with another value gives its no side, narrowed
    narrows_no : {g m f n : ℕ} {y z r : Diagram} {a : List Request} → g ≡ f → m ≢ n → Narrows o z f n r a → Narrows o (Node g m y z) f n r a
    -- a node of another field is made from both sides, narrowed
    narrows_both : {g m f n : ℕ} {y z v w r : Diagram} {a b c : List Request} → g ≢ f → Narrows o y f n v a → Narrows o z f n w b → Makes o g m v w r c → Narrows o (Node g m y z) f n r (a ++ (b ++ c))

  -- Makes o f n y z r asks: y where field f holds n, else z, is r; both sides are narrowed, even if they are the same
  pub data Makes (o : Ops) : ℕ → ℕ → Diagram → Diagram → Diagram → List Request → Type 0 where
    -- narrowed they are the same: the no side, as it was
    makes_no : {f n : ℕ} {y z v w : Diagram} {a b : List Request} → Narrows o y f n v a → Narrows o z f n w b → v ≡ w → Makes o f n y z z (a ++ b)
    -- else the node of the narrowed yes side and the no side, as it was
    makes_node : {f n : ℕ} {y z v w : Diagram} {a b : List Request} → Narrows o y f n v a → Narrows o z f n w b → v ≢ w → Makes o f n y z (Node f n v z) (a ++ (b ++ (node f n v z ∷ [])))

-- At o d f n r asks: r is the yes side of a root (f, n), else d narrowed
pub data At (o : Ops) : Diagram → ℕ → ℕ → Diagram → List Request → Type 0 where
  at_root : {g m f n : ℕ} {y z : Diagram} → g ≡ f → m ≡ n → At o (Node g m y z) f n y []
  at_other : {d r : Diagram} {f n : ℕ} {a : List Request} → root d ≢ Some (f, n) → Narrows o d f n r a → At o d f n r a

-- Joins o d e r asks: r is the union of d and e
pub data Joins (o : Ops) : Diagram → Diagram → Diagram → List Request → Type 0 where
  -- two leaves are collected
  joins_leaves : {l m : List Cell} → Joins o (Leaf l) (Leaf m) (Leaf (collect o (l ++ m))) (leaf_records (collect o (l ++ m)))
  -- else the smaller root test makes it from the joins at the test and off it
  joins_split :
      {d e v w y z r : Diagram} {f n : ℕ} {a b c g h : List Request} →
      first_root (root d) (root e) ≡ Some (f, n) →
      At o d f n v a →
      At o e f n w b →
      Joins o v w y c →
      Joins o (off d f n) (off e f n) z g →
      Makes o f n y z r h →
      Joins o d e r (a ++ (b ++ (c ++ (g ++ h))))

-- the least of the test (f, n) and the root tests of y and z
abbrev pub least_test : ℕ → ℕ → Diagram → Diagram → Tested
least_test f n y z = earlier (earlier (f, n) (root y)) (root z)

-- Chooses o f n y z r asks: r is y where field f holds n, else z
pub data Chooses (o : Ops) (f n : ℕ) : Diagram → Diagram → Diagram → List Request → Type 0 where
  -- the test itself is the least
  chooses_here : {y z r : Diagram} {a : List Request} → least_test f n y z ≡ (f, n) → Makes o f n y (off z f n) r a → Chooses o f n y z r a
  -- the least is another value of the field: there the test fails
  chooses_same_field :
      {y z w x r : Diagram} {g m : ℕ} {a b c : List Request} →
      least_test f n y z ≡ (g, m) →
      g ≡ f →
      m ≢ n →
      At o z g m w a →
      Chooses o f n (off y g m) (off z g m) x b →
      Makes o g m w x r c →
      Chooses o f n y z r (a ++ (b ++ c))
  -- the least is of another field: the choice is made at it and off it
  chooses_other_field :
      {y z v w u x r : Diagram} {g m : ℕ} {a b c h k : List Request} →
      least_test f n y z ≡ (g, m) →
      g ≢ f →
      At o y g m v a →
      At o z g m w b →
      Chooses o f n v w u c →
      Chooses o f n (off y g m) (off z g m) x h →
      Makes o g m u x r k →
      Chooses o f n y z r (a ++ (b ++ (c ++ (h ++ k))))

-- the leaf with action s before each action and w times each weight, collected
abbrev pub prefix_leaf : Ops → Action → ℕ → List Cell → List Cell
prefix_leaf o s w l = collect o (map (prefix_cell o s w) l)

-- Prefixes o s w d r asks: r is the action s with weight w, and then d
pub data Prefixes (o : Ops) (s : Action) (w : ℕ) : Diagram → Diagram → List Request → Type 0 where
  prefixes_leaf : {l : List Cell} → Prefixes o s w (Leaf l) (Leaf (prefix_leaf o s w l)) (leaf_records (prefix_leaf o s w l))
  -- the action sets the field to the node's value: the yes side's
  prefixes_yes : {f n m : ℕ} {y z r : Diagram} {a : List Request} → slice_index_or s f None ≡ Some m → m ≡ n → Prefixes o s w y r a → Prefixes o s w (Node f n y z) r a
  -- to another value: the no side's
  prefixes_no : {f n m : ℕ} {y z r : Diagram} {a : List Request} → slice_index_or s f None ≡ Some m → m ≢ n → Prefixes o s w z r a → Prefixes o s w (Node f n y z) r a
  -- it keeps the field: made from both
  prefixes_both :
      {f n : ℕ} {y z u v r : Diagram} {a b c : List Request} →
      slice_index_or s f None ≡ None →
      Prefixes o s w y u a →
      Prefixes o s w z v b →
      Makes o f n u v r c →
      Prefixes o s w (Node f n y z) r (a ++ (b ++ c))

-- Follows o e d l r asks: r is d joined with the prefix of e for each cell of l, in order
pub data Follows (o : Ops) (e : Diagram) : Diagram → List Cell → Diagram → List Request → Type 0 where
  follows_none : {d : Diagram} → Follows o e d [] d []
  follows_next :
      {d p j r : Diagram} {c : Cell} {l : List Cell} {a b g : List Request} →
      Prefixes o c.0 c.1 e p a →
      Joins o d p j b →
      Follows o e j l r g →
      Follows o e d (c ∷ l) r (a ++ (b ++ g))

-- Sequences o e d r asks: r is d and then e
pub data Sequences (o : Ops) (e : Diagram) : Diagram → Diagram → List Request → Type 0 where
  -- a leaf starts with drop
  sequences_leaf : {l : List Cell} {r : Diagram} {a : List Request} → Follows o e (Leaf []) l r a → Sequences o e (Leaf l) r a
  sequences_node :
      {f n : ℕ} {y z v w r : Diagram} {a b c : List Request} →
      Sequences o e y v a →
      Sequences o e z w b →
      Chooses o f n v w r c →
      Sequences o e (Node f n y z) r (a ++ (b ++ c))

-- one cell, or none if its weight is zero
abbrev pub one_cell : Ops → Action → ℕ → List Cell
one_cell o s w = enter o s w []

-- the leaf pass
abbrev pub pass_cells : Ops → List Cell
pass_cells o = one_cell o keep_all o.one

-- Negates o d r asks: r is d with drop and pass exchanged, each node made again
pub data Negates (o : Ops) : Diagram → Diagram → List Request → Type 0 where
  negates_drop : {l : List Cell} → l ≡ [] → Negates o (Leaf l) (Leaf (pass_cells o)) (leaf_records (pass_cells o))
  negates_pass : {l : List Cell} → l ≢ [] → l ≡ pass_cells o → Negates o (Leaf l) (Leaf []) []
  -- no predicate has another leaf; it would stay
  negates_other : {l : List Cell} → l ≢ [] → l ≢ pass_cells o → Negates o (Leaf l) (Leaf l) (leaf_records l)
  negates_node :
      {f n : ℕ} {y z v w r : Diagram} {a b c : List Request} →
      Negates o y v a →
      Negates o z w b →
      Makes o f n v w r c →
      Negates o (Node f n y z) r (a ++ (b ++ c))

-- Rounds o d s r asks: the rounds of star after s, each the join of pass and the sequence of d and the last, end with r
pub data Rounds (o : Ops) (d : Diagram) : Diagram → Diagram → List Request → Type 0 where
  -- the next equals the last; its records are requested too
  rounds_end :
      {s q t : Diagram} {a b : List Request} →
      Sequences o s d q a →
      Joins o (Leaf (pass_cells o)) q t b →
      t ≡ s →
      Rounds o d s s (a ++ b)
  rounds_on :
      {s q t r : Diagram} {a b c : List Request} →
      Sequences o s d q a →
      Joins o (Leaf (pass_cells o)) q t b →
      t ≢ s →
      Rounds o d t r c →
      Rounds o d s r (a ++ (b ++ c))

-- Stars o d r asks: r is the last of the rounds that begin with pass
pub data Stars (o : Ops) : Diagram → Diagram → List Request → Type 0 where
  stars_rounds : {d r : Diagram} {a : List Request} → Rounds o d (Leaf (pass_cells o)) r a → Stars o d r (leaf_records (pass_cells o) ++ a)

-- Compiled o p r asks: r is the diagram of the policy p
pub data Compiled (o : Ops) : Policy → Diagram → List Request → Type 0 where
  compiled_drop : Compiled o Drop (Leaf []) []
  compiled_pass : Compiled o Pass (Leaf (pass_cells o)) (leaf_records (pass_cells o))
  -- the node with yes pass and no drop
  compiled_test :
      {f n : ℕ} →
      Compiled o (Test f n) (Node f n (Leaf (pass_cells o)) (Leaf [])) (leaf_records (pass_cells o) ++ (node f n (Leaf (pass_cells o)) (Leaf []) ∷ []))
  compiled_set :
      {f n : ℕ} →
      Compiled o (Set f n) (Leaf (one_cell o (slice_set keep_all f (Some n)) o.one)) (leaf_records (one_cell o (slice_set keep_all f (Some n)) o.one))
  compiled_cost : {n : ℕ} → Compiled o (Cost n) (Leaf (one_cell o keep_all (o.cost n))) (leaf_records (one_cell o keep_all (o.cost n)))
  compiled_not : {p : Policy} {d r : Diagram} {a b : List Request} → Compiled o p d a → Negates o d r b → Compiled o (Not p) r (a ++ b)
  compiled_union :
      {p q : Policy} {d e r : Diagram} {a b c : List Request} →
      Compiled o p d a →
      Compiled o q e b →
      Joins o d e r c →
      Compiled o (Union p q) r (a ++ (b ++ c))
  compiled_sequence :
      {p q : Policy} {d e r : Diagram} {a b c : List Request} →
      Compiled o p d a →
      Compiled o q e b →
      Sequences o e d r c →
      Compiled o (Sequence p q) r (a ++ (b ++ c))
  compiled_star : {p : Policy} {d r : Diagram} {a b : List Request} → Compiled o p d a → Stars o d r b → Compiled o (Star p) r (a ++ b)
