-- The rules give a diagram for all operands, well-formed or not. Assumes nothing.
use Rattle.std.proofs.Common.{◌≡◌, ℕ, zero, suc, ◌+◌, ◌<◌, ◌≤◌, ◌≢◌, ◌⊎◌, List, [], ◌∷◌, get_or, Some, None, Option, sym, refl, subst₂, inl, inr, arith}
use Rattle.weights.specs.Weights.{Ops}
use Rattle.meaning.specs.Decide.{choice, decide, equal_lists}
use Rattle.meaning.specs.Leaves.{Action, Cell}
use Rattle.meaning.specs.Diagrams.{Diagram, Leaf, Node, equal_cells, equal_diagrams, extent}
use Rattle.meaning.specs.Constructions.{equal_tests, off}
use Rattle.meaning.proofs.Splitting.{after_unlike, Rooted, Heads, leaves, split, heads}
use Rattle.meaning.proofs.Joining.{Least, own, other, least}
use Rattle.requests.specs.Requests.{Request}
use Rattle.requests.specs.Rules.{Narrows, narrows_leaf, narrows_yes, narrows_no, narrows_both, Makes, makes_no, makes_node, At, at_root, at_other, Joins, joins_leaves, joins_split, Chooses, chooses_here, chooses_same_field, chooses_other_field, Prefixes, prefixes_leaf, prefixes_yes, prefixes_no, prefixes_both, Follows, follows_none, follows_next, Sequences, sequences_leaf, sequences_node, pass_cells, Negates, negates_drop, negates_pass, negates_other, negates_node}
use Rattle.requests.specs.Claims.{AtLeastOne}
use Rattle.requests.proofs.Joined.{not_root}

-- a diagram by the rules R, of at most so many parts
abbrev Within : ℕ → (Diagram → List Request → Type 0) → Type 0
Within k R = (r : Diagram) × (a : List Request) × R r a × (extent r ≤ k)

positive : (d : Diagram) → 1 ≤ extent d
positive (Leaf l) = omega arith
positive (Node f n y z) = omega arith

module _ (o : Ops) where
  abbrev NarrowsUpTo : ℕ → Type 0
  NarrowsUpTo k = (d : Diagram) (f n : ℕ) → extent d ≤ k → Within (extent d) (Narrows o d f n)

  make_total_by : (k : ℕ) → NarrowsUpTo k → (f n : ℕ) (y z : Diagram) → extent y ≤ k → extent z ≤ k → Within (1 + (extent y + extent z)) (Makes o f n y z)
  make_total_by k ih f n y z i j = go (ih y f n i) (ih z f n j)
    where
      go : Within (extent y) (Narrows o y f n) → Within (extent z) (Narrows o z f n) → Within (1 + (extent y + extent z)) (Makes o f n y z)
      go (v, a, p, s) (w, b, q, t) = made (equal_diagrams v w)
        where
          made : Dec (v ≡ w) → Within (1 + (extent y + extent z)) (Makes o f n y z)
          made (yes e) = (z, _, makes_no p q e, omega arith)
          made (no h) = (Node f n v z, _, makes_node p q h, omega arith)

  narrow_node_total : (k : ℕ) → NarrowsUpTo k → (g m : ℕ) (y z : Diagram) (f n : ℕ) → extent y + extent z ≤ k → Within (1 + (extent y + extent z)) (Narrows o (Node g m y z) f n)
  narrow_node_total k ih g m y z f n b = go (decide g f) (decide m n)
    where
      left : extent y ≤ k
      left = omega arith

      right : extent z ≤ k
      right = omega arith

      no_side : g ≡ f → m ≢ n → Within (extent z) (Narrows o z f n) → Within (1 + (extent y + extent z)) (Narrows o (Node g m y z) f n)
      no_side e h (r, a, p, s) = (r, a, narrows_no e h p, omega arith)

      both_sides : g ≢ f → Within (extent y) (Narrows o y f n) → Within (extent z) (Narrows o z f n) → Within (1 + (extent y + extent z)) (Narrows o (Node g m y z) f n)
      both_sides h (v, a, p, s) (w, c, q, t) = finish (make_total_by k ih g m v w (omega arith) (omega arith))
        where
          finish : Within (1 + (extent v + extent w)) (Makes o g m v w) → Within (1 + (extent y + extent z)) (Narrows o (Node g m y z) f n)
          finish (r, u, x, i) = (r, _, narrows_both h p q x, omega arith)

      go : Dec (g ≡ f) → Dec (m ≡ n) → Within (1 + (extent y + extent z)) (Narrows o (Node g m y z) f n)
      go (yes e) (yes q) = (y, [], narrows_yes e q, omega arith)
      go (yes e) (no h) = no_side e h (ih z f n right)
      go (no h) q = both_sides h (ih y f n left) (ih z f n right)

  narrow_total_by : (k : ℕ) → NarrowsUpTo k
  narrow_total_by zero d f n b = absurd (none (positive d) b)
    where
      none : 1 ≤ extent d → extent d ≤ 0 → ⊥
      none i j = omega arith
  narrow_total_by (suc k) (Leaf l) f n b = (_, _, narrows_leaf, omega arith)
  narrow_total_by (suc k) (Node g m y z) f n b = narrow_node_total k (narrow_total_by k) g m y z f n (within b)
    where
      within : 1 + (extent y + extent z) ≤ suc k → extent y + extent z ≤ k
      within c = omega arith

  narrow_small : (d : Diagram) (f n : ℕ) → Within (extent d) (Narrows o d f n)
  narrow_small d f n = narrow_total_by (extent d) d f n (self (extent d))
    where
      self : (k : ℕ) → k ≤ k
      self k = omega arith

  pub narrow_total : (d : Diagram) (f n : ℕ) → AtLeastOne (Narrows o d f n)
  narrow_total d f n = let r = narrow_small d f n in (r.0, r.1, r.2)

  pub make_total : (f n : ℕ) (y z : Diagram) → AtLeastOne (Makes o f n y z)
  make_total f n y z =
      let r = make_total_by (extent y + extent z) (narrow_total_by (extent y + extent z)) f n y z (left (extent y) (extent z)) (right (extent y) (extent z)) in
      (r.0, r.1, r.2)
    where
      left : (i j : ℕ) → i ≤ i + j
      left i j = omega arith

      right : (i j : ℕ) → j ≤ i + j
      right i j = omega arith

  -- smaller than d, if the test is d's root
  abbrev Less : ℕ → ℕ → Diagram → Diagram → Type 0
  Less f n d r = (extent r ≤ extent d) × (Rooted f n d → extent r < extent d)

  at_total : (f n : ℕ) (d : Diagram) → (r : Diagram) × (a : List Request) × At o d f n r a × Less f n d r
  at_total f n (Leaf l) = let r = narrow_small (Leaf l) f n in (r.0, r.1, at_other (not_root f n (Leaf l) tt) r.2, (r.3, λ e. absurd e))
  at_total f n (Node g m y z) = go (equal_tests g m f n) (narrow_small (Node g m y z) f n)
    where
      go : Dec ((g ≡ f) × (m ≡ n)) → Within (1 + (extent y + extent z)) (Narrows o (Node g m y z) f n) → (r : Diagram) × (a : List Request) × At o (Node g m y z) f n r a × Less f n (Node g m y z) r
      go (yes e) w = (y, [], at_root e.0 e.1, (omega arith, λ q. smaller (extent y) (extent z)))
        where
          smaller : (i j : ℕ) → i < 1 + (i + j)
          smaller i j = omega arith
      go (no h) (r, a, p, s) = (r, a, at_other (not_root f n (Node g m y z) h) p, (s, λ q. absurd (h q)))

  off_less : (f n : ℕ) (d : Diagram) → Less f n d (off d f n)
  off_less f n (Leaf l) = (omega arith, λ e. absurd e)
  off_less f n (Node g m y z) = go (equal_tests g m f n)
    where
      smaller : (i j : ℕ) → j < 1 + (i + j)
      smaller i j = omega arith

      go : (δ : Dec ((g ≡ f) × (m ≡ n))) → Less f n (Node g m y z) (choice δ z (Node g m y z))
      go (yes e) = (omega arith, λ q. smaller (extent y) (extent z))
      go (no h) = (omega arith, λ q. absurd (h q))

  -- two that are less, with the test the root of one
  less_both : (f n k : ℕ) (d e v w : Diagram) → Rooted f n d ⊎ Rooted f n e → Less f n d v → Less f n e w → extent d + extent e ≤ suc k → extent v + extent w ≤ k
  less_both f n k d e v w (inl r) (p, p') (q, q') b = go (p' r)
    where
      go : extent v < extent d → extent v + extent w ≤ k
      go i = omega arith
  less_both f n k d e v w (inr r) (p, p') (q, q') b = go (q' r)
    where
      go : extent w < extent e → extent v + extent w ≤ k
      go i = omega arith

  no_parts : {A : Type 0} (d e : Diagram) → extent d + extent e ≤ 0 → A
  no_parts d e b = absurd (none (positive d) b)
    where
      none : 1 ≤ extent d → extent d + extent e ≤ 0 → ⊥
      none i j = omega arith

  join_total_by : (k : ℕ) (d e : Diagram) → extent d + extent e ≤ k → AtLeastOne (Joins o d e)
  join_total_by zero d e b = no_parts d e b
  join_total_by (suc k) d e b = go (heads d e) (join_total_by k)
    where
      go : Heads d e → ((v w : Diagram) → extent v + extent w ≤ k → AtLeastOne (Joins o v w)) → AtLeastOne (Joins o d e)
      go (leaves l m i j c) ih = subst₂ (λ (x y : Diagram). AtLeastOne (Joins o x y)) (sym i) (sym j) (_, _, joins_leaves)
      go (split f n c i j r) ih = at_both (at_total f n d) (at_total f n e)
        where
          at_both : (v : Diagram) × (a : List Request) × At o d f n v a × Less f n d v → (w : Diagram) × (a : List Request) × At o e f n w a × Less f n e w → AtLeastOne (Joins o d e)
          at_both (v, a, p, s) (w, a', q, t) = joined (ih v w (less_both f n k d e v w r s t b)) (ih (off d f n) (off e f n) (less_both f n k d e (off d f n) (off e f n) r (off_less f n d) (off_less f n e) b))
            where
              joined : AtLeastOne (Joins o v w) → AtLeastOne (Joins o (off d f n) (off e f n)) → AtLeastOne (Joins o d e)
              joined (y, c', x) (z, g, x') = let M = make_total f n y z in (M.0, _, joins_split c p q x x' M.2)

  pub join_total : (d e : Diagram) → AtLeastOne (Joins o d e)
  join_total d e = join_total_by (extent d + extent e) d e (self (extent d + extent e))
    where
      self : (k : ℕ) → k ≤ k
      self k = omega arith

  choose_total_by : (k f n : ℕ) (y z : Diagram) → extent y + extent z ≤ k → AtLeastOne (Chooses o f n y z)
  choose_total_by zero f n y z b = no_parts y z b
  choose_total_by (suc k) f n y z b = go (least f n y z) (choose_total_by k f n)
    where
      go : Least f n y z → ((v w : Diagram) → extent v + extent w ≤ k → AtLeastOne (Chooses o f n v w)) → AtLeastOne (Chooses o f n y z)
      go (own e i j) ih = let M = make_total f n y (off z f n) in (M.0, M.1, chooses_here e M.2)
      go (other g m e s i j r) ih = inner (decide g f) (at_total g m y) (at_total g m z) (ih (off y g m) (off z g m) (less_both g m k y z (off y g m) (off z g m) r (off_less g m y) (off_less g m z) b))
        where
          inner : Dec (g ≡ f) → (v : Diagram) × (a : List Request) × At o y g m v a × Less g m y v → (w : Diagram) × (a : List Request) × At o z g m w a × Less g m z w → AtLeastOne (Chooses o f n (off y g m) (off z g m)) → AtLeastOne (Chooses o f n y z)
          inner (yes h) (v, a, p, t) (w, a', q, t') (x, c, X) =
              let M = make_total g m w x in
              (M.0, _, chooses_same_field e h (λ u. after_unlike g m f n s (sym h) (sym u)) q X M.2)
          inner (no h) (v, a, p, t) (w, a', q, t') (x, c, X) =
              let B = ih v w (less_both g m k y z v w r t t' b) in
              let M = make_total g m B.0 x in
              (M.0, _, chooses_other_field e h p q B.2 X M.2)

  pub choose_total : (f n : ℕ) (y z : Diagram) → AtLeastOne (Chooses o f n y z)
  choose_total f n y z = choose_total_by (extent y + extent z) f n y z (self (extent y + extent z))
    where
      self : (k : ℕ) → k ≤ k
      self k = omega arith

  pub prefix_total : (s : Action) (w : ℕ) (d : Diagram) → AtLeastOne (Prefixes o s w d)
  prefix_total s w (Leaf l) = (_, _, prefixes_leaf)
  prefix_total s w (Node f n y z) = go (get_or s f None) refl (prefix_total s w y) (prefix_total s w z)
    where
      go : (x : Option ℕ) → get_or s f None ≡ x → AtLeastOne (Prefixes o s w y) → AtLeastOne (Prefixes o s w z) → AtLeastOne (Prefixes o s w (Node f n y z))
      go None e (u, a, p) (v, b, q) = let M = make_total f n u v in (M.0, _, prefixes_both e p q M.2)
      go (Some m) e (u, a, p) (v, b, q) = side (decide m n)
        where
          side : Dec (m ≡ n) → AtLeastOne (Prefixes o s w (Node f n y z))
          side (yes h) = (u, a, prefixes_yes e h p)
          side (no h) = (v, b, prefixes_no e h q)

  pub follow_total : (e : Diagram) (l : List Cell) (d : Diagram) → AtLeastOne (Follows o e d l)
  follow_total e [] d = (d, [], follows_none)
  follow_total e (c ∷ l) d =
      let P = prefix_total c.0 c.1 e in
      let J = join_total d P.0 in
      let F = follow_total e l J.0 in
      (F.0, _, follows_next P.2 J.2 F.2)

  pub sequence_total : (e d : Diagram) → AtLeastOne (Sequences o e d)
  sequence_total e (Leaf l) = let F = follow_total e l (Leaf []) in (F.0, F.1, sequences_leaf F.2)
  sequence_total e (Node f n y z) =
      let P = sequence_total e y in
      let Q = sequence_total e z in
      let C = choose_total f n P.0 Q.0 in
      (C.0, _, sequences_node P.2 Q.2 C.2)

  pub negate_total : (d : Diagram) → AtLeastOne (Negates o d)
  negate_total (Leaf l) = go (equal_lists equal_cells l []) (equal_lists equal_cells l (pass_cells o))
    where
      go : Dec (l ≡ []) → Dec (l ≡ pass_cells o) → AtLeastOne (Negates o (Leaf l))
      go (yes e) δ = (_, _, negates_drop e)
      go (no h) (yes e) = (_, _, negates_pass h e)
      go (no h) (no k) = (_, _, negates_other h k)
  negate_total (Node f n y z) =
      let P = negate_total y in
      let Q = negate_total z in
      let M = make_total f n P.0 Q.0 in
      (M.0, _, negates_node P.2 Q.2 M.2)
