-- Constructions that give an operand back, and request nothing that is not held. Assumes nothing.
use Rattle.std.proofs.Common.{◌≡◌, Bool, true, false, true≢false, ℕ, zero, suc, ◌≢◌, List, [], ◌∷◌, ◌++◌, map, length, get_or, replicate, Some, None, Option, sym, refl, ap, ap₂, ◌∙◌, subst, subst₂, arith}
use Rattle.std.proofs.lemmas.List.{append-nil}
use Rattle.format.specs.Fields.{fields}
use Rattle.format.specs.Actions.{last_set, compose, keep_all}
use Rattle.weights.specs.Weights.{Ops, Laws, Weight}
use Rattle.meaning.specs.Decide.{decide, three, Tri, below, level, above}
use Rattle.meaning.specs.Leaves.{Action, Cell, Each, CellFormed, LeafFormed, collect}
use Rattle.meaning.specs.Diagrams.{Diagram, Leaf, Node, known, narrow, SetsOf, Sets, Unlike}
use Rattle.meaning.specs.Constructions.{Tested, off, equal_tests, order_tests, cells_of, prefix_cell}
use Rattle.meaning.proofs.Gathering.{choice_yes, choice_no, each_map, each_append, Weights, gather_weight, gather_append, gather_collect, chosen_additive, equal_actions}
use Rattle.meaning.proofs.Narrowing.{known_there, known_only, sets_map, cells_all, sets_narrows}
use Rattle.meaning.proofs.Making.{leaf_tidy, leaves_equal, collect_tidy, collect_same, narrows_still}
use Rattle.meaning.proofs.Simple.{keep_formed, keep_sets, single_cells, single_formed}
use Rattle.requests.specs.Requests.{Request, action, cell, node, leaf_records}
use Rattle.requests.specs.Rules.{narrow_leaf, Narrows, narrows_leaf, narrows_yes, narrows_no, narrows_both, Makes, makes_no, makes_node, at_root, at_other, Joins, joins_leaves, joins_split, prefix_leaf, pass_cells, Prefixes, prefixes_leaf, prefixes_both}
use Rattle.requests.specs.Claims.{Construction}
use Rattle.requests.specs.Again.{Free, Again, Remade, RecordRemade}
use Rattle.requests.proofs.Acting.{narrow_of_leaf}
use Rattle.requests.proofs.Unique.{none_some}

-- every leaf of the diagram is well-formed and held, and every node makes itself again
abbrev pub Settled : Ops → (Request → Type 0) → Diagram → Type 0
Settled o H (Leaf l) = LeafFormed o l × Each H (leaf_records l)
Settled o H (Node f n y z) = Remade o H f n y z × Settled o H y × Settled o H z

-- where more is held it stays so
module _ {H H' : Request → Type 0} (more : (q : Request) → H q → H' q) where
  pub again_more : {R : Construction} {r : Diagram} → Again H R r → Again H' R r
  again_more a = record { asks = a.asks; by_the_rules = a.by_the_rules; held = each_map more a.asks a.held }

  pub remade_more : {o : Ops} {f n : ℕ} {y z : Diagram} → Remade o H f n y z → Remade o H' f n y z
  remade_more r = record { yes_free = r.yes_free; again = again_more r.again }

  pub record_more : (o : Ops) (q : Request) → RecordRemade o H q → RecordRemade o H' q
  record_more o (action a) r = r
  record_more o (cell a w l) r = r
  record_more o (node f n y z) r = remade_more r

-- a leaf has no node
pub leaf_remade : (o : Ops) (H : Request → Type 0) (l : List Cell) → Each (RecordRemade o H) (leaf_records l)
leaf_remade o H [] = tt
leaf_remade o H (c ∷ l) = (tt, (tt, leaf_remade o H l))

module _ (H : Request → Type 0) where
  same_leaf : {R : Construction} (l l' : List Cell) → l' ≡ l → R (Leaf l') (leaf_records l') → Each H (leaf_records l) → Again H R (Leaf l)
  same_leaf {R} l l' e r h = record { asks = leaf_records l; by_the_rules = subst (λ (x : List Cell). R (Leaf x) (leaf_records x)) e r; held = h }

  held_three : (a b c : List Request) → Each H a → Each H b → Each H c → Each H (a ++ (b ++ c))
  held_three a b c p q r = each_append H a (b ++ c) p (each_append H b c q r)

all_same : {A B C : Type 0} (t : Tri A B C) (x : Tested) → three t x x x ≡ x
all_same (below a) x = refl
all_same (level a) x = refl
all_same (above a) x = refl

off_root : (f n : ℕ) (y z : Diagram) → off (Node f n y z) f n ≡ z
off_root f n y z = choice_yes (equal_tests f n f n) z (Node f n y z) (refl, refl)

-- leaves

module _ {o : Ops} (L : Laws o) where
  still : (f n : ℕ) (l : List Cell) → LeafFormed o l → Sets (Unlike f n) (Leaf l) → narrow_leaf o l f n ≡ l
  still f n l h u =
      ap cells_of
      (sym (narrow_of_leaf o l f n)
      ∙ narrows_still L (Leaf l) (known f n) h tt (sets_map _ _ (λ g m k e. let r = known_only f n g m e in k r.0 r.1) (Leaf l) u))

  weights_of : (l : List Cell) → LeafFormed o l → Weights o l
  weights_of l h = each_map (λ c k. k.weight) l h.cells

  twice : (l : List Cell) → LeafFormed o l → collect o (l ++ l) ≡ l
  twice l h =
      leaves_equal L (collect o (l ++ l)) l (collect_tidy L (l ++ l) both) (leaf_tidy L l h)
      (λ a. let A = chosen_additive L (λ b. equal_actions b a) in
      gather_collect L A (l ++ l) both ∙ (gather_append L A l l w w ∙ L.join_idempotent _ (gather_weight L A l w)))
    where
      w : Weights o l
      w = weights_of l h

      both : Weights o (l ++ l)
      both = each_append (λ c. Weight o c.1) l l w w

  alone : (l : List Cell) → LeafFormed o l → collect o l ≡ l
  alone l h = collect_same L l (leaf_tidy L l h)

  pass_before : (k : ℕ) (a : Action) → length a ≡ k → compose (replicate k None) a ≡ a
  pass_before zero [] e = refl
  pass_before zero (x ∷ a) e = absurd (clash e)
    where
      clash : suc (length a) ≡ 0 → ⊥
      clash r = omega arith
  pass_before (suc k) [] e = refl
  pass_before (suc k) (x ∷ a) e = ap₂ {C = Action} (λ (u : Option ℕ) (r : Action). u ∷ r) (one x) (pass_before k a (lower e))
    where
      one : (x' : Option ℕ) → last_set None x' ≡ x'
      one None = refl
      one (Some n) = refl

      lower : suc (length a) ≡ suc k → length a ≡ k
      lower r = omega arith

  unchanged : (l : List Cell) → Each (CellFormed o) l → map (prefix_cell o keep_all o.one) l ≡ l
  unchanged [] h = refl
  unchanged (c ∷ l) h =
      ap₂ {C = List Cell} (λ (x : Cell) (m : List Cell). x ∷ m)
      (λ i. (pass_before fields c.0 h.0.action.all_fields i, L.one_neutral_left c.1 h.0.weight i))
      (unchanged l h.1)

  passed : (l : List Cell) → LeafFormed o l → prefix_leaf o keep_all o.one l ≡ l
  passed l h = ap (collect o) (unchanged l h.cells) ∙ alone l h

  -- what narrowing a leaf leaves

  leaf_kept : (f n g m : ℕ) (l : List Cell) → Sets (Unlike f n) (Leaf l) → Sets (Unlike f n) (Leaf (narrow_leaf o l g m))
  leaf_kept f n g m l u =
      subst (Sets (Unlike f n)) (narrow_of_leaf o l g m)
      (sets_map _ _ (λ g' m' k. k.0) (narrow o (Leaf l) g m) (sets_narrows (Unlike f n) L (Leaf l) (known g m) u))

  leaf_freed : (f n : ℕ) (l : List Cell) → Sets (Unlike f n) (Leaf (narrow_leaf o l f n))
  leaf_freed f n l =
      subst (Sets (Unlike f n)) (narrow_of_leaf o l f n)
      (sets_map _ _ (λ g m k e q. k.1 (ap (known f n) e ∙ (known_there f n ∙ ap {B = Option ℕ} Some (sym q)))) (narrow o (Leaf l) f n)
      (sets_narrows (λ g m. Unit {0}) L (Leaf l) (known f n) (cells_all (λ c. SetsOf (λ g m. Unit {0}) c.0) (λ c g m e. tt) (Leaf l))))

  -- what narrowing leaves of a test and a set

  module _ (f n : ℕ) where
    mutual
      narrows_kept : {d : Diagram} {g m : ℕ} {r : Diagram} {a : List Request} → Narrows o d g m r a → Free f n d → Free f n r
      narrows_kept (narrows_leaf {l = l} {f = g} {n = m}) t = (tt, leaf_kept f n g m l t.1)
      narrows_kept (narrows_yes p q) t = (t.0.1, t.1.0)
      narrows_kept (narrows_no p q s) t = narrows_kept s (t.0.2, t.1.1)
      narrows_kept (narrows_both h s s' k) t = makes_kept t.0.0 k (narrows_kept s (t.0.1, t.1.0)) (narrows_kept s' (t.0.2, t.1.1))

      makes_kept : {g m : ℕ} {y z r : Diagram} {a : List Request} → g ≢ f → Makes o g m y z r a → Free f n y → Free f n z → Free f n r
      makes_kept h (makes_no s s' e) t u = u
      makes_kept h (makes_node s s' e) t u = let v = narrows_kept s t in ((h, v.0, u.0), (v.1, u.1))

    narrows_free : (H : Request → Type 0) {d r : Diagram} {a : List Request} → Narrows o d f n r a → Settled o H d → Free f n r
    narrows_free H (narrows_leaf {l}) s = (tt, leaf_freed f n l)
    narrows_free H (narrows_yes {y = y} p q) s = subst₂ (λ (g m : ℕ). Free g m y) p q s.0.yes_free
    narrows_free H (narrows_no p q k) s = narrows_free H k s.2
    narrows_free H (narrows_both h k k' m) s = makes_kept h m (narrows_free H k s.1) (narrows_free H k' s.2)

  module _ (H : Request → Type 0) where
    -- where the test makes no difference
    pub narrowed : (d : Diagram) (f n : ℕ) → Settled o H d → Free f n d → Again H (Narrows o d f n) d
    narrowed (Leaf l) f n s t = same_leaf H {R = Narrows o (Leaf l) f n} l (narrow_leaf o l f n) (still f n l s.0 t.1) narrows_leaf s.1
    narrowed (Node g m y z) f n s t =
        let Y = narrowed y f n s.1 (t.0.1, t.1.0) in
        let Z = narrowed z f n s.2 (t.0.2, t.1.1) in
        let M = s.0.again in
        record {
          asks = Y.asks ++ (Z.asks ++ M.asks);
          by_the_rules = narrows_both t.0.0 Y.by_the_rules Z.by_the_rules M.by_the_rules;
          held = held_three H Y.asks Z.asks M.asks Y.held Z.held M.held;
        }

    five : (c g h : List Request) → Each H c → Each H g → Each H h → Each H ([] ++ ([] ++ (c ++ (g ++ h))))
    five c g h p q r = held_three H c g h p q r

    pub joined_itself : (d : Diagram) → Settled o H d → Again H (Joins o d d) d
    joined_itself (Leaf l) s = same_leaf H {R = Joins o (Leaf l) (Leaf l)} l (collect o (l ++ l)) (twice l s.0) joins_leaves s.1
    joined_itself (Node f n y z) s =
        let Y = joined_itself y s.1 in
        let Z = joined_itself z s.2 in
        let M = s.0.again in
        record {
          asks = [] ++ ([] ++ (Y.asks ++ (Z.asks ++ M.asks)));
          by_the_rules =
              joins_split (ap {B = Option Tested} Some (all_same (order_tests f n f n) (f, n))) (at_root refl refl) (at_root refl refl) Y.by_the_rules
              (subst (λ (x : Diagram). Joins o x x z Z.asks) (sym (off_root f n y z)) Z.by_the_rules) M.by_the_rules;
          held = five Y.asks Z.asks M.asks Y.held Z.held M.held;
        }

    pub joined_drop : (e : Diagram) → Settled o H e → Again H (Joins o (Leaf []) e) e
    joined_drop (Leaf l) s = same_leaf H {R = Joins o (Leaf []) (Leaf l)} l (collect o l) (alone l s.0) joins_leaves s.1
    joined_drop (Node f n y z) s =
        let Y = joined_drop y s.1 in
        let Z = joined_drop z s.2 in
        let M = s.0.again in
        record {
          asks = [] ++ ([] ++ (Y.asks ++ (Z.asks ++ M.asks)));
          by_the_rules =
              joins_split refl (at_other (λ e. none_some e) narrows_leaf) (at_root refl refl) Y.by_the_rules
              (subst (λ (x : Diagram). Joins o (Leaf []) x z Z.asks) (sym (off_root f n y z)) Z.by_the_rules) M.by_the_rules;
          held = five Y.asks Z.asks M.asks Y.held Z.held M.held;
        }

    pub drop_joined : (d : Diagram) → Settled o H d → Again H (Joins o d (Leaf [])) d
    drop_joined (Leaf l) s = same_leaf H {R = Joins o (Leaf l) (Leaf [])} l (collect o (l ++ [])) (ap (collect o) (append-nil l) ∙ alone l s.0) joins_leaves s.1
    drop_joined (Node f n y z) s =
        let Y = drop_joined y s.1 in
        let Z = drop_joined z s.2 in
        let M = s.0.again in
        record {
          asks = [] ++ ([] ++ (Y.asks ++ (Z.asks ++ M.asks)));
          by_the_rules =
              joins_split refl (at_root refl refl) (at_other (λ e. none_some e) narrows_leaf) Y.by_the_rules
              (subst (λ (x : Diagram). Joins o x (Leaf []) z Z.asks) (sym (off_root f n y z)) Z.by_the_rules) M.by_the_rules;
          held = five Y.asks Z.asks M.asks Y.held Z.held M.held;
        }

    pub pass_prefixed : (d : Diagram) → Settled o H d → Again H (Prefixes o keep_all o.one d) d
    pass_prefixed (Leaf l) s = same_leaf H {R = Prefixes o keep_all o.one (Leaf l)} l (prefix_leaf o keep_all o.one l) (passed l s.0) prefixes_leaf s.1
    pass_prefixed (Node f n y z) s =
        let Y = pass_prefixed y s.1 in
        let Z = pass_prefixed z s.2 in
        let M = s.0.again in
        record {
          asks = Y.asks ++ (Z.asks ++ M.asks);
          by_the_rules = prefixes_both (unset (get_or keep_all f None) refl) Y.by_the_rules Z.by_the_rules M.by_the_rules;
          held = held_three H Y.asks Z.asks M.asks Y.held Z.held M.held;
        }
      where
        unset : (x : Option ℕ) → get_or keep_all f None ≡ x → get_or keep_all f None ≡ None
        unset None e = e
        unset (Some m) e = absurd (keep_sets (λ g k. ⊥) f m e)

    -- the node of a test that passes or drops
    pub test_remade : (f n : ℕ) → Each H (leaf_records (pass_cells o)) → H (node f n (Leaf (pass_cells o)) (Leaf [])) → Remade o H f n (Leaf (pass_cells o)) (Leaf [])
    test_remade f n h t =
        record {
          yes_free = free;
          again =
              let V = narrowed (Leaf (pass_cells o)) f n (pass_formed, h) free in
              record {
                asks = V.asks ++ ([] ++ (node f n (Leaf (pass_cells o)) (Leaf []) ∷ []));
                by_the_rules = makes_node V.by_the_rules narrows_leaf differ;
                held = held_three H V.asks [] (node f n (Leaf (pass_cells o)) (Leaf []) ∷ []) V.held tt (t, tt);
              };
        }
      where
        pass_formed : LeafFormed o (pass_cells o)
        pass_formed = single_formed L keep_all o.one keep_formed L.one_weight

        free : Free f n (Leaf (pass_cells o))
        free = (tt, single_cells L (λ c. SetsOf (Unlike f n) c.0) keep_all o.one (keep_sets (Unlike f n)))

        one_alone : pass_cells o ≡ (keep_all, o.one) ∷ []
        one_alone = choice_no (decide o.one o.zero) [] ((keep_all, o.one) ∷ []) L.one_is_not_zero

        filled : List Cell → Bool
        filled [] = false
        filled (c ∷ l) = true

        differ : Leaf (pass_cells o) ≢ Leaf []
        differ e = true≢false (ap filled (sym one_alone ∙ ap cells_of e))

    -- a node of a narrowed yes side makes itself again
    pub remade :
        {H' : Request → Type 0} {f n : ℕ} {y z v w : Diagram} {a b : List Request} →
        ((q : Request) → H q → H' q) →
        Narrows o y f n v a →
        Settled o H y →
        Settled o H v →
        Narrows o z f n w b →
        Each H b →
        v ≢ w →
        H' (node f n v z) →
        Remade o H' f n v z
    remade {H'} {f} {n} {y} {z} {v} {w} {a} {b} more p s s' q k e t =
        let u = narrows_free f n H p s in
        let V = again_more more (narrowed v f n s' u) in
        record {
          yes_free = u;
          again = record {
            asks = V.asks ++ (b ++ (node f n v z ∷ []));
            by_the_rules = makes_node V.by_the_rules q e;
            held = held_three H' V.asks b (node f n v z ∷ []) V.held (each_map more b k) (t, tt);
          };
        }
