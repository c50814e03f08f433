-- Leaves of one cell, tests, and not. Assumes nothing.
use Rattle.std.proofs.Common.{◌≡◌, ℕ, zero, suc, ◌<◌, ◌≤◌, ◌⊎◌, List, [], ◌∷◌, length, get_or, set, replicate, Some, None, Option, sym, refl, ap, ◌∙◌, subst, ap₂, inl, inr, true≢false, arith}
use Rattle.std.proofs.lemmas.List.{length-set, length-replicate}
use Rattle.format.specs.Fields.{fields, LegalValue}
use Rattle.format.specs.Actions.{apply, compose, keep_all}
use Rattle.weights.specs.Weights.{Ops, Weight, Laws}
use Rattle.meaning.specs.Decide.{choice, decide, equal_lists, Before}
use Rattle.meaning.specs.Leaves.{Action, Frame, Cell, Each, gather, ActionFormed, LeafFormed}
use Rattle.meaning.specs.Diagrams.{Diagram, Leaf, Node, emits, weigh, Facts, narrow_action, make, known, Tests, SetsOf, Cells, After, Unlike, Formed, equal_diagrams}
use Rattle.meaning.specs.Constructions.{single, drop_diagram, pass_diagram, test_diagram, negate_leaf, negate}
use Rattle.meaning.specs.Meanings.{only}
use Rattle.meaning.proofs.Gathering.{choice_yes, choice_no, choice_both, before_self, zero_right}
use Rattle.meaning.proofs.Narrowing.{none_some, forget_none, narrows_leaf, tests_map, formed_weighted, weigh_yes, weigh_no}
use Rattle.meaning.proofs.Making.{make_tests, make_formed, make_weighs_yes, make_weighs_no}
use Rattle.meaning.proofs.Joining.{Closed, cells_make}
use Rattle.meaning.proofs.Sequencing.{legal_set}

-- the action that keeps every field, and one set

no_sets : (k f n : ℕ) → get_or (replicate k None) f None ≡ Some n → ⊥
no_sets zero f n e = none_some n e
no_sets (suc k) zero n e = none_some n e
no_sets (suc k) (suc f) n e = no_sets k f n e

one_set : (k g m f n : ℕ) → get_or (set (replicate k None) g (Some m)) f None ≡ Some n → (f ≡ g) × (n ≡ m)
one_set zero g m f n e = none_some n e
one_set (suc k) zero m zero n e = (refl, sym (inject e))
  where
    inject : Some m ≡ Some n → m ≡ n
    inject r = cc
one_set (suc k) zero m (suc f) n e = absurd (no_sets k f n e)
one_set (suc k) (suc g) m zero n e = none_some n e
one_set (suc k) (suc g) m (suc f) n e = next (one_set k g m f n e)
  where
    next : (f ≡ g) × (n ≡ m) → (suc f ≡ suc g) × (n ≡ m)
    next r = (ap suc r.0, r.1)

pub keep_formed : ActionFormed keep_all
keep_formed = record { all_fields = length-replicate {A = Option ℕ} fields None; legal = λ f l. legal_set f (get_or keep_all f None) (λ n e. absurd (no_sets fields f n e)) }

pub keep_sets : (P : ℕ → ℕ → Type 0) → SetsOf P keep_all
keep_sets P f n e = absurd (no_sets fields f n e)

pub set_formed : (f n : ℕ) → LegalValue f n → ActionFormed (set keep_all f (Some n))
set_formed f n h =
    record {
      all_fields = length-set keep_all f (Some n) ∙ length-replicate {A = Option ℕ} fields None;
      legal = λ g l. legal_set g (get_or (set keep_all f (Some n)) g None) (λ m e. legal g m (one_set fields f n g m e));
    }
  where
    legal : (g m : ℕ) → (g ≡ f) × (m ≡ n) → LegalValue g m
    legal g m r = subst (λ (x : ℕ). LegalValue x m) (sym r.0) (subst (λ (x : ℕ). LegalValue f x) (sym r.1) h)

pub set_sets : (P : ℕ → ℕ → Type 0) (f n : ℕ) → P f n → SetsOf P (set keep_all f (Some n))
set_sets P f n h g m e = subst (λ (x : ℕ). P x m) (sym r.0) (subst (P f) (sym r.1) h)
  where
    r : (g ≡ f) × (m ≡ n)
    r = one_set fields f n g m e

apply_none : (k : ℕ) (s : Frame) → length s ≡ k → apply (replicate k None) s ≡ s
apply_none zero [] e = refl
apply_none zero (v ∷ s) e = absurd (clash e)
  where
    clash : suc (length s) ≡ 0 → ⊥
    clash r = omega arith
apply_none (suc k) [] e = refl
apply_none (suc k) (v ∷ s) e = ap (λ (r : Frame). v ∷ r) (apply_none k s (lower e))
  where
    lower : suc (length s) ≡ suc k → length s ≡ k
    lower r = omega arith

pub apply_keep : (s : Frame) → length s ≡ fields → apply keep_all s ≡ s
apply_keep s e = apply_none fields s e

apply_one : (k : ℕ) (s : Frame) (f n : ℕ) → length s ≡ k → apply (set (replicate k None) f (Some n)) s ≡ set s f n
apply_one zero [] f n e = refl
apply_one zero (v ∷ s) f n e = absurd (clash e)
  where
    clash : suc (length s) ≡ 0 → ⊥
    clash r = omega arith
apply_one (suc k) [] zero n e = refl
apply_one (suc k) [] (suc f) n e = refl
apply_one (suc k) (v ∷ s) zero n e = ap (λ (r : Frame). n ∷ r) (apply_none k s (lower e))
  where
    lower : suc (length s) ≡ suc k → length s ≡ k
    lower r = omega arith
apply_one (suc k) (v ∷ s) (suc f) n e = ap (λ (r : Frame). v ∷ r) (apply_one k s f n (lower e))
  where
    lower : suc (length s) ≡ suc k → length s ≡ k
    lower r = omega arith

pub apply_set : (s : Frame) (f n : ℕ) → length s ≡ fields → apply (set keep_all f (Some n)) s ≡ set s f n
apply_set s f n e = apply_one fields s f n e

-- a leaf of one cell

-- the action that keeps every field, with the weight one
abbrev pub Plain : Ops → Cell → Type 0
Plain o c = (c.0 ≡ keep_all) × (c.1 ≡ o.one)

module _ {o : Ops} (L : Laws o) where
  pub single_cells : (Q : Cell → Type 0) (a : Action) (w : ℕ) → Q (a, w) → Cells Q (single o a w)
  single_cells Q a w h = choice_both (Each Q) (decide w o.zero) [] ((a, w) ∷ []) (λ e. tt) (λ e. (h, tt))

  pub single_formed : (a : Action) (w : ℕ) → ActionFormed a → Weight o w → Formed o (single o a w)
  single_formed a w h k =
      choice_both (LeafFormed o) (decide w o.zero) [] ((a, w) ∷ []) (λ e. record { cells = tt; ascending = tt })
      (λ e. record { cells = (record { action = h; weight = k; not_zero = e }, tt); ascending = (tt, tt) })

  pub single_weighs : (a : Action) (w : ℕ) (s t : Frame) → Weight o w → weigh o (single o a w) s t ≡ only o (apply a s) t w
  single_weighs a w s t k = go (decide w o.zero)
    where
      D : Dec (apply a s ≡ t)
      D = equal_lists decide (apply a s) t

      nothing : (d : Dec (apply a s ≡ t)) → w ≡ o.zero → o.zero ≡ choice d w o.zero
      nothing (yes q) e = sym e
      nothing (no q) e = refl

      kept : (d : Dec (apply a s ≡ t)) → o.join (choice d w o.zero) o.zero ≡ choice d w o.zero
      kept (yes q) = zero_right L w k
      kept (no q) = zero_right L o.zero L.zero_weight

      go : (d : Dec (w ≡ o.zero)) → gather o (emits o s t) (choice d [] ((a, w) ∷ [])) ≡ choice D w o.zero
      go (yes e) = nothing D e
      go (no e) = kept D

  pub pass_formed : Formed o (pass_diagram o)
  pass_formed = single_formed keep_all o.one keep_formed L.one_weight

  pub pass_weighs : (s t : Frame) → length s ≡ fields → weigh o (pass_diagram o) s t ≡ only o s t o.one
  pass_weighs s t e = single_weighs keep_all o.one s t L.one_weight ∙ ap (λ (u : Frame). only o u t o.one) (apply_keep s e)

  pass_is : pass_diagram o ≡ Leaf ((keep_all, o.one) ∷ [])
  pass_is = ap {B = Diagram} Leaf (choice_no (decide o.one o.zero) [] ((keep_all, o.one) ∷ []) L.one_is_not_zero)

  pass_is_not_drop : pass_diagram o ≡ Leaf [] → ⊥
  pass_is_not_drop e = clash (sym pass_is ∙ e)
    where
      clash : Leaf ((keep_all, o.one) ∷ []) ≡ Leaf [] → ⊥
      clash r = true≢false (cc)

  pub drop_is_formed : Formed o drop_diagram
  drop_is_formed = record { cells = tt; ascending = tt }

  pub test_formed : (f n : ℕ) → f < fields → LegalValue f n → Formed o (test_diagram o f n)
  test_formed f n p q = (
    record {
      field_exists = p;
      value_legal = q;
      yes_greater_fields = tt;
      no_greater_tests = tt;
      yes_narrowed = single_cells (λ c. SetsOf (Unlike f n) c.0) keep_all o.one (keep_sets (Unlike f n));
      sides_differ = λ e. pass_is_not_drop (sym e ∙ narrows_leaf o (known f n) []);
    },
    pass_formed,
    drop_is_formed,
  )

  pub test_weighs : (f n : ℕ) (s t : Frame) → length s ≡ fields → weigh o (test_diagram o f n) s t ≡ choice (decide (get_or s f 0) n) (only o s t o.one) o.zero
  test_weighs f n s t l = go (decide (get_or s f 0) n)
    where
      go : Dec (get_or s f 0 ≡ n) → weigh o (test_diagram o f n) s t ≡ choice (decide (get_or s f 0) n) (only o s t o.one) o.zero
      go (yes e) = weigh_yes o f n (pass_diagram o) drop_diagram s t e ∙ pass_weighs s t l ∙ sym (choice_yes (decide (get_or s f 0) n) (only o s t o.one) o.zero e)
      go (no e) = weigh_no o f n (pass_diagram o) drop_diagram s t e ∙ sym (choice_no (decide (get_or s f 0) n) (only o s t o.one) o.zero e)

  -- a diagram of drops and passes

  narrow_none : (k : ℕ) (p : Facts) → narrow_action p (replicate k None) ≡ replicate k None
  narrow_none zero p = refl
  narrow_none (suc k) p = ap₂ {C = Action} (λ (u : Option ℕ) (r : Action). u ∷ r) (forget_none (p 0)) (narrow_none k (λ f. p (suc f)))

  pub plain_closed : Closed o (Plain o)
  plain_closed =
      record {
        joins = λ a v w h k. (h.0, ap₂ o.join h.1 k.1 ∙ L.join_idempotent o.one L.one_weight);
        narrows = λ p a w h. (ap (narrow_action p) h.0 ∙ narrow_none fields p, h.1);
        composes = λ a b v w h k. (ap₂ compose h.0 k.0, ap₂ o.times h.1 k.1 ∙ L.one_neutral_left o.one L.one_weight);
      }

  pub plain_single : Cells (Plain o) (pass_diagram o)
  plain_single = single_cells (Plain o) keep_all o.one (refl, refl)

  -- a formed leaf of them is drop or pass
  plain_leaf : (l : List Cell) → LeafFormed o l → Each (Plain o) l → (l ≡ []) ⊎ (Leaf l ≡ pass_diagram o)
  plain_leaf [] h k = inl refl
  plain_leaf (c ∷ []) h k = inr ((λ i. Leaf ((k.0.0 i, k.0.1 i) ∷ [])) ∙ sym pass_is)
  plain_leaf (c ∷ e ∷ l) h k = absurd (before_self keep_all (subst (λ (a : Action). Before keep_all a) k.1.0.0 (subst (λ (a : Action). Before a e.0) k.0.0 h.ascending.0.0)))

  -- r is not d
  pub record Negated (d r : Diagram) : Type 1 where
    pub tests : (P : ℕ → ℕ → Type 0) → Tests P d → Tests P r
    pub plain : Cells (Plain o) r
    pub formed : Formed o r
    pub weighs : (s t : Frame) → length s ≡ fields → weigh o r s t ≡ choice (decide (weigh o d s s) o.zero) (only o s t o.one) o.zero

  negated_drop : Negated drop_diagram (pass_diagram o)
  negated_drop =
      record {
        tests = λ P t. tt;
        plain = plain_single;
        formed = pass_formed;
        weighs = λ s t l. pass_weighs s t l ∙ sym (choice_yes (decide o.zero o.zero) (only o s t o.one) o.zero refl);
      }

  negated_pass : Negated (pass_diagram o) drop_diagram
  negated_pass =
      record {
        tests = λ P t. tt;
        plain = tt;
        formed = drop_is_formed;
        weighs = λ s t l. sym (choice_no (decide (weigh o (pass_diagram o) s s) o.zero) (only o s t o.one) o.zero (λ e. L.one_is_not_zero (sym (pass_weighs s s l ∙ choice_yes (equal_lists decide s s) o.one o.zero refl) ∙ e)));
      }

  negated_leaf : (l : List Cell) → LeafFormed o l → Each (Plain o) l → Negated (Leaf l) (negate_leaf o (Leaf l))
  negated_leaf l h k = go (plain_leaf l h k)
    where
      go : (l ≡ []) ⊎ (Leaf l ≡ pass_diagram o) → Negated (Leaf l) (negate_leaf o (Leaf l))
      go (inl e) =
          subst (λ (m : List Cell). Negated (Leaf m) (negate_leaf o (Leaf m))) (sym e)
          (subst (Negated drop_diagram) (sym (choice_yes (equal_diagrams drop_diagram drop_diagram) (pass_diagram o) (choice (equal_diagrams drop_diagram (pass_diagram o)) drop_diagram drop_diagram) refl)) negated_drop)
      go (inr e) =
          subst (λ (d : Diagram). Negated d (negate_leaf o d)) (sym e)
          (subst (Negated (pass_diagram o)) (sym (choice_no (equal_diagrams (pass_diagram o) drop_diagram) (pass_diagram o) (choice (equal_diagrams (pass_diagram o) (pass_diagram o)) drop_diagram (pass_diagram o)) pass_is_not_drop ∙ choice_yes (equal_diagrams (pass_diagram o) (pass_diagram o)) drop_diagram (pass_diagram o) refl)) negated_pass)

  negated_node : (f n : ℕ) (y z p q : Diagram) → Formed o (Node f n y z) → Negated y p → Negated z q → Negated (Node f n y z) (make o f n p q)
  negated_node f n y z p q h Y Z =
      record {
        tests = λ P t. make_tests L P f n p q t.0 (Y.tests P t.1) (Z.tests P t.2);
        plain = cells_make L plain_closed f n p q Y.plain Z.plain;
        formed = make_formed L f n p q h.0.field_exists h.0.value_legal Y.formed Z.formed (Y.tests (λ g m. f ≤ g) (tests_map _ _ (λ g m k. less k) y h.0.yes_greater_fields)) (Z.tests (After f n) h.0.no_greater_tests);
        weighs = λ s t l. go s t l (decide (get_or s f 0) n);
      }
    where
      less : {g : ℕ} → f < g → f ≤ g
      less k = omega arith

      C : Frame → Frame → ℕ → ℕ
      C s t w = choice (decide w o.zero) (only o s t o.one) o.zero

      go : (s t : Frame) → length s ≡ fields → Dec (get_or s f 0 ≡ n) → weigh o (make o f n p q) s t ≡ C s t (weigh o (Node f n y z) s s)
      go s t l (yes k) = make_weighs_yes L f n p q s t (formed_weighted o p Y.formed) (formed_weighted o q Z.formed) k ∙ Y.weighs s t l ∙ ap (C s t) (sym (weigh_yes o f n y z s s k))
      go s t l (no k) = make_weighs_no L f n p q s t k ∙ Z.weighs s t l ∙ ap (C s t) (sym (weigh_no o f n y z s s k))

  pub negated : (d : Diagram) → Formed o d → Cells (Plain o) d → Negated d (negate o d)
  unfolding negate
  negated (Leaf l) h k = negated_leaf l h k
  negated (Node f n y z) h k = negated_node f n y z (negate o y) (negate o z) h (negated y h.1 k.0) (negated z h.2 k.1)
