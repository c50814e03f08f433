-- Prefix, sequence and not: forms and weights. Assumes nothing.
use Rattle.std.proofs.Common.{◌≡◌, ℕ, zero, suc, ◌<◌, ◌≤◌, ◌⊎◌, List, [], ◌∷◌, map, length, get_or, Some, None, Option, sym, refl, ap, ◌∙◌, ap₂, inl, inr, arith}
use lib.LanesLaws.{length-zip2}
use Rattle.format.specs.Fields.{fields, LegalValue}
use Rattle.format.specs.Actions.{apply, replaced, compose, last_set, LegalSet}
use Rattle.weights.specs.Weights.{Ops, Weight, Laws}
use Rattle.meaning.specs.Decide.{choice, decide, equal_lists}
use Rattle.meaning.specs.Leaves.{Action, Frame, Cell, Each, gather, collect, ActionFormed, CellFormed, LeafFormed}
use Rattle.meaning.specs.Diagrams.{Diagram, Leaf, Node, reach, emits, weigh, Facts, narrow_action, forget, make, Tests, SetsOf, Cells, After, Formed}
use Rattle.meaning.specs.Constructions.{join, choose, prefix_cell, prefix_node, prefix, sequence_cells, sequence}
use Rattle.meaning.proofs.Gathering.{choice_yes, choice_no, each_map, each_of_map, Additive, Weights, gather_weight, gather_collect, zero_right}
use Rattle.meaning.proofs.Narrowing.{none_some, get_or-narrow_action, tests_map, formed_weighted, weigh_yes, weigh_no, weigh_weight, emits_additive, gather_map}
use Rattle.meaning.proofs.Making.{collect_formed, make_tests, make_formed, make_weighs_yes, make_weighs_no}
use Rattle.meaning.proofs.Canonical.{get_or-apply, formed_sets_legal}
use Rattle.meaning.proofs.Joining.{Closed, cells_collect, cells_make, Joined, joined, Chosen, chosen}

-- one action and then another

pub apply_compose : (a b : Action) (s : Frame) → apply (compose a b) s ≡ apply b (apply a s)
apply_compose [] [] s = refl
apply_compose [] (y ∷ b) s = refl
apply_compose (x ∷ a) [] s = refl
apply_compose (x ∷ a) (y ∷ b) [] = refl
apply_compose (x ∷ a) (y ∷ b) (v ∷ s) = ap₂ {C = Frame} (λ (u : ℕ) (r : Frame). u ∷ r) (one x y) (apply_compose a b s)
  where
    one : (x' y' : Option ℕ) → replaced (last_set x' y') v ≡ replaced y' (replaced x' v)
    one x' None = refl
    one x' (Some n) = refl

compose_set : (a b : Action) (f n : ℕ) → get_or (compose a b) f None ≡ Some n → (get_or a f None ≡ Some n) ⊎ (get_or b f None ≡ Some n)
compose_set [] b f n e = none_some n e
compose_set (x ∷ a) [] f n e = none_some n e
compose_set (x ∷ a) (y ∷ b) zero n e = one y e
  where
    one : (y' : Option ℕ) → last_set x y' ≡ Some n → (x ≡ Some n) ⊎ (y' ≡ Some n)
    one None r = inl r
    one (Some m) r = inr r
compose_set (x ∷ a) (y ∷ b) (suc f) n e = compose_set a b f n e

-- sets of legal values are kept
pub legal_set : (f : ℕ) (x : Option ℕ) → ((n : ℕ) → x ≡ Some n → LegalValue f n) → LegalSet f x
legal_set f None h = tt
legal_set f (Some n) h = h n refl

pub compose_formed : (a b : Action) → ActionFormed a → ActionFormed b → ActionFormed (compose a b)
compose_formed a b h k =
    record {
      all_fields = length-zip2 last_set a b (h.all_fields ∙ sym k.all_fields) ∙ h.all_fields;
      legal = λ f l. legal_set f (get_or (compose a b) f None) (λ n e. one f n (compose_set a b f n e));
    }
  where
    one : (f n : ℕ) → (get_or a f None ≡ Some n) ⊎ (get_or b f None ≡ Some n) → LegalValue f n
    one f n (inl e) = (formed_sets_legal a h f n e).1
    one f n (inr e) = (formed_sets_legal b k f n e).1

pub sets_closed : (o : Ops) (P : ℕ → ℕ → Type 0) → Closed o (λ c. SetsOf P c.0)
sets_closed o P =
    record {
      joins = λ a v w h k. h;
      narrows = λ p a w h f n e. h f n (kept_set p a f n e);
      composes = λ a b v w h k f n e. one a b h k f n (compose_set a b f n e);
    }
  where
    kept_set : (p : Facts) (a : Action) (f n : ℕ) → get_or (narrow_action p a) f None ≡ Some n → get_or a f None ≡ Some n
    kept_set p a f n e = go (p f) (get_or a f None) (sym (get_or-narrow_action p a f) ∙ e)
      where
        go : (x y : Option ℕ) → forget x y ≡ Some n → y ≡ Some n
        go None y r = r
        go (Some m) None r = r
        go (Some m) (Some k) r = inner (decide k m) r
          where
            inner : (d : Dec (k ≡ m)) → choice d None (Some k) ≡ Some n → Some k ≡ Some n
            inner (yes q) r' = none_some n r'
            inner (no q) r' = r'

    one : (a b : Action) → SetsOf P a → SetsOf P b → (f n : ℕ) → (get_or a f None ≡ Some n) ⊎ (get_or b f None ≡ Some n) → P f n
    one a b h k f n (inl e) = h f n e
    one a b h k f n (inr e) = k f n e

module _ {o : Ops} (L : Laws o) where
  pub gather_times : {g : Action → ℕ → ℕ} → Additive o g → (w : ℕ) → Weight o w → (l : List Cell) → Weights o l → gather o (λ b v. o.times w (g b v)) l ≡ o.times w (gather o g l)
  gather_times A w p [] h = sym (L.zero_absorbs_right w p)
  gather_times A w p (c ∷ l) h =
      ap (o.join (o.times w _)) (gather_times A w p l h.1)
      ∙ sym (L.times_distributes_left w _ _ p (A.weight c.0 c.1 h.0) (gather_weight L A l h.1))

  -- what follows an action, times its weight
  pub followed_additive : (g : Action → ℕ) → ((a : Action) → Weight o (g a)) → Additive o (λ a w. o.times w (g a))
  followed_additive g h =
      record {
        weight = λ a w p. L.times_weight w (g a) p (h a);
        joins = λ a v w p q. L.times_distributes_right v w (g a) p q (h a);
        zeros = λ a. L.zero_absorbs_left (g a) (h a);
      }

-- r is the action a with weight w, and then d
pub record Prefixed (o : Ops) (a : Action) (w : ℕ) (d r : Diagram) : Type 1 where
  pub tests : (P : ℕ → ℕ → Type 0) → Tests P d → Tests P r
  pub cells : (Q : Cell → Type 0) → Closed o Q → Q (a, w) → Cells Q d → Cells Q r
  pub formed : Formed o r
  pub weighs : (s t : Frame) → length s ≡ fields → weigh o r s t ≡ o.times w (weigh o d (apply a s) t)

module _ {o : Ops} (L : Laws o) (a : Action) (w : ℕ) (ha : ActionFormed a) (hw : Weight o w) where
  prefixed_leaf : (l : List Cell) → LeafFormed o l → Prefixed o a w (Leaf l) (Leaf (collect o (map (prefix_cell o a w) l)))
  prefixed_leaf l h =
      record {
        tests = λ P t. tt;
        cells = λ Q K q t. cells_collect L K (map (prefix_cell o a w) l) (each_of_map Q Q (prefix_cell o a w) (λ c k. K.composes a c.0 w c.1 q k) l t);
        formed =
            collect_formed L (map (prefix_cell o a w) l)
            (each_of_map (CellFormed o) (λ c. ActionFormed c.0 × Weight o c.1) (prefix_cell o a w) (λ c k. (compose_formed a c.0 ha k.action, L.times_weight w c.1 hw k.weight)) l h.cells);
        weighs = λ s t e.
            gather_collect L (emits_additive L s t) (map (prefix_cell o a w) l) (each_of_map (λ c. Weight o c.1) (λ c. Weight o c.1) (prefix_cell o a w) (λ c k. L.times_weight w c.1 hw k) l wl)
            ∙ gather_map o (emits o s t) (λ b v. o.times w (emits o (apply a s) t b v)) (prefix_cell o a w) (λ c. one s t c.0 c.1) l
            ∙ gather_times L (emits_additive L (apply a s) t) w hw l wl;
      }
    where
      wl : Weights o l
      wl = each_map (λ c k. k.weight) l h.cells

      one : (s t : Frame) (b : Action) (v : ℕ) → emits o s t (compose a b) (o.times w v) ≡ o.times w (emits o (apply a s) t b v)
      one s t b v = ap (λ (u : Frame). choice (equal_lists decide u t) (o.times w v) o.zero) (apply_compose a b s) ∙ go (equal_lists decide (apply b (apply a s)) t)
        where
          go : (d : Dec (apply b (apply a s) ≡ t)) → choice d (o.times w v) o.zero ≡ o.times w (choice d v o.zero)
          go (yes e) = refl
          go (no e) = sym (L.zero_absorbs_right w hw)

  prefixed_node : (f n : ℕ) (y z p q : Diagram) → Formed o (Node f n y z) → Prefixed o a w y p → Prefixed o a w z q → (x : Option ℕ) → get_or a f None ≡ x → Prefixed o a w (Node f n y z) (prefix_node o f n x p q)
  prefixed_node f n y z p q h Y Z None e =
      record {
        tests = λ P t. make_tests L P f n p q t.0 (Y.tests P t.1) (Z.tests P t.2);
        cells = λ Q K k t. cells_make L K f n p q (Y.cells Q K k t.0) (Z.cells Q K k t.1);
        formed =
            make_formed L f n p q h.0.field_exists h.0.value_legal Y.formed Z.formed
            (Y.tests (λ g m. f ≤ g) (tests_map _ _ (λ g m k. less k) y h.0.yes_greater_fields)) (Z.tests (After f n) h.0.no_greater_tests);
        weighs = λ s t l. go s t l (decide (get_or s f 0) n);
      }
    where
      less : {g : ℕ} → f < g → f ≤ g
      less k = omega arith

      kept : (s : Frame) → length s ≡ fields → get_or (apply a s) f 0 ≡ get_or s f 0
      kept s l = get_or-apply a s f (within ha.all_fields h.0.field_exists) (within l h.0.field_exists) ∙ ap (λ (x : Option ℕ). replaced x (get_or s f 0)) e
        where
          within : {m : ℕ} → m ≡ fields → f < fields → f < m
          within i j = omega arith

      go : (s t : Frame) → length s ≡ fields → Dec (get_or s f 0 ≡ n) → weigh o (make o f n p q) s t ≡ o.times w (weigh o (Node f n y z) (apply a s) t)
      go s t l (yes k) =
          make_weighs_yes L f n p q s t (formed_weighted o p Y.formed) (formed_weighted o q Z.formed) k ∙ Y.weighs s t l ∙ ap (o.times w) (sym (weigh_yes o f n y z (apply a s) t (kept s l ∙ k)))
      go s t l (no k) = make_weighs_no L f n p q s t k ∙ Z.weighs s t l ∙ ap (o.times w) (sym (weigh_no o f n y z (apply a s) t (λ r. k (sym (kept s l) ∙ r))))
  prefixed_node f n y z p q h Y Z (Some m) e = go (decide m n)
    where
      there : (s : Frame) → length s ≡ fields → get_or (apply a s) f 0 ≡ m
      there s l = get_or-apply a s f (within ha.all_fields h.0.field_exists) (within l h.0.field_exists) ∙ ap (λ (x : Option ℕ). replaced x (get_or s f 0)) e
        where
          within : {k : ℕ} → k ≡ fields → f < fields → f < k
          within i j = omega arith

      go : (d : Dec (m ≡ n)) → Prefixed o a w (Node f n y z) (choice d p q)
      go (yes k) =
          record {
            tests = λ P t. Y.tests P t.1;
            cells = λ Q K i t. Y.cells Q K i t.0;
            formed = Y.formed;
            weighs = λ s t l. Y.weighs s t l ∙ ap (o.times w) (sym (weigh_yes o f n y z (apply a s) t (there s l ∙ k)));
          }
      go (no k) =
          record {
            tests = λ P t. Z.tests P t.2;
            cells = λ Q K i t. Z.cells Q K i t.1;
            formed = Z.formed;
            weighs = λ s t l. Z.weighs s t l ∙ ap (o.times w) (sym (weigh_no o f n y z (apply a s) t (λ r. k (sym (there s l) ∙ r))));
          }

  pub prefixed : (d : Diagram) → Formed o d → Prefixed o a w d (prefix o a w d)
  unfolding prefix
  prefixed (Leaf l) h = prefixed_leaf l h
  prefixed (Node f n y z) h = prefixed_node f n y z (prefix o a w y) (prefix o a w z) h (prefixed y h.1) (prefixed z h.2) (get_or a f None) refl

-- r is d and then e
pub record Sequenced (o : Ops) (d e r : Diagram) : Type 1 where
  pub tests : (P : ℕ → ℕ → Type 0) → Tests P d → Tests P e → Tests P r
  pub cells : (Q : Cell → Type 0) → Closed o Q → Cells Q d → Cells Q e → Cells Q r
  pub formed : Formed o r
  pub weighs : (s t : Frame) → length s ≡ fields → weigh o r s t ≡ gather o (λ a w. o.times w (weigh o e (apply a s) t)) (reach d s)

module _ {o : Ops} (L : Laws o) (e : Diagram) (he : Formed o e) where
  pub after_additive : (s t : Frame) → Additive o (λ a w. o.times w (weigh o e (apply a s) t))
  after_additive s t = followed_additive L (λ a. weigh o e (apply a s) t) (λ a. weigh_weight L e (apply a s) t (formed_weighted o e he))

  -- so far, and then each further cell
  record Further (sofar : Diagram) (l : List Cell) (r : Diagram) : Type 1 where
    tests : (P : ℕ → ℕ → Type 0) → Tests P sofar → Tests P e → Tests P r
    cells : (Q : Cell → Type 0) → Closed o Q → Cells Q sofar → Each Q l → Cells Q e → Cells Q r
    formed : Formed o r
    weighs : (s t : Frame) → length s ≡ fields → weigh o r s t ≡ o.join (weigh o sofar s t) (gather o (λ a w. o.times w (weigh o e (apply a s) t)) l)

  further_more : (c : Cell) (l : List Cell) (sofar r : Diagram) → CellFormed o c → Each (CellFormed o) l → Formed o sofar → (Formed o (join o sofar (prefix o c.0 c.1 e)) → Further (join o sofar (prefix o c.0 c.1 e)) l r) → Further sofar (c ∷ l) r
  further_more c l sofar r h i k ih =
      record {
        tests = λ P t u. R.tests P (J.tests P t (Y.tests P u)) u;
        cells = λ Q K t j u. R.cells Q K (J.cells Q K t (Y.cells Q K j.0 u)) j.1 u;
        formed = R.formed;
        weighs = λ s t q.
            R.weighs s t q
            ∙ ap (λ (x : ℕ). o.join x (gather o (λ a w. o.times w (weigh o e (apply a s) t)) l)) (J.weighs s t ∙ ap (o.join (weigh o sofar s t)) (Y.weighs s t q))
            ∙ L.join_associative _ _ _ (weigh_weight L sofar s t (formed_weighted o sofar k)) ((after_additive s t).weight c.0 c.1 h.weight) (gather_weight L (after_additive s t) l (each_map (λ x y. y.weight) l i));
      }
    where
      Y : Prefixed o c.0 c.1 e (prefix o c.0 c.1 e)
      Y = prefixed L c.0 c.1 h.action h.weight e he

      J : Joined o sofar (prefix o c.0 c.1 e) (join o sofar (prefix o c.0 c.1 e))
      J = joined L sofar (prefix o c.0 c.1 e) k Y.formed

      R : Further (join o sofar (prefix o c.0 c.1 e)) l r
      R = ih J.formed

  further : (l : List Cell) (sofar : Diagram) → Each (CellFormed o) l → Formed o sofar → Further sofar l (sequence_cells o e sofar l)
  unfolding sequence_cells
  further [] sofar h k =
      record {
        tests = λ P t u. t;
        cells = λ Q K t i u. t;
        formed = k;
        weighs = λ s t l. sym (zero_right L _ (weigh_weight L sofar s t (formed_weighted o sofar k)));
      }
  further (c ∷ l) sofar h k =
      further_more c l sofar (sequence_cells o e (join o sofar (prefix o c.0 c.1 e)) l) h.0 h.1 k (λ j. further l (join o sofar (prefix o c.0 c.1 e)) h.1 j)

  drop_formed : Formed o (Leaf [])
  drop_formed = record { cells = tt; ascending = tt }

  sequenced_node : (f n : ℕ) (y z p q : Diagram) → Formed o (Node f n y z) → Sequenced o y e p → Sequenced o z e q → Sequenced o (Node f n y z) e (choose o f n p q)
  sequenced_node f n y z p q h Y Z =
      record {
        tests = λ P t u. C.tests P t.0 (Y.tests P t.1 u) (Z.tests P t.2 u);
        cells = λ Q K t u. C.cells Q K (Y.cells Q K t.0 u) (Z.cells Q K t.1 u);
        formed = C.formed;
        weighs = λ s t l. go s t l (decide (get_or s f 0) n);
      }
    where
      C : Chosen o f n p q (choose o f n p q)
      C = chosen L f n h.0.field_exists h.0.value_legal p q Y.formed Z.formed

      go : (s t : Frame) → length s ≡ fields → Dec (get_or s f 0 ≡ n) → weigh o (choose o f n p q) s t ≡ gather o (λ a w. o.times w (weigh o e (apply a s) t)) (reach (Node f n y z) s)
      go s t l (yes k) = C.weighs_yes s t k ∙ Y.weighs s t l ∙ ap (gather o (λ a w. o.times w (weigh o e (apply a s) t))) (sym (choice_yes (decide (get_or s f 0) n) (reach y s) (reach z s) k))
      go s t l (no k) = C.weighs_no s t k ∙ Z.weighs s t l ∙ ap (gather o (λ a w. o.times w (weigh o e (apply a s) t))) (sym (choice_no (decide (get_or s f 0) n) (reach y s) (reach z s) k))

  pub sequenced : (d : Diagram) → Formed o d → Sequenced o d e (sequence o d e)
  unfolding sequence
  sequenced (Leaf l) h =
      record {
        tests = λ P t u. F.tests P tt u;
        cells = λ Q K t u. F.cells Q K tt t u;
        formed = F.formed;
        weighs = λ s t q. F.weighs s t q ∙ L.zero_neutral _ (gather_weight L (after_additive s t) l (each_map (λ x y. y.weight) l h.cells));
      }
    where
      F : Further (Leaf []) l (sequence_cells o e (Leaf []) l)
      F = further l (Leaf []) h.cells drop_formed
  sequenced (Node f n y z) h = sequenced_node f n y z (sequence o y e) (sequence o z e) h (sequenced y h.1) (sequenced z h.2)
