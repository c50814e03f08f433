-- Narrowing by what is known of a frame. Assumes nothing.
use Rattle.std.proofs.Common.{◌≡◌, ℕ, zero, suc, ◌+◌, ◌≤◌, ◌⊎◌, List, [], ◌∷◌, map, length, get_or, Some, None, Option, sym, refl, ap, ◌∙◌, subst, ap₂, inl, inr, true≢false, arith}
use Rattle.format.specs.Actions.{apply, replaced}
use Rattle.weights.specs.Weights.{Ops, Weight, Laws}
use Rattle.meaning.specs.Decide.{choice, decide, equal_lists}
use Rattle.meaning.specs.Leaves.{Action, Frame, Cell, Each, gather, collect}
use Rattle.meaning.specs.Diagrams.{Diagram, Leaf, Node, equal_diagrams, reach, emits, weigh, Facts, known, or_else, also, forget, narrow_action, narrow_cell, branch, narrows, Tests, SetsOf, Cells, Sets, Formed, extent}
use Rattle.meaning.proofs.Gathering.{choice_yes, choice_no, choice_both, each_map, each_of_map, Additive, Weights, chosen_additive, gather_weight, gather_collect, collect_each, collect_weights}

-- facts

pub none_some : {A : Type 0} (n : ℕ) → None ≡ Some n → A
none_some n e = absurd (true≢false (cc))

pub known_there : (f n : ℕ) → known f n f ≡ Some n
known_there f n = choice_yes (decide f f) (Some n) None refl

pub known_only : (f n g m : ℕ) → known f n g ≡ Some m → (g ≡ f) × (m ≡ n)
known_only f n g m e = go (decide g f) e
  where
    go : (d : Dec (g ≡ f)) → choice d (Some n) None ≡ Some m → (g ≡ f) × (m ≡ n)
    go (yes p) q = (p, sym (cc))
    go (no p) q = none_some m q

pub known_else : (f n g : ℕ) → (g ≡ f → ⊥) → known f n g ≡ None
known_else f n g h = choice_no (decide g f) (Some n) None h

pub forget_none : (x : Option ℕ) → forget x None ≡ None
forget_none None = refl
forget_none (Some n) = refl

forget_keeps : (x y : Option ℕ) (n : ℕ) → forget x y ≡ Some n → (y ≡ Some n) × (x ≡ Some n → ⊥)
forget_keeps None y n e = (e, λ q. none_some n q)
forget_keeps (Some m) None n e = none_some n e
forget_keeps (Some m) (Some k) n e = go (decide k m) e
  where
    go : (d : Dec (k ≡ m)) → choice d None (Some k) ≡ Some n → (Some k ≡ Some n) × (Some m ≡ Some n → ⊥)
    go (yes p) q = none_some n q
    go (no p) q = (q, λ r. p (cc))

-- two sets of facts that say the same where both speak
abbrev pub Consistent : Facts → Facts → Type 0
Consistent p q = (f n m : ℕ) → p f ≡ Some n → q f ≡ Some m → n ≡ m

forget_forget : (x y z : Option ℕ) → ((n m : ℕ) → x ≡ Some n → y ≡ Some m → n ≡ m) → forget y (forget x z) ≡ forget (or_else x y) z
forget_forget None y z h = refl
forget_forget (Some n) None z h = refl
forget_forget (Some n) (Some m) None h = refl
forget_forget (Some n) (Some m) (Some k) h = go (decide k n)
  where
    go : (d : Dec (k ≡ n)) → forget (Some m) (choice d None (Some k)) ≡ choice d None (Some k)
    go (yes e) = refl
    go (no e) = choice_no (decide k m) None (Some k) (λ q. e (q ∙ sym (h n m refl refl)))

pub narrow_narrow_action : (p q : Facts) (a : Action) → Consistent p q → narrow_action q (narrow_action p a) ≡ narrow_action (also p q) a
narrow_narrow_action p q [] h = refl
narrow_narrow_action p q (x ∷ a) h =
    ap₂ {C = Action} (λ (u : Option ℕ) (v : Action). u ∷ v) (forget_forget (p 0) (q 0) x (h 0)) (narrow_narrow_action (λ f. p (suc f)) (λ f. q (suc f)) a (λ f. h (suc f)))

pub get_or-narrow_action : (p : Facts) (a : Action) (f : ℕ) → get_or (narrow_action p a) f None ≡ forget (p f) (get_or a f None)
get_or-narrow_action p [] f = sym (forget_none (p f))
get_or-narrow_action p (x ∷ a) zero = refl
get_or-narrow_action p (x ∷ a) (suc f) = get_or-narrow_action (λ g. p (suc g)) a f

pub length_narrow_action : (p : Facts) (a : Action) → length (narrow_action p a) ≡ length a
length_narrow_action p [] = refl
length_narrow_action p (x ∷ a) = ap suc (length_narrow_action (λ g. p (suc g)) a)

-- the frame is as the facts say
abbrev pub Agrees : Facts → Frame → Type 0
Agrees p s = (f n : ℕ) → p f ≡ Some n → get_or s f 0 ≡ n

pub apply_narrow_action : (p : Facts) (a : Action) (s : Frame) → Agrees p s → apply (narrow_action p a) s ≡ apply a s
apply_narrow_action p [] s h = refl
apply_narrow_action p (x ∷ a) [] h = refl
apply_narrow_action p (x ∷ a) (v ∷ s) h =
    ap₂ {C = Frame} (λ (u : ℕ) (r : Frame). u ∷ r) (go (p 0) x refl) (apply_narrow_action (λ f. p (suc f)) a s (λ f. h (suc f)))
  where
    go : (k y : Option ℕ) → p 0 ≡ k → replaced (forget k y) v ≡ replaced y v
    go None y e = refl
    go (Some n) None e = refl
    go (Some n) (Some m) e = inner (decide m n)
      where
        inner : (d : Dec (m ≡ n)) → replaced (choice d None (Some m)) v ≡ m
        inner (yes q) = h 0 n e ∙ sym q
        inner (no q) = refl

pub agrees_known : (f n : ℕ) (s : Frame) → get_or s f 0 ≡ n → Agrees (known f n) s
agrees_known f n s h g m e = ap (λ (k : ℕ). get_or s k 0) (known_only f n g m e).0 ∙ h ∙ sym (known_only f n g m e).1

also_cases : (x y : Option ℕ) (n : ℕ) → or_else x y ≡ Some n → (x ≡ Some n) ⊎ (y ≡ Some n)
also_cases None y n e = inr e
also_cases (Some m) y n e = inl e

pub agrees_also : (p q : Facts) (s : Frame) → Agrees p s → Agrees q s → Agrees (also p q) s
agrees_also p q s h k f n e = go (also_cases (p f) (q f) n e)
  where
    go : (p f ≡ Some n) ⊎ (q f ≡ Some n) → get_or s f 0 ≡ n
    go (inl r) = h f n r
    go (inr r) = k f n r

-- what becomes of a node

pub data Narrowing (o : Ops) (p : Facts) (f n : ℕ) (y z : Diagram) : Type 0 where
  yes_side : p f ≡ Some n → narrows o (Node f n y z) p ≡ narrows o y p → Narrowing o p f n y z
  no_side : (m : ℕ) → p f ≡ Some m → (m ≡ n → ⊥) → narrows o (Node f n y z) p ≡ narrows o z p → Narrowing o p f n y z
  merged : p f ≡ None → narrows o y (also p (known f n)) ≡ narrows o z (also p (known f n)) → narrows o (Node f n y z) p ≡ narrows o z p → Narrowing o p f n y z
  kept : p f ≡ None → (narrows o y (also p (known f n)) ≡ narrows o z (also p (known f n)) → ⊥) → narrows o (Node f n y z) p ≡ Node f n (narrows o y (also p (known f n))) (narrows o z p) → Narrowing o p f n y z

pub narrowing : (o : Ops) (p : Facts) (f n : ℕ) (y z : Diagram) → Narrowing o p f n y z
unfolding narrows
narrowing o p f n y z = go (p f) refl
  where
    Y : Diagram
    Y = narrows o y (also p (known f n))

    Z : Diagram
    Z = narrows o z (also p (known f n))

    at : (k : Option ℕ) → p f ≡ k → narrows o (Node f n y z) p ≡ branch f n k (narrows o y p) (narrows o z p) Y Z
    at k e = ap (λ (x : Option ℕ). branch f n x (narrows o y p) (narrows o z p) Y Z) e

    told : (m : ℕ) → p f ≡ Some m → Dec (m ≡ n) → Narrowing o p f n y z
    told m e (yes q) = yes_side (e ∙ ap {B = Option ℕ} Some q) (at (Some m) e ∙ choice_yes (decide m n) (narrows o y p) (narrows o z p) q)
    told m e (no q) = no_side m e q (at (Some m) e ∙ choice_no (decide m n) (narrows o y p) (narrows o z p) q)

    untold : p f ≡ None → Dec (Y ≡ Z) → Narrowing o p f n y z
    untold e (yes q) = merged e q (at None e ∙ choice_yes (equal_diagrams Y Z) (narrows o z p) (Node f n Y (narrows o z p)) q)
    untold e (no q) = kept e q (at None e ∙ choice_no (equal_diagrams Y Z) (narrows o z p) (Node f n Y (narrows o z p)) q)

    go : (k : Option ℕ) → p f ≡ k → Narrowing o p f n y z
    go None e = untold e (equal_diagrams Y Z)
    go (Some m) e = told m e (decide m n)

pub narrows_leaf : (o : Ops) (p : Facts) (l : List Cell) → narrows o (Leaf l) p ≡ Leaf (collect o (map (narrow_cell p) l))
unfolding narrows
narrows_leaf o p l = refl

-- facts of tests and sets

pub tests_map : (P Q : ℕ → ℕ → Type 0) → ((f n : ℕ) → P f n → Q f n) → (d : Diagram) → Tests P d → Tests Q d
tests_map P Q h (Leaf l) t = tt
tests_map P Q h (Node f n y z) t = (h f n t.0, tests_map P Q h y t.1, tests_map P Q h z t.2)

pub tests_both : (P Q : ℕ → ℕ → Type 0) (d : Diagram) → Tests P d → Tests Q d → Tests (λ f n. P f n × Q f n) d
tests_both P Q (Leaf l) t u = tt
tests_both P Q (Node f n y z) t u = ((t.0, u.0), tests_both P Q y t.1 u.1, tests_both P Q z t.2 u.2)

pub cells_map : (P Q : Cell → Type 0) → ((c : Cell) → P c → Q c) → (d : Diagram) → Cells P d → Cells Q d
cells_map P Q h (Leaf l) t = each_map h l t
cells_map P Q h (Node f n y z) t = (cells_map P Q h y t.0, cells_map P Q h z t.1)

pub cells_all : (P : Cell → Type 0) → ((c : Cell) → P c) → (d : Diagram) → Cells P d
cells_all P h (Leaf []) = tt
cells_all P h (Leaf (c ∷ l)) = (h c, cells_all P h (Leaf l))
cells_all P h (Node f n y z) = (cells_all P h y, cells_all P h z)

pub each_both : {X : Type 0} (P Q : X → Type 0) (xs : List X) → Each P xs → Each Q xs → Each (λ x. P x × Q x) xs
each_both P Q [] t u = tt
each_both P Q (x ∷ xs) t u = ((t.0, u.0), each_both P Q xs t.1 u.1)

pub cells_both : (P Q : Cell → Type 0) (d : Diagram) → Cells P d → Cells Q d → Cells (λ c. P c × Q c) d
cells_both P Q (Leaf l) t u = each_both P Q l t u
cells_both P Q (Node f n y z) t u = (cells_both P Q y t.0 u.0, cells_both P Q z t.1 u.1)

pub sets_map : (P Q : ℕ → ℕ → Type 0) → ((f n : ℕ) → P f n → Q f n) → (d : Diagram) → Sets P d → Sets Q d
sets_map P Q h d t = cells_map _ _ (λ c k f n e. h f n (k f n e)) d t

pub sets_both : (P Q : ℕ → ℕ → Type 0) (d : Diagram) → Sets P d → Sets Q d → Sets (λ f n. P f n × Q f n) d
sets_both P Q d t u = cells_map _ _ (λ c k f n e. (k.0 f n e, k.1 f n e)) d (cells_both _ _ d t u)

also_none : (p q : Facts) (f : ℕ) → also p q f ≡ None → p f ≡ None
also_none p q f e = go (p f) refl e
  where
    go : (k : Option ℕ) → p f ≡ k → or_else k (q f) ≡ None → p f ≡ None
    go None r s = r
    go (Some n) r s = none_some n (sym s)

also_some : (p q : Facts) (f n : ℕ) → p f ≡ Some n → also p q f ≡ Some n
also_some p q f n e = ap (λ (k : Option ℕ). or_else k (q f)) e

pub also_second : (p q : Facts) (f : ℕ) → p f ≡ None → also p q f ≡ q f
also_second p q f e = ap (λ (k : Option ℕ). or_else k (q f)) e

-- what is known is not tested again
pub tests_narrows : (P : ℕ → ℕ → Type 0) (o : Ops) (d : Diagram) (p : Facts) → Tests P d → Tests (λ f n. P f n × (p f ≡ None)) (narrows o d p)
tests_narrows P o (Leaf l) p t = subst (Tests (λ f n. P f n × (p f ≡ None))) (sym (narrows_leaf o p l)) tt
tests_narrows P o (Node f n y z) p t =
    go (narrowing o p f n y z) (tests_narrows P o y p t.1) (tests_narrows P o z p t.2) (tests_narrows P o y (also p (known f n)) t.1)
  where
    Q : ℕ → ℕ → Type 0
    Q g m = P g m × (p g ≡ None)

    go : Narrowing o p f n y z → Tests Q (narrows o y p) → Tests Q (narrows o z p) → Tests (λ g m. P g m × (also p (known f n) g ≡ None)) (narrows o y (also p (known f n))) → Tests Q (narrows o (Node f n y z) p)
    go (yes_side e r) a b c = subst (Tests Q) (sym r) a
    go (no_side m e h r) a b c = subst (Tests Q) (sym r) b
    go (merged e h r) a b c = subst (Tests Q) (sym r) b
    go (kept e h r) a b c = subst (Tests Q) (sym r) ((t.0, e), tests_map _ Q (λ g m k. (k.0, also_none p (known f n) g k.1)) (narrows o y (also p (known f n))) c, b)

-- what is known is not set again
pub sets_narrows : (P : ℕ → ℕ → Type 0) {o : Ops} (L : Laws o) (d : Diagram) (p : Facts) → Sets P d → Sets (λ f n. P f n × (p f ≡ Some n → ⊥)) (narrows o d p)
sets_narrows P {o} L (Leaf l) p t =
    subst (Sets Q) (sym (narrows_leaf o p l))
    (collect_each L (λ c. SetsOf Q c.0) (λ a v w h k. h) (λ c. SetsOf Q c.0) (λ c h k. h) (map (narrow_cell p) l) (each_of_map (λ c. SetsOf P c.0) (λ c. SetsOf Q c.0) (narrow_cell p) one l t))
  where
    Q : ℕ → ℕ → Type 0
    Q g m = P g m × (p g ≡ Some m → ⊥)

    one : (c : Cell) → SetsOf P c.0 → SetsOf Q (narrow_action p c.0)
    one c h f n e = (h f n k.0, k.1)
      where
        k : (get_or c.0 f None ≡ Some n) × (p f ≡ Some n → ⊥)
        k = forget_keeps (p f) (get_or c.0 f None) n (sym (get_or-narrow_action p c.0 f) ∙ e)
sets_narrows P {o} L (Node f n y z) p t =
    go (narrowing o p f n y z) (sets_narrows P L y p t.0) (sets_narrows P L z p t.1) (sets_narrows P L y (also p (known f n)) t.0)
  where
    Q : ℕ → ℕ → Type 0
    Q g m = P g m × (p g ≡ Some m → ⊥)

    go : Narrowing o p f n y z → Sets Q (narrows o y p) → Sets Q (narrows o z p) → Sets (λ g m. P g m × (also p (known f n) g ≡ Some m → ⊥)) (narrows o y (also p (known f n))) → Sets Q (narrows o (Node f n y z) p)
    go (yes_side e r) a b c = subst (Sets Q) (sym r) a
    go (no_side m e h r) a b c = subst (Sets Q) (sym r) b
    go (merged e h r) a b c = subst (Sets Q) (sym r) b
    go (kept e h r) a b c = subst (Sets Q) (sym r) (sets_map _ Q (λ g m k. (k.0, λ q. k.1 (also_some p (known f n) g m q))) (narrows o y (also p (known f n))) c, b)

pub extent_narrows : (o : Ops) (d : Diagram) (p : Facts) → extent (narrows o d p) ≤ extent d
extent_narrows o (Leaf l) p = subst (λ (x : Diagram). extent x ≤ 1) (sym (narrows_leaf o p l)) (omega arith)
extent_narrows o (Node f n y z) p =
    go (narrowing o p f n y z) (extent_narrows o y p) (extent_narrows o z p) (extent_narrows o y (also p (known f n)))
  where
    go : Narrowing o p f n y z → extent (narrows o y p) ≤ extent y → extent (narrows o z p) ≤ extent z → extent (narrows o y (also p (known f n))) ≤ extent y → extent (narrows o (Node f n y z) p) ≤ 1 + (extent y + extent z)
    go (yes_side e r) a b c = subst (λ (x : Diagram). extent x ≤ 1 + (extent y + extent z)) (sym r) (omega arith)
    go (no_side m e h r) a b c = subst (λ (x : Diagram). extent x ≤ 1 + (extent y + extent z)) (sym r) (omega arith)
    go (merged e h r) a b c = subst (λ (x : Diagram). extent x ≤ 1 + (extent y + extent z)) (sym r) (omega arith)
    go (kept e h r) a b c = subst (λ (x : Diagram). extent x ≤ 1 + (extent y + extent z)) (sym r) (omega arith)

-- weights

-- every leaf holds weights of the kind
abbrev pub Weighted : Ops → Diagram → Type 0
Weighted o = Cells (λ c. Weight o c.1)

pub formed_weighted : (o : Ops) (d : Diagram) → Formed o d → Weighted o d
formed_weighted o (Leaf l) h = each_map (λ c k. k.weight) l h.cells
formed_weighted o (Node f n y z) h = (formed_weighted o y h.1, formed_weighted o z h.2)

pub reach_weights : (o : Ops) (d : Diagram) (s : Frame) → Weighted o d → Weights o (reach d s)
reach_weights o (Leaf l) s h = h
reach_weights o (Node f n y z) s h =
    choice_both (Weights o) (decide (get_or s f 0) n) (reach y s) (reach z s) (λ e. reach_weights o y s h.0) (λ e. reach_weights o z s h.1)

pub weigh_yes : (o : Ops) (f n : ℕ) (y z : Diagram) (s t : Frame) → get_or s f 0 ≡ n → weigh o (Node f n y z) s t ≡ weigh o y s t
weigh_yes o f n y z s t e = ap (gather o (emits o s t)) (choice_yes (decide (get_or s f 0) n) (reach y s) (reach z s) e)

pub weigh_no : (o : Ops) (f n : ℕ) (y z : Diagram) (s t : Frame) → (get_or s f 0 ≡ n → ⊥) → weigh o (Node f n y z) s t ≡ weigh o z s t
weigh_no o f n y z s t e = ap (gather o (emits o s t)) (choice_no (decide (get_or s f 0) n) (reach y s) (reach z s) e)

pub gather_map : (o : Ops) (g h : Action → ℕ → ℕ) (r : Cell → Cell) → ((c : Cell) → g (r c).0 (r c).1 ≡ h c.0 c.1) → (l : List Cell) → gather o g (map r l) ≡ gather o h l
gather_map o g h r k [] = refl
gather_map o g h r k (c ∷ l) = ap₂ o.join (k c) (gather_map o g h r k l)

module _ {o : Ops} (L : Laws o) where
  pub emits_additive : (s t : Frame) → Additive o (emits o s t)
  emits_additive s t = chosen_additive L (λ a. equal_lists decide (apply a s) t)

  pub weigh_weight : (d : Diagram) (s t : Frame) → Weighted o d → Weight o (weigh o d s t)
  weigh_weight d s t h = gather_weight L (emits_additive s t) (reach d s) (reach_weights o d s h)

  pub narrow_cells_weights : (p : Facts) (l : List Cell) → Weights o l → Weights o (map (narrow_cell p) l)
  narrow_cells_weights p l h = each_of_map (λ c. Weight o c.1) (λ c. Weight o c.1) (narrow_cell p) (λ c k. k) l h

  pub weighted_narrows : (d : Diagram) (p : Facts) → Weighted o d → Weighted o (narrows o d p)
  weighted_narrows (Leaf l) p h = subst (Weighted o) (sym (narrows_leaf o p l)) (collect_weights L (map (narrow_cell p) l) (narrow_cells_weights p l h))
  weighted_narrows (Node f n y z) p h =
      go (narrowing o p f n y z) (weighted_narrows y p h.0) (weighted_narrows z p h.1) (weighted_narrows y (also p (known f n)) h.0)
    where
      go : Narrowing o p f n y z → Weighted o (narrows o y p) → Weighted o (narrows o z p) → Weighted o (narrows o y (also p (known f n))) → Weighted o (narrows o (Node f n y z) p)
      go (yes_side e r) a b c = subst (Weighted o) (sym r) a
      go (no_side m e k r) a b c = subst (Weighted o) (sym r) b
      go (merged e k r) a b c = subst (Weighted o) (sym r) b
      go (kept e k r) a b c = subst (Weighted o) (sym r) (c, b)

  pub weigh_narrows : (d : Diagram) (p : Facts) (s t : Frame) → Weighted o d → Agrees p s → weigh o (narrows o d p) s t ≡ weigh o d s t
  weigh_narrows (Leaf l) p s t h a =
      ap (λ (x : Diagram). weigh o x s t) (narrows_leaf o p l)
      ∙ gather_collect L (emits_additive s t) (map (narrow_cell p) l) (narrow_cells_weights p l h)
      ∙ gather_map o (emits o s t) (emits o s t) (narrow_cell p) (λ c. ap (λ (u : Frame). choice (equal_lists decide u t) c.1 o.zero) (apply_narrow_action p c.0 s a)) l
  weigh_narrows (Node f n y z) p s t h a =
      go (narrowing o p f n y z) (decide (get_or s f 0) n) (weigh_narrows y p s t h.0 a) (weigh_narrows z p s t h.1 a)
      (weigh_narrows y (also p (known f n)) s t h.0) (weigh_narrows z (also p (known f n)) s t h.1)
    where
      W : Diagram → ℕ
      W d = weigh o d s t

      both : get_or s f 0 ≡ n → Agrees (also p (known f n)) s
      both e = agrees_also p (known f n) s a (agrees_known f n s e)

      go : Narrowing o p f n y z → Dec (get_or s f 0 ≡ n) → W (narrows o y p) ≡ W y → W (narrows o z p) ≡ W z → (Agrees (also p (known f n)) s → W (narrows o y (also p (known f n))) ≡ W y) → (Agrees (also p (known f n)) s → W (narrows o z (also p (known f n))) ≡ W z) → W (narrows o (Node f n y z) p) ≡ W (Node f n y z)
      go (yes_side e r) d iy iz jy jz = ap W r ∙ iy ∙ sym (weigh_yes o f n y z s t (a f n e))
      go (no_side m e k r) d iy iz jy jz = ap W r ∙ iz ∙ sym (weigh_no o f n y z s t (λ q. k (sym (a f m e) ∙ q)))
      go (merged e k r) (yes q) iy iz jy jz = ap W r ∙ iz ∙ sym (jz (both q)) ∙ sym (ap W k) ∙ jy (both q) ∙ sym (weigh_yes o f n y z s t q)
      go (merged e k r) (no q) iy iz jy jz = ap W r ∙ iz ∙ sym (weigh_no o f n y z s t q)
      go (kept e k r) (yes q) iy iz jy jz =
          ap W r ∙ weigh_yes o f n (narrows o y (also p (known f n))) (narrows o z p) s t q ∙ jy (both q) ∙ sym (weigh_yes o f n y z s t q)
      go (kept e k r) (no q) iy iz jy jz =
          ap W r ∙ weigh_no o f n (narrows o y (also p (known f n))) (narrows o z p) s t q ∙ iz ∙ sym (weigh_no o f n y z s t q)
