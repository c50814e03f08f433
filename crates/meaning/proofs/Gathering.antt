-- Joins over the cells of a leaf, and collecting. Assumes nothing.
use Rattle.std.proofs.Common.{◌≡◌, ℕ, ◌≢◌, ◌⊎◌, List, [], ◌∷◌, ◌++◌, map, Some, None, Option, sym, refl, ap, ◌∙◌, subst, ap₂, inl, inr, arith}
use Rattle.format.specs.Actions.{SetBelow}
use Rattle.weights.specs.Weights.{Ops, Weight, Laws}
use Rattle.meaning.specs.Decide.{choice, Tri, below, level, above, three, decide, order_actions, Before, equal_lists, equal_sets}
use Rattle.meaning.specs.Leaves.{Action, Cell, Each, gather, Ascending, put, enter, collect}

pub choice_yes : {A X : Type 0} (d : Dec A) (x y : X) → A → choice d x y ≡ x
choice_yes (yes a) x y h = refl
choice_yes (no g) x y h = absurd (g h)

pub choice_no : {A X : Type 0} (d : Dec A) (x y : X) → (A → ⊥) → choice d x y ≡ y
choice_no (yes a) x y h = absurd (h a)
choice_no (no g) x y h = refl

-- a fact of either side is a fact of the choice
pub choice_both : {A X : Type 0} (P : X → Type 0) (d : Dec A) (x y : X) → (A → P x) → ((A → ⊥) → P y) → P (choice d x y)
choice_both P (yes a) x y f g = f a
choice_both P (no h) x y f g = g h

pub each_map : {X : Type 0} {P Q : X → Type 0} → ((x : X) → P x → Q x) → (xs : List X) → Each P xs → Each Q xs
each_map f [] e = tt
each_map f (x ∷ xs) e = (f x e.0, each_map f xs e.1)

pub each_append : {X : Type 0} (P : X → Type 0) (xs ys : List X) → Each P xs → Each P ys → Each P (xs ++ ys)
each_append P [] ys e e' = e'
each_append P (x ∷ xs) ys e e' = (e.0, each_append P xs ys e.1 e')

pub each_of_map : {X Y : Type 0} (P : X → Type 0) (Q : Y → Type 0) (g : X → Y) → ((x : X) → P x → Q (g x)) → (xs : List X) → Each P xs → Each Q (map g xs)
each_of_map P Q g f [] e = tt
each_of_map P Q g f (x ∷ xs) e = (f x e.0, each_of_map P Q g f xs e.1)

-- the order of actions
set_below_trans : (x y z : Option ℕ) → SetBelow x y → SetBelow y z → SetBelow x z
set_below_trans None None z p q = absurd p
set_below_trans None (Some m) None p q = absurd q
set_below_trans None (Some m) (Some n) p q = tt
set_below_trans (Some k) None z p q = absurd p
set_below_trans (Some k) (Some m) None p q = absurd q
set_below_trans (Some k) (Some m) (Some n) p q = omega arith

set_below_self : (x : Option ℕ) → SetBelow x x → ⊥
set_below_self None p = p
set_below_self (Some n) p = omega arith

pub before_trans : (a b c : Action) → Before a b → Before b c → Before a c
before_trans [] [] c p q = absurd p
before_trans [] (y ∷ b) [] p q = absurd q
before_trans [] (y ∷ b) (z ∷ c) p q = tt
before_trans (x ∷ a) [] c p q = absurd p
before_trans (x ∷ a) (y ∷ b) [] p q = absurd q
before_trans (x ∷ a) (y ∷ b) (z ∷ c) p q = go p q (before_trans a b c)
  where
    go : SetBelow x y ⊎ ((x ≡ y) × Before a b) → SetBelow y z ⊎ ((y ≡ z) × Before b c) → (Before a b → Before b c → Before a c) → SetBelow x z ⊎ ((x ≡ z) × Before a c)
    go (inl l) (inl m) ih = inl (set_below_trans x y z l m)
    go (inl l) (inr m) ih = inl (subst (λ (u : Option ℕ). SetBelow x u) m.0 l)
    go (inr l) (inl m) ih = inl (subst (λ (u : Option ℕ). SetBelow u z) (sym l.0) m)
    go (inr l) (inr m) ih = inr (l.0 ∙ m.0, ih l.1 m.1)

pub before_self : (a : Action) → Before a a → ⊥
before_self [] p = p
before_self (x ∷ a) p = go p (before_self a)
  where
    go : SetBelow x x ⊎ ((x ≡ x) × Before a a) → (Before a a → ⊥) → ⊥
    go (inl l) ih = set_below_self x l
    go (inr l) ih = ih l.1

pub before_differ : (a b : Action) → Before a b → a ≡ b → ⊥
before_differ a b p e = before_self a (subst (λ (u : Action). Before a u) (sym e) p)

-- what is made of a cell goes along with the weights: joins to joins, zero to zero
pub record Additive (o : Ops) (g : Action → ℕ → ℕ) : Type 0 where
  pub weight : (a : Action) (w : ℕ) → Weight o w → Weight o (g a w)
  pub joins : (a : Action) (v w : ℕ) → Weight o v → Weight o w → g a (o.join v w) ≡ o.join (g a v) (g a w)
  pub zeros : (a : Action) → g a o.zero ≡ o.zero

abbrev pub Weights : Ops → List Cell → Type 0
Weights o = Each (λ c. Weight o c.1)

module _ {o : Ops} (L : Laws o) where
  pub zero_right : (a : ℕ) → Weight o a → o.join a o.zero ≡ a
  zero_right a h = L.join_commutative a o.zero h L.zero_weight ∙ L.zero_neutral a h

  pub join_swap : (a b c : ℕ) → Weight o a → Weight o b → Weight o c → o.join a (o.join b c) ≡ o.join b (o.join a c)
  join_swap a b c p q r =
      sym (L.join_associative a b c p q r) ∙ ap (λ (x : ℕ). o.join x c) (L.join_commutative a b p q) ∙ L.join_associative b a c q p r

  pub zero_zero : o.join o.zero o.zero ≡ o.zero
  zero_zero = L.zero_neutral o.zero L.zero_weight

  -- a join is zero only if both are
  pub join_not_zero : (a b : ℕ) → Weight o a → Weight o b → a ≢ o.zero → o.join a b ≢ o.zero
  join_not_zero a b p q h e =
      h (sym (zero_right a p) ∙ ap (λ (x : ℕ). o.join a x) (sym e) ∙ sym (L.join_associative a a b p p q) ∙ ap (λ (x : ℕ). o.join x b) (L.join_idempotent a p) ∙ e)

  pub chosen_additive : {P : Action → Type 0} (δ : (a : Action) → Dec (P a)) → Additive o (λ a w. choice (δ a) w o.zero)
  chosen_additive {P} δ = record { weight = λ a w h. w_go a w h (δ a); joins = λ a v w h k. j_go a v w (δ a); zeros = λ a. z_go a (δ a) }
    where
      w_go : (a : Action) (w : ℕ) → Weight o w → (d : Dec (P a)) → Weight o (choice d w o.zero)
      w_go a w h (yes p) = h
      w_go a w h (no p) = L.zero_weight

      j_go : (a : Action) (v w : ℕ) (d : Dec (P a)) → choice d (o.join v w) o.zero ≡ o.join (choice d v o.zero) (choice d w o.zero)
      j_go a v w (yes p) = refl
      j_go a v w (no p) = sym zero_zero

      z_go : (a : Action) (d : Dec (P a)) → choice d o.zero o.zero ≡ o.zero
      z_go a (yes p) = refl
      z_go a (no p) = refl

  module _ {g : Action → ℕ → ℕ} (A : Additive o g) where
    pub gather_weight : (l : List Cell) → Weights o l → Weight o (gather o g l)
    gather_weight [] h = L.zero_weight
    gather_weight (c ∷ l) h = L.join_weight _ _ (A.weight _ _ h.0) (gather_weight l h.1)

    pub gather_append : (l m : List Cell) → Weights o l → Weights o m → gather o g (l ++ m) ≡ o.join (gather o g l) (gather o g m)
    gather_append [] m h k = sym (L.zero_neutral _ (gather_weight m k))
    gather_append (c ∷ l) m h k =
        ap (λ (x : ℕ). o.join (g c.0 c.1) x) (gather_append l m h.1 k)
        ∙ sym (L.join_associative _ _ _ (A.weight _ _ h.0) (gather_weight l h.1) (gather_weight m k))

    pub gather_put : (a : Action) (w : ℕ) (l : List Cell) → Weight o w → Weights o l → gather o g (put o a w l) ≡ o.join (g a w) (gather o g l)
    gather_put a w [] p h = refl
    gather_put a w (c ∷ l) p h = go (order_actions a c.0) (gather_put a w l p h.1)
      where
        rest : Weight o (gather o g l)
        rest = gather_weight l h.1

        go : (t : Tri (Before a c.0) (a ≡ c.0) (Before c.0 a)) → gather o g (put o a w l) ≡ o.join (g a w) (gather o g l) → gather o g (three t ((a, w) ∷ c ∷ l) ((a, o.join w c.1) ∷ l) (c ∷ put o a w l)) ≡ o.join (g a w) (o.join (g c.0 c.1) (gather o g l))
        go (below b) ih = refl
        go (level e) ih =
            ap (λ (x : ℕ). o.join x (gather o g l)) (A.joins a w c.1 p h.0)
            ∙ L.join_associative _ _ _ (A.weight _ _ p) (A.weight _ _ h.0) rest
            ∙ ap (λ (b : Action). o.join (g a w) (o.join (g b c.1) (gather o g l))) e
        go (above b) ih =
            ap (λ (x : ℕ). o.join (g c.0 c.1) x) ih
            ∙ join_swap _ _ _ (A.weight _ _ h.0) (A.weight _ _ p) rest

    pub gather_enter : (a : Action) (w : ℕ) (l : List Cell) → Weight o w → Weights o l → gather o g (enter o a w l) ≡ o.join (g a w) (gather o g l)
    gather_enter a w l p h = go (decide w o.zero)
      where
        go : (d : Dec (w ≡ o.zero)) → gather o g (choice d l (put o a w l)) ≡ o.join (g a w) (gather o g l)
        go (yes e) = sym (ap (λ (x : ℕ). o.join x (gather o g l)) (ap (g a) e ∙ A.zeros a) ∙ L.zero_neutral _ (gather_weight l h))
        go (no e) = gather_put a w l p h

  -- collecting keeps a property that joins keep
  module _ (P : Cell → Type 0) (closed : (a : Action) (v w : ℕ) → P (a, v) → P (a, w) → P (a, o.join v w)) where
    pub put_each : (a : Action) (w : ℕ) (l : List Cell) → P (a, w) → Each P l → Each P (put o a w l)
    put_each a w [] p h = (p, tt)
    put_each a w (c ∷ l) p h = go (order_actions a c.0) (put_each a w l p h.1)
      where
        go : (t : Tri (Before a c.0) (a ≡ c.0) (Before c.0 a)) → Each P (put o a w l) → Each P (three t ((a, w) ∷ c ∷ l) ((a, o.join w c.1) ∷ l) (c ∷ put o a w l))
        go (below b) ih = (p, h)
        go (level e) ih = (closed a w c.1 p (subst (λ (b : Action). P (b, c.1)) (sym e) h.0), h.1)
        go (above b) ih = (h.0, ih)

    pub collect_each : (Q : Cell → Type 0) → ((c : Cell) → Q c → c.1 ≢ o.zero → P c) → (l : List Cell) → Each Q l → Each P (collect o l)
    collect_each Q f [] h = tt
    collect_each Q f (c ∷ l) h = go (decide c.1 o.zero) (collect_each Q f l h.1)
      where
        go : (d : Dec (c.1 ≡ o.zero)) → Each P (collect o l) → Each P (choice d (collect o l) (put o c.0 c.1 (collect o l)))
        go (yes e) ih = ih
        go (no e) ih = put_each c.0 c.1 (collect o l) (f c h.0 e) ih

  put_ascending : (a : Action) (w : ℕ) (l : List Cell) → Ascending l → Ascending (put o a w l)
  put_ascending a w [] h = (tt, tt)
  put_ascending a w (c ∷ l) h = go (order_actions a c.0) (put_ascending a w l h.1)
    where
      go : (t : Tri (Before a c.0) (a ≡ c.0) (Before c.0 a)) → Ascending (put o a w l) → Ascending (three t ((a, w) ∷ c ∷ l) ((a, o.join w c.1) ∷ l) (c ∷ put o a w l))
      go (below b) ih = ((b, each_map (λ e q. before_trans a c.0 e.0 b q) l h.0), h)
      go (level e) ih = (subst (λ (b : Action). Each (λ (x : Cell). Before b x.0) l) (sym e) h.0, h.1)
      go (above b) ih = (put_each (λ x. Before c.0 x.0) (λ a' v w' p q. p) a w l b h.0, ih)

  pub collect_ascending : (l : List Cell) → Ascending (collect o l)
  collect_ascending [] = tt
  collect_ascending (c ∷ l) = go (decide c.1 o.zero) (collect_ascending l)
    where
      go : (d : Dec (c.1 ≡ o.zero)) → Ascending (collect o l) → Ascending (choice d (collect o l) (put o c.0 c.1 (collect o l)))
      go (yes e) ih = ih
      go (no e) ih = put_ascending c.0 c.1 (collect o l) ih

  pub collect_weights : (l : List Cell) → Weights o l → Weights o (collect o l)
  collect_weights l h = collect_each (λ c. Weight o c.1) (λ a v w p q. L.join_weight v w p q) (λ c. Weight o c.1) (λ c p q. p) l h

  module _ {g : Action → ℕ → ℕ} (A : Additive o g) where
    pub gather_collect : (l : List Cell) → Weights o l → gather o g (collect o l) ≡ gather o g l
    gather_collect [] h = refl
    gather_collect (c ∷ l) h =
        gather_enter A c.0 c.1 (collect o l) h.0 (collect_weights l h.1)
        ∙ ap (λ (x : ℕ). o.join (g c.0 c.1) x) (gather_collect l h.1)

-- a stands in the leaf
abbrev pub Among : Action → List Cell → Type 0
Among a [] = ⊥
Among a (c ∷ l) = (c.0 ≡ a) ⊎ Among a l

pub among_each : (P : Action → Type 0) (a : Action) (l : List Cell) → Each (λ c. P c.0) l → Among a l → P a
among_each P a [] h i = absurd i
among_each P a (c ∷ l) h (inl e) = subst P e h.0
among_each P a (c ∷ l) h (inr i) = among_each P a l h.1 i

abbrev pub equal_actions : (a b : Action) → Dec (a ≡ b)
equal_actions = equal_lists equal_sets

-- the weight that the leaf gives to one action
abbrev pub value : Ops → Action → List Cell → ℕ
value o a = gather o (λ b w. choice (equal_actions b a) w o.zero)

abbrev pub NoZeros : Ops → List Cell → Type 0
NoZeros o = Each (λ c. c.1 ≢ o.zero)

-- two leaves that differ give different weights to some action
pub record Telling (o : Ops) (l m : List Cell) : Type 0 where
  pub action : Action
  pub among : Among action l ⊎ Among action m
  pub differ : value o action l ≢ value o action m

module _ {o : Ops} (L : Laws o) where
  value_absent : (b : Action) (l : List Cell) → Each (λ c. Before b c.0) l → value o b l ≡ o.zero
  value_absent b [] h = refl
  value_absent b (c ∷ l) h =
      ap₂ o.join (choice_no (equal_actions c.0 b) c.1 o.zero (λ e. before_differ b c.0 h.0 (sym e))) (value_absent b l h.1) ∙ zero_zero L

  value_head : (c : Cell) (l : List Cell) → Weight o c.1 → Each (λ e. Before c.0 e.0) l → value o c.0 (c ∷ l) ≡ c.1
  value_head c l w h =
      ap₂ o.join (choice_yes (equal_actions c.0 c.0) c.1 o.zero refl) (value_absent c.0 l h) ∙ zero_right L c.1 w

  value_tail : (a : Action) (c : Cell) (l : List Cell) → Weights o l → (c.0 ≡ a → ⊥) → value o a (c ∷ l) ≡ value o a l
  value_tail a c l w h =
      ap (λ (x : ℕ). o.join x (value o a l)) (choice_no (equal_actions c.0 a) c.1 o.zero h)
      ∙ L.zero_neutral _ (gather_weight L (chosen_additive L (λ b. equal_actions b a)) l w)

  pub leaves_differ : (l m : List Cell) → Weights o l → Weights o m → NoZeros o l → NoZeros o m → Ascending l → Ascending m → l ≢ m → Telling o l m
  leaves_differ [] [] wl wm zl zm al am h = absurd (h refl)
  leaves_differ [] (e ∷ m) wl wm zl zm al am h =
      record { action = e.0; among = inr (inl refl); differ = λ p. zm.0 (sym (value_head e m wm.0 am.0) ∙ sym p) }
  leaves_differ (c ∷ l) [] wl wm zl zm al am h =
      record { action = c.0; among = inl (inl refl); differ = λ p. zl.0 (sym (value_head c l wl.0 al.0) ∙ p) }
  leaves_differ (c ∷ l) (e ∷ m) wl wm zl zm al am h =
      go (order_actions c.0 e.0) (leaves_differ l m wl.1 wm.1 zl.1 zm.1 al.1 am.1)
    where
      same_action : c.0 ≡ e.0 → (l ≢ m → Telling o l m) → Dec (c.1 ≡ e.1) → Telling o (c ∷ l) (e ∷ m)
      same_action p ih (no q) =
          record {
            action = c.0;
            among = inl (inl refl);
            differ = λ r. q (sym (value_head c l wl.0 al.0) ∙ r ∙ ap (λ (a : Action). value o a (e ∷ m)) p ∙ value_head e m wm.0 am.0);
          }
      same_action p ih (yes q) =
          record {
            action = T.action;
            among = later T.among;
            differ = λ r. T.differ (sym (value_tail T.action c l wl.1 off) ∙ r ∙ value_tail T.action e m wm.1 (λ s. off (p ∙ s)));
          }
        where
          T : Telling o l m
          T = ih (λ r. h (λ i. (p i, q i) ∷ r i))

          later : Among T.action l ⊎ Among T.action m → Among T.action (c ∷ l) ⊎ Among T.action (e ∷ m)
          later (inl i) = inl (inr i)
          later (inr i) = inr (inr i)

          where_it_stands : Among T.action l ⊎ Among T.action m → Before c.0 T.action
          where_it_stands (inl i) = among_each (Before c.0) T.action l al.0 i
          where_it_stands (inr i) = among_each (Before c.0) T.action m (subst (λ (a : Action). Each (λ (x : Cell). Before a x.0) m) (sym p) am.0) i

          off : c.0 ≡ T.action → ⊥
          off = before_differ c.0 T.action (where_it_stands T.among)

      go : Tri (Before c.0 e.0) (c.0 ≡ e.0) (Before e.0 c.0) → (l ≢ m → Telling o l m) → Telling o (c ∷ l) (e ∷ m)
      go (below b) ih =
          record {
            action = c.0;
            among = inl (inl refl);
            differ = λ r. zl.0 (sym (value_head c l wl.0 al.0) ∙ r ∙ value_absent c.0 (e ∷ m) (b, each_map (λ x q. before_trans c.0 e.0 x.0 b q) m am.0));
          }
      go (level p) ih = same_action p ih (decide c.1 e.1)
      go (above b) ih =
          record {
            action = e.0;
            among = inr (inl refl);
            differ = λ r. zm.0 (sym (value_head e m wm.0 am.0) ∙ sym r ∙ value_absent e.0 (c ∷ l) (b, each_map (λ x q. before_trans e.0 c.0 x.0 b q) l al.0));
          }
