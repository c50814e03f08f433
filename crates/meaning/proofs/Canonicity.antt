-- Formed diagrams that differ are told apart by a frame. Assumes nothing.
use Rattle.std.proofs.Common.{◌≡◌, ℕ, zero, suc, ◌+◌, ◌<◌, ◌≤◌, ◌≢◌, ◌⊎◌, List, [], ◌∷◌, length, get_or, set, Some, None, Option, sym, refl, ap, ◌∙◌, subst, ap₂, subst₂, inl, inr, arith}
use Rattle.std.proofs.lemmas.List.{length-set, get_or-set_same, get_or-set_other}
use Rattle.format.specs.Fields.{fields, LegalValue}
use Rattle.format.specs.Actions.{apply, replaced}
use Rattle.weights.specs.Weights.{Ops, Laws}
use Rattle.meaning.specs.Decide.{choice, decide, equal_lists}
use Rattle.meaning.specs.Leaves.{Action, Frame, Cell, Each, gather, ActionFormed, LeafFormed}
use Rattle.meaning.specs.Diagrams.{Diagram, Leaf, Node, equal_diagrams, emits, weigh, narrow, Tests, SetsOf, Sets, After, Unlike, Formed, extent}
use Rattle.meaning.specs.Constructions.{at, off}
use Rattle.weights.specs.Order.{In}
use Rattle.walks.proofs.Walks.{has, without, without_length, without_rest}
use Rattle.meaning.proofs.Gathering.{choice_yes, choice_no, each_map, Among, among_each, equal_actions, value, Telling, leaves_differ}
use Rattle.meaning.proofs.Narrowing.{tests_map, tests_both, sets_map, sets_both, formed_weighted}
use Rattle.meaning.proofs.Making.{leaf_tidy}
use Rattle.meaning.proofs.Splitting.{after_unlike, Rooted, Unrooted, Splitting, rooted, unrooted, splitting, Heads, leaves, split, heads, split_shrinks, rooted_either, formed_tests_legal, at_tests, off_tests, at_formed, off_formed, at_greater, off_after, at_unlike, at_sets, off_cells, at_weighs, off_weighs}

-- no value that is tested or set stands in v
abbrev pub Fresh : Frame → Diagram → Type 0
Fresh v d = Tests (λ f n. get_or v f 0 ≡ n → ⊥) d × Sets (λ f n. get_or v f 0 ≡ n → ⊥) d

-- two frames that tell d from e; what holds of v's values and of all tests holds of the first
pub record Told (o : Ops) (v : Frame) (d e : Diagram) : Type 1 where
  pub s : Frame
  pub action : Action
  pub long : length s ≡ fields
  pub action_formed : ActionFormed action
  pub near : (P : ℕ → ℕ → Type 0) → ((f : ℕ) → f < fields → P f (get_or v f 0)) → Tests P d → Tests P e → (f : ℕ) → f < fields → P f (get_or s f 0)
  pub differ : weigh o d s (apply action s) ≡ weigh o e s (apply action s) → ⊥

-- on a fresh frame different actions have different effects
apply_injective : (a b : Action) (v : Frame) → length a ≡ length v → length b ≡ length v → SetsOf (λ f n. get_or v f 0 ≡ n → ⊥) a → SetsOf (λ f n. get_or v f 0 ≡ n → ⊥) b → apply a v ≡ apply b v → a ≡ b
apply_injective [] [] v p q h k e = refl
apply_injective [] (y ∷ b) [] p q h k e = absurd (clash q)
  where
    clash : suc (length b) ≡ 0 → ⊥
    clash r = omega arith
apply_injective [] (y ∷ b) (x ∷ v) p q h k e = absurd (clash p)
  where
    clash : 0 ≡ suc (length v) → ⊥
    clash r = omega arith
apply_injective (x ∷ a) [] [] p q h k e = absurd (clash p)
  where
    clash : suc (length a) ≡ 0 → ⊥
    clash r = omega arith
apply_injective (x ∷ a) [] (u ∷ v) p q h k e = absurd (clash q)
  where
    clash : 0 ≡ suc (length v) → ⊥
    clash r = omega arith
apply_injective (x ∷ a) (y ∷ b) [] p q h k e = absurd (clash p)
  where
    clash : suc (length a) ≡ 0 → ⊥
    clash r = omega arith
apply_injective (x ∷ a) (y ∷ b) (u ∷ v) p q h k e =
    ap₂ {C = Action} (λ (c : Option ℕ) (r : Action). c ∷ r) (first x y (h 0) (k 0) head_equal)
    (apply_injective a b v (drop_suc p) (drop_suc q) (λ f. h (suc f)) (λ f. k (suc f)) tail_equal)
  where
    drop_suc : {m n : ℕ} → suc m ≡ suc n → m ≡ n
    drop_suc r = omega arith

    head_equal : replaced x u ≡ replaced y u
    head_equal = cc

    tail_equal : apply a v ≡ apply b v
    tail_equal = cc

    first : (x' y' : Option ℕ) → ((n : ℕ) → x' ≡ Some n → u ≡ n → ⊥) → ((n : ℕ) → y' ≡ Some n → u ≡ n → ⊥) → replaced x' u ≡ replaced y' u → x' ≡ y'
    first None None i j r = refl
    first None (Some n) i j r = absurd (j n refl r)
    first (Some m) None i j r = absurd (i m refl (sym r))
    first (Some m) (Some n) i j r = ap {B = Option ℕ} Some r

pub gather_each : (o : Ops) (g h : Action → ℕ → ℕ) (l : List Cell) → Each (λ c. g c.0 c.1 ≡ h c.0 c.1) l → gather o g l ≡ gather o h l
gather_each o g h [] k = refl
gather_each o g h (c ∷ l) k = ap₂ o.join k.0 (gather_each o g h l k.1)

unroot : (f n : ℕ) (d : Diagram) → Rooted f n d → Unrooted f n d → ⊥
unroot f n (Leaf l) r u = r
unroot f n (Node g m y z) r u = u r

module _ {o : Ops} (L : Laws o) where
  -- two leaves: the fresh frame itself, and what one action makes of it
  tell_leaves : (l m : List Cell) (v : Frame) → LeafFormed o l → LeafFormed o m → length v ≡ fields → Fresh v (Leaf l) → Fresh v (Leaf m) → l ≢ m → Told o v (Leaf l) (Leaf m)
  tell_leaves l m v p q long x y h =
      record {
        s = v;
        action = a;
        long = long;
        action_formed = among_either (λ b. ActionFormed b) (each_map (λ c k. k.action) l p.cells) (each_map (λ c k. k.action) m q.cells) T.among;
        near = λ P i j k. i;
        differ = λ e. T.differ (sym (weighs l (each_map (λ c k. k.action) l p.cells) x.1) ∙ e ∙ weighs m (each_map (λ c k. k.action) m q.cells) y.1);
      }
    where
      T : Telling o l m
      T = leaves_differ L l m (leaf_tidy L l p).weights (leaf_tidy L m q).weights (leaf_tidy L l p).no_zeros (leaf_tidy L m q).no_zeros p.ascending q.ascending h

      a : Action
      a = T.action

      F : Action → Type 0
      F = SetsOf (λ f n. get_or v f 0 ≡ n → ⊥)

      among_either : (P : Action → Type 0) → Each (λ c. P c.0) l → Each (λ c. P c.0) m → Among a l ⊎ Among a m → P a
      among_either P i j (inl k) = among_each P a l i k
      among_either P i j (inr k) = among_each P a m j k

      a_long : length a ≡ length v
      a_long = (among_either (λ b. ActionFormed b) (each_map (λ c k. k.action) l p.cells) (each_map (λ c k. k.action) m q.cells) T.among).all_fields ∙ sym long

      a_fresh : F a
      a_fresh = among_either F x.1 y.1 T.among

      one : (b : Action) (w : ℕ) → ActionFormed b → F b → Dec (b ≡ a) → emits o v (apply a v) b w ≡ choice (equal_actions b a) w o.zero
      one b w i j (yes e) =
          choice_yes (equal_lists decide (apply b v) (apply a v)) w o.zero (ap (λ (c : Action). apply c v) e) ∙ sym (choice_yes (equal_actions b a) w o.zero e)
      one b w i j (no e) =
          choice_no (equal_lists decide (apply b v) (apply a v)) w o.zero (λ r. e (apply_injective b a v (i.all_fields ∙ sym long) a_long j a_fresh r)) ∙ sym (choice_no (equal_actions b a) w o.zero e)

      weighs : (k : List Cell) → Each (λ c. ActionFormed c.0) k → Each (λ c. F c.0) k → weigh o (Leaf k) v (apply a v) ≡ value o a k
      weighs [] i j = refl
      weighs (c ∷ k) i j = ap₂ o.join (one c.0 c.1 i.0 j.0 (equal_actions c.0 a)) (weighs k i.1 j.1)

  -- off the test alike, so at the test unlike
  at_differ : (f n : ℕ) (d e : Diagram) → Formed o d → Formed o e → Rooted f n d ⊎ Rooted f n e → d ≢ e → off d f n ≡ off e f n → at o d f n ≡ at o e f n → ⊥
  at_differ f n d e p q r h same_off same_at = go (splitting o f n d) (splitting o f n e)
    where
      go : Splitting o f n d → Splitting o f n e → ⊥
      go (rooted y z i a b) (rooted v w j a' b') = h (i ∙ ap₂ {C = Diagram} (λ (x u : Diagram). Node f n x u) (sym a ∙ same_at ∙ a') (sym b ∙ same_off ∙ b') ∙ sym j)
      go (rooted y z i a b) (unrooted u a' b') = (subst (Formed o) i p).0.sides_differ (ap (λ (x : Diagram). narrow o x f n) (sym b ∙ same_off ∙ b') ∙ sym a' ∙ sym same_at ∙ a)
      go (unrooted u a b) (rooted v w j a' b') = (subst (Formed o) j q).0.sides_differ (ap (λ (x : Diagram). narrow o x f n) (sym b' ∙ sym same_off ∙ b) ∙ sym a ∙ same_at ∙ a')
      go (unrooted u a b) (unrooted u' a' b') = neither r
        where
          neither : Rooted f n d ⊎ Rooted f n e → ⊥
          neither (inl k) = unroot f n d k u
          neither (inr k) = unroot f n e k u'

  -- one test further, given what tells the smaller diagrams apart
  module _ (f n : ℕ) (d e : Diagram) (v : Frame) (p : Formed o d) (q : Formed o e) (long : length v ≡ fields) (x : Fresh v d) (y : Fresh v e) (r : Rooted f n d ⊎ Rooted f n e) where
    v_off : get_or v f 0 ≡ n → ⊥
    v_off = rooted_either (λ g m. get_or v g 0 ≡ m → ⊥) f n d e r x.0 y.0

    in_fields : f < fields
    in_fields = (rooted_either (λ g m. (g < fields) × LegalValue g m) f n d e r (formed_tests_legal o d p) (formed_tests_legal o e q)).0

    off_fresh : (c : Diagram) → Fresh v c → Fresh v (off c f n)
    off_fresh c k = (off_tests L f n _ c k.0, off_cells L f n _ c k.1)

    tell_off : Tests (After f n) (off d f n) → Tests (After f n) (off e f n) → Told o v (off d f n) (off e f n) → Told o v d e
    tell_off t u T =
        record {
          s = T.s;
          action = T.action;
          long = T.long;
          action_formed = T.action_formed;
          near = λ P i j k. T.near P i (off_tests L f n P d j) (off_tests L f n P e k);
          differ = λ z. T.differ (off_weighs L f n d T.s (apply T.action T.s) away ∙ z ∙ sym (off_weighs L f n e T.s (apply T.action T.s) away));
        }
      where
        away : get_or T.s f 0 ≡ n → ⊥
        away z =
            T.near (λ g m. (g ≡ f) → (m ≡ n) → ⊥) (λ g l i j. v_off (subst (λ (k : ℕ). get_or v k 0 ≡ n) i j))
            (tests_map _ _ (λ g m k. after_unlike f n g m k) (off d f n) t) (tests_map _ _ (λ g m k. after_unlike f n g m k) (off e f n) u) f in_fields refl z

    v' : Frame
    v' = set v f n

    v'_there : get_or v' f 0 ≡ n
    unfolding v'
    v'_there = get_or-set_same v f n 0 (subst (λ (k : ℕ). f < k) (sym long) in_fields)

    v'_elsewhere : (g : ℕ) → (g ≡ f → ⊥) → get_or v' g 0 ≡ get_or v g 0
    unfolding v'
    v'_elsewhere g h = get_or-set_other v f g n 0 h

    v'_long : length v' ≡ fields
    unfolding v'
    v'_long = length-set v f n ∙ long

    at_fresh : (c : Diagram) → Fresh v c → Tests (λ g m. f < g) (at o c f n) → Sets (Unlike f n) (at o c f n) → Fresh v' (at o c f n)
    at_fresh c k t u = (
      tests_map _ _ (λ g m h z. h.1 (sym (v'_elsewhere g (apart g h.0)) ∙ z)) (at o c f n) (tests_both _ _ (at o c f n) t (at_tests L f n _ c k.0)),
      sets_map _ _ (λ g m h z. one g m h.0 h.1 z (decide g f)) (at o c f n) (sets_both _ _ (at o c f n) u (at_sets L f n _ c k.1)),
    )
      where
        apart : (g : ℕ) → f < g → g ≡ f → ⊥
        apart g l i = omega arith

        one : (g m : ℕ) → Unlike f n g m → (get_or v g 0 ≡ m → ⊥) → get_or v' g 0 ≡ m → Dec (g ≡ f) → ⊥
        one g m h k' z (yes i) = h i (sym z ∙ ap (λ (j : ℕ). get_or v' j 0) i ∙ v'_there)
        one g m h k' z (no i) = k' (sym (v'_elsewhere g i) ∙ z)

    tell_at : Tests (λ g m. f < g) (at o d f n) → Tests (λ g m. f < g) (at o e f n) → Told o v' (at o d f n) (at o e f n) → Told o v d e
    tell_at t u T =
        record {
          s = T.s;
          action = T.action;
          long = T.long;
          action_formed = T.action_formed;
          near = λ P i j k. T.near P (moved P i (rooted_either P f n d e r j k)) (at_tests L f n P d j) (at_tests L f n P e k);
          differ = λ z. T.differ (at_weighs L f n d T.s (apply T.action T.s) (formed_weighted o d p) there ∙ z ∙ sym (at_weighs L f n e T.s (apply T.action T.s) (formed_weighted o e q) there));
        }
      where
        moved : (P : ℕ → ℕ → Type 0) → ((g : ℕ) → g < fields → P g (get_or v g 0)) → P f n → (g : ℕ) → g < fields → P g (get_or v' g 0)
        moved P i j g l = go (decide g f)
          where
            go : Dec (g ≡ f) → P g (get_or v' g 0)
            go (yes k) = subst (λ (h : ℕ). P h (get_or v' h 0)) (sym k) (subst (P f) (sym v'_there) j)
            go (no k) = subst (P g) (sym (v'_elsewhere g k)) (i g l)

        apart : (g : ℕ) → f < g → g ≡ f → ⊥
        apart g l i = omega arith

        there : get_or T.s f 0 ≡ n
        there =
            T.near (λ g m. g ≡ f → m ≡ n) (λ g l i. ap (λ (j : ℕ). get_or v' j 0) i ∙ v'_there)
            (tests_map _ _ (λ g m k i. absurd (apart g k i)) (at o d f n) t) (tests_map _ _ (λ g m k i. absurd (apart g k i)) (at o e f n) u) f in_fields refl

  pub extent_positive : (d : Diagram) → 1 ≤ extent d
  extent_positive (Leaf l) = omega arith
  extent_positive (Node f n y z) = omega arith

  pub tell : (k : ℕ) (d e : Diagram) (v : Frame) → extent d + extent e ≤ k → Formed o d → Formed o e → length v ≡ fields → Fresh v d → Fresh v e → d ≢ e → Told o v d e
  tell zero d e v b p q long x y h = absurd (none (extent_positive d) b)
    where
      none : 1 ≤ extent d → extent d + extent e ≤ 0 → ⊥
      none i j = omega arith
  tell (suc k) d e v b p q long x y h = go (heads d e) (tell k)
    where
      go : Heads d e → ((d' e' : Diagram) (v' : Frame) → extent d' + extent e' ≤ k → Formed o d' → Formed o e' → length v' ≡ fields → Fresh v' d' → Fresh v' e' → d' ≢ e' → Told o v' d' e') → Told o v d e
      go (leaves l m i j r) ih =
          subst₂ (Told o v) (sym i) (sym j)
          (tell_leaves l m v (subst (Formed o) i p) (subst (Formed o) j q) long (subst (Fresh v) i x) (subst (Fresh v) j y) (λ z. h (i ∙ ap {B = Diagram} Leaf z ∙ sym j)))
      go (split f n c i j r) ih = inner (equal_diagrams (off d f n) (off e f n))
        where
          shrinks : (extent (at o d f n) + extent (at o e f n) ≤ k) × (extent (off d f n) + extent (off e f n) ≤ k)
          shrinks = fits (split_shrinks L f n d e r)
            where
              fits : (extent (at o d f n) + extent (at o e f n) < extent d + extent e) × (extent (off d f n) + extent (off e f n) < extent d + extent e) → (extent (at o d f n) + extent (at o e f n) ≤ k) × (extent (off d f n) + extent (off e f n) ≤ k)
              fits z = (omega arith, omega arith)

          inner : Dec (off d f n ≡ off e f n) → Told o v d e
          inner (no z) =
              tell_off f n d e v p q long x y r (off_after L f n d p i) (off_after L f n e q j)
              (ih (off d f n) (off e f n) v shrinks.1 (off_formed L f n d p) (off_formed L f n e q) long (off_fresh f n d e v p q long x y r d x) (off_fresh f n d e v p q long x y r e y) z)
          inner (yes z) =
              tell_at f n d e v p q long x y r (at_greater L f n d p i) (at_greater L f n e q j)
              (ih (at o d f n) (at o e f n) (v' f n d e v p q long x y r) shrinks.0 (at_formed L f n d p) (at_formed L f n e q) (v'_long f n d e v p q long x y r)
              (at_fresh f n d e v p q long x y r d x (at_greater L f n d p i) (at_unlike L f n d p))
              (at_fresh f n d e v p q long x y r e y (at_greater L f n e q j) (at_unlike L f n e q))
              (at_differ f n d e p q r h z))

-- values that are not named

pub spare : (N : ℕ) (xs : List ℕ) → length xs < N → (v : ℕ) × (v < N) × (In v xs → ⊥)
spare zero xs h = absurd (none h)
  where
    none : length xs < 0 → ⊥
    none z = omega arith
spare (suc N) xs h = go (has decide xs N) (spare N)
  where
    go : Dec (In N xs) → ((ys : List ℕ) → length ys < N → (v : ℕ) × (v < N) × (In v ys → ⊥)) → (v : ℕ) × (v < suc N) × (In v xs → ⊥)
    go (no i) k = (N, omega arith, i)
    go (yes i) k = found (k (without N xs i) (less (without_length N xs i)))
      where
        less : suc (length (without N xs i)) ≡ length xs → length (without N xs i) < N
        less z = omega arith

        found : (v : ℕ) × (v < N) × (In v (without N xs i) → ⊥) → (v : ℕ) × (v < suc N) × (In v xs → ⊥)
        found (v, l, n) = (v, wider l, λ j. neither l (without_rest N xs i v j))
          where
            wider : v < N → v < suc N
            wider z = omega arith

            neither : v < N → (v ≡ N) ⊎ In v (without N xs i) → ⊥
            neither z (inl e) = omega arith
            neither z (inr m) = n m

-- a list made from a function of the index
abbrev pub listed : ℕ → (ℕ → ℕ) → List ℕ
listed zero g = []
listed (suc n) g = g 0 ∷ listed n (λ i. g (suc i))

pub length_listed : (n : ℕ) (g : ℕ → ℕ) → length (listed n g) ≡ n
length_listed zero g = refl
length_listed (suc n) g = ap suc (length_listed n (λ i. g (suc i)))

pub get_or-listed : (n : ℕ) (g : ℕ → ℕ) (f : ℕ) → f < n → get_or (listed n g) f 0 ≡ g f
get_or-listed zero g f h = absurd (none h)
  where
    none : f < 0 → ⊥
    none z = omega arith
get_or-listed (suc n) g zero h = refl
get_or-listed (suc n) g (suc f) h = get_or-listed n (λ i. g (suc i)) f (lower h)
  where
    lower : suc f < suc n → f < n
    lower z = omega arith
