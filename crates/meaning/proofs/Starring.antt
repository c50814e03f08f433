-- Sequences as least upper bounds, and star: its rounds end. Assumes nothing.
use Rattle.std.proofs.Common.{◌≡◌, ℕ, zero, suc, ◌+◌, ◌<◌, ◌≤◌, List, [], ◌∷◌, ◌++◌, map, length, get_or, Some, None, Option, sym, refl, ap, ◌∙◌, subst, ap₂, inl, inr, arith}
use lib.LanesLaws.{length-zip2}
use Rattle.format.specs.Fields.{fields}
use Rattle.format.specs.Actions.{apply, replaced}
use Rattle.weights.specs.Weights.{Ops, Weight, Laws}
use Rattle.weights.specs.Order.{Under, Lub, In, joins}
use Rattle.weights.proofs.Order.{under_eq, under_trans, zero_under, times_mono_left, joins_weight, joins_upper, joins_least, joins_mono, joins_equal, joins_times, joins_map}
use Rattle.walks.specs.Walks.{Same, Steps, pick, Weighed, stay, power, walk, Walked, start, onward}
use Rattle.walks.specs.Rounds.{Stopped}
use Rattle.walks.proofs.Walks.{power_weight, rounds}
use Rattle.meaning.specs.Decide.{choice, decide, equal_lists}
use Rattle.meaning.specs.Leaves.{Action, Frame, Cell, Each, gather, ActionFormed, CellFormed}
use Rattle.meaning.specs.Diagrams.{Diagram, Leaf, Node, reach, emits, weigh, Tests, SetsOf, Cells, Sets, Formed}
use Rattle.meaning.specs.Constructions.{join, sequence, pass_diagram, round}
use Rattle.meaning.specs.Frames.{InRange, Named}
use Rattle.meaning.specs.Meanings.{only, IsStar}
use Rattle.meaning.proofs.Gathering.{choice_yes, choice_no, choice_both, each_map}
use Rattle.meaning.proofs.Narrowing.{Weighted, formed_weighted, weigh_weight, emits_additive, none_some, tests_map, cells_map}
use Rattle.meaning.proofs.Canonical.{get_or-apply, apply_in_range, same_weights_everywhere}
use Rattle.meaning.proofs.Joining.{Joined, joined}
use Rattle.meaning.proofs.Sequencing.{sets_closed, Sequenced, sequenced}
use Rattle.meaning.proofs.Simple.{keep_sets, single_cells, pass_formed, pass_weighs}

pub gather_joins : (o : Ops) (g : Action → ℕ → ℕ) (l : List Cell) → gather o g l ≡ joins o l (λ c. g c.0 c.1)
gather_joins o g [] = refl
gather_joins o g (c ∷ l) = ap (o.join (g c.0 c.1)) (gather_joins o g l)

pub each_in : {X : Type 0} (P : X → Type 0) (xs : List X) → Each P xs → (x : X) → In x xs → P x
each_in P [] h x i = absurd i
each_in P (y ∷ ys) h x (inl e) = subst P (sym e) h.0
each_in P (y ∷ ys) h x (inr i) = each_in P ys h.1 x i

in_map : {X Y : Type 0} (g : X → Y) (xs : List X) (y : Y) → In y (map g xs) → (x : X) × In x xs × (y ≡ g x)
in_map g [] y i = absurd i
in_map g (x ∷ xs) y (inl e) = (x, inl refl, e)
in_map g (x ∷ xs) y (inr i) = further (in_map g xs y i)
  where
    further : (z : _) × In z xs × (y ≡ g z) → (z : _) × In z (x ∷ xs) × (y ≡ g z)
    further (z, j, e) = (z, inr j, e)

pub reach_cells : (Q : Cell → Type 0) (d : Diagram) (s : Frame) → Cells Q d → Each Q (reach d s)
reach_cells Q (Leaf l) s h = h
reach_cells Q (Node f n y z) s h = choice_both (Each Q) (decide (get_or s f 0) n) (reach y s) (reach z s) (λ e. reach_cells Q y s h.0) (λ e. reach_cells Q z s h.1)

pub formed_all : (o : Ops) (d : Diagram) → Formed o d → Cells (CellFormed o) d
formed_all o (Leaf l) h = h.cells
formed_all o (Node f n y z) h = (formed_all o y h.1, formed_all o z h.2)

pub apply_long : (a : Action) (s : Frame) → ActionFormed a → length s ≡ fields → length (apply a s) ≡ fields
apply_long a s h l = length-zip2 replaced a s (h.all_fields ∙ sym l) ∙ h.all_fields

module _ {o : Ops} (L : Laws o) (d : Diagram) (hd : Formed o d) where
  cell_formed : (s : Frame) (c : Cell) → In c (reach d s) → CellFormed o c
  cell_formed s c i = each_in (CellFormed o) (reach d s) (reach_cells (CellFormed o) d s (formed_all o d hd)) c i

  -- what follows the cells of the leaf reached is the least upper bound over all frames between
  pub sequence_lub : (b : Frame → Frame → ℕ) → ((h t : Frame) → Weight o (b h t)) → (s t : Frame) → InRange s → Lub o {I = (h : Frame) × InRange h} (λ h. o.times (weigh o d s h.0) (b h.0 t)) (gather o (λ a w. o.times w (b (apply a s) t)) (reach d s))
  sequence_lub b wb s t r =
      subst (Lub o {I = (h : Frame) × InRange h} (λ h. o.times (weigh o d s h.0) (b h.0 t))) (sym (gather_joins o (λ a w. o.times w (b (apply a s) t)) l))
      (record { weight = joins_weight L l next next_weight; upper = λ h. (bound h).below; least = λ c w k. (joins_least L l next w (λ x i. under_trans L (one x i) (record { left = L.times_weight _ _ (weigh_weight L d s (apply x.0 s) wd) (wb (apply x.0 s) t); right = w; below = k (apply x.0 s, apply_in_range x.0 s (cell_formed s x i).action r) }))).below })
    where
      l : List Cell
      l = reach d s

      wd : Weighted o d
      wd = formed_weighted o d hd

      next : Cell → ℕ
      next c = o.times c.1 (b (apply c.0 s) t)

      next_weight : (c : Cell) → In c l → Weight o (next c)
      next_weight c i = L.times_weight _ _ (cell_formed s c i).weight (wb (apply c.0 s) t)

      emit_weight : (h : Frame) (c : Cell) → In c l → Weight o (emits o s h c.0 c.1)
      emit_weight h c i = (emits_additive L s h).weight c.0 c.1 (cell_formed s c i).weight

      one : (c : Cell) → In c l → Under o (next c) (o.times (weigh o d s (apply c.0 s)) (b (apply c.0 s) t))
      one c i = times_mono_left L (wb (apply c.0 s) t) (subst (λ (x : ℕ). Under o x (weigh o d s h)) (choice_yes (equal_lists decide h h) c.1 o.zero refl) (subst (Under o (emits o s h c.0 c.1)) (sym (gather_joins o (emits o s h) l)) (joins_upper L l (λ x. emits o s h x.0 x.1) (emit_weight h) c i)))
        where
          h : Frame
          h = apply c.0 s

      term : (h : Frame) (c : Cell) → In c l → Under o (o.times (emits o s h c.0 c.1) (b h t)) (next c)
      term h c i = go (equal_lists decide (apply c.0 s) h)
        where
          go : (δ : Dec (apply c.0 s ≡ h)) → Under o (o.times (choice δ c.1 o.zero) (b h t)) (next c)
          go (yes e) = under_eq L (next_weight c i) (ap (λ (u : Frame). o.times c.1 (b u t)) (sym e))
          go (no e) = subst (λ (x : ℕ). Under o x (next c)) (sym (L.zero_absorbs_left (b h t) (wb h t))) (zero_under L (next_weight c i))

      bound : (h : (u : Frame) × InRange u) → Under o (o.times (weigh o d s h.0) (b h.0 t)) (joins o l next)
      bound h =
          subst (λ (x : ℕ). Under o x (joins o l next))
          (sym (ap (λ (x : ℕ). o.times x (b h.0 t)) (gather_joins o (emits o s h.0) l) ∙ joins_times L (b h.0 t) l (λ x. emits o s h.0 x.0 x.1) (wb h.0 t) (emit_weight h.0)))
          (joins_mono L l (λ x. o.times (emits o s h.0 x.0 x.1) (b h.0 t)) next (term h.0))

  -- the diagram's steps from frame to frame
  leads : Frame → Cell → Frame × ℕ
  leads s c = (apply c.0 s, c.1)

  step : Steps Frame
  step s = choice (decide (length s) fields) (map (leads s) (reach d s)) []

  same : Same Frame
  same = equal_lists decide

  step_there : (s : Frame) → length s ≡ fields → step s ≡ map (leads s) (reach d s)
  unfolding step
  step_there s e = choice_yes (decide (length s) fields) (map (leads s) (reach d s)) [] e

  step_elsewhere : (s : Frame) → (length s ≡ fields → ⊥) → step s ≡ []
  unfolding step
  step_elsewhere s e = choice_no (decide (length s) fields) (map (leads s) (reach d s)) [] e

  -- a step is taken by a cell of the leaf reached
  taken : (s : Frame) (p : Frame × ℕ) → In p (step s) → (c : Cell) × In c (reach d s) × (length s ≡ fields) × (p ≡ (apply c.0 s, c.1))
  unfolding leads
  taken s p i = go (decide (length s) fields)
    where
      go : Dec (length s ≡ fields) → (c : Cell) × In c (reach d s) × (length s ≡ fields) × (p ≡ (apply c.0 s, c.1))
      go (yes e) = found (in_map (leads s) (reach d s) p (subst (In p) (step_there s e) i))
        where
          found : (c : Cell) × In c (reach d s) × (p ≡ leads s c) → (c : Cell) × In c (reach d s) × (length s ≡ fields) × (p ≡ (apply c.0 s, c.1))
          found (c, j, q) = (c, j, e, q)
      go (no e) = absurd (subst (In p) (step_elsewhere s e) i)

  weighed : Weighed o step
  weighed s p i = go (taken s p i)
    where
      go : (c : Cell) × In c (reach d s) × (length s ≡ fields) × (p ≡ (apply c.0 s, c.1)) → Weight o p.1
      go (c, j, e, q) = subst (λ (x : Frame × ℕ). Weight o x.1) (sym q) (cell_formed s c j).weight

  pick_choice : {P : Type 0} (δ : Dec P) (a b : ℕ) → pick δ a b ≡ choice δ a b
  pick_choice (yes p) a b = refl
  pick_choice (no p) a b = refl

  stay_only : (s t : Frame) → stay o same s t ≡ only o s t o.one
  unfolding same
  stay_only s t = pick_choice (equal_lists decide s t) o.one o.zero

  -- joined over the steps is gathered over the cells
  joins_steps : (s : Frame) → length s ≡ fields → (b : Frame → ℕ) → joins o (step s) (λ p. o.times p.1 (b p.0)) ≡ gather o (λ a w. o.times w (b (apply a s))) (reach d s)
  unfolding leads
  joins_steps s e b =
      ap (λ (xs : List (Frame × ℕ)). joins o xs (λ p. o.times p.1 (b p.0))) (step_there s e)
      ∙ joins_map L (leads s) (reach d s) (λ p. o.times p.1 (b p.0))
      ∙ sym (gather_joins o (λ a w. o.times w (b (apply a s))) (reach d s))

  -- the rounds

  pub round_good : (k : ℕ) → Formed o (round o d k)
  unfolding round
  round_good zero = pass_formed L
  round_good (suc k) = (joined L (pass_diagram o) (sequence o d (round o d k)) (pass_formed L) (sequenced L (round o d k) (round_good k) d hd).formed).formed

  round_weighs : (k : ℕ) (s t : Frame) → length s ≡ fields → weigh o (round o d k) s t ≡ walk o same step k s t
  unfolding round
  round_weighs zero s t e = pass_weighs L s t e ∙ sym (stay_only s t)
  round_weighs (suc k) s t e =
      (joined L (pass_diagram o) (sequence o d (round o d k)) (pass_formed L) (sequenced L (round o d k) (round_good k) d hd).formed).weighs s t
      ∙ ap₂ o.join (pass_weighs L s t e ∙ sym (stay_only s t))
      ((sequenced L (round o d k) (round_good k) d hd).weighs s t e
      ∙ gather_joins o (λ a w. o.times w (weigh o (round o d k) (apply a s) t)) (reach d s)
      ∙ joins_equal L (reach d s) (λ c. o.times c.1 (weigh o (round o d k) (apply c.0 s) t)) (λ c. o.times c.1 (walk o same step k (apply c.0 s) t)) (λ c i. ap (o.times c.1) (round_weighs k (apply c.0 s) t (apply_long c.0 s (cell_formed s c i).action e)))
      ∙ sym (gather_joins o (λ a w. o.times w (walk o same step k (apply a s) t)) (reach d s))
      ∙ sym (joins_steps s e (λ h. walk o same step k h t)))

  -- frames of another length stay where they are
  walk_elsewhere : (k : ℕ) (s t : Frame) → (length s ≡ fields → ⊥) → walk o same step (suc k) s t ≡ o.join (stay o same s t) o.zero
  walk_elsewhere k s t h = ap (λ (xs : List (Frame × ℕ)). o.join (stay o same s t) (joins o xs (λ p. o.times p.1 (walk o same step k p.0 t)))) (step_elsewhere s h)

  stay_zero : (s t : Frame) → o.join (stay o same s t) o.zero ≡ stay o same s t
  stay_zero s t = L.join_commutative _ _ w L.zero_weight ∙ L.zero_neutral _ w
    where
      w : Weight o (stay o same s t)
      w = power_weight L same step weighed 0 s t

  stopped : (k : ℕ) → round o d k ≡ round o d (suc k) → Stopped o same step k
  stopped k e s t = go (decide (length s) fields)
    where
      still : (j : ℕ) → (length s ≡ fields → ⊥) → walk o same step j s t ≡ stay o same s t
      still zero h = refl
      still (suc j) h = walk_elsewhere j s t h ∙ stay_zero s t

      go : Dec (length s ≡ fields) → walk o same step (suc k) s t ≡ walk o same step k s t
      go (yes l) = sym (round_weighs (suc k) s t l) ∙ sym (ap (λ (x : Diagram). weigh o x s t) e) ∙ round_weighs k s t l
      go (no l) = still (suc k) l ∙ sym (still k l)

  -- a round that the next one repeats is the star
  pub star_means : (k : ℕ) → round o d k ≡ round o d (suc k) → IsStar o (weigh o d) (weigh o (round o d k))
  star_means k e = (
    power o same step,
    record { none = λ s t p q. stay_only s t; more = λ j s t p q. subst (Lub o {I = (h : Frame) × InRange h} (λ h. o.times (weigh o d s h.0) (power o same step j h.0 t))) (sym (joins_steps s p.all_fields (λ h. power o same step j h t))) (sequence_lub (power o same step j) (λ h u. power_weight L same step weighed j h u) s t p) },
    λ s t p q. subst (Lub o (λ j. power o same step j s t)) (sym (round_weighs k s t p.all_fields)) ((rounds L same step weighed k).stopped_star (stopped k e) s t),
  )

-- frames with given values in each field

abbrev pub spread : List ℕ → List Frame → List Frame
spread [] fs = []
spread (x ∷ xs) fs = map (λ s. x ∷ s) fs ++ spread xs fs

-- all frames of n fields whose values are among g's
abbrev pub frames_among : ℕ → (ℕ → List ℕ) → List Frame
frames_among zero g = [] ∷ []
frames_among (suc n) g = spread (g 0) (frames_among n (λ f. g (suc f)))

in_append_left : {X : Type 0} (x : X) (xs ys : List X) → In x xs → In x (xs ++ ys)
in_append_left x [] ys i = absurd i
in_append_left x (y ∷ xs) ys (inl e) = inl e
in_append_left x (y ∷ xs) ys (inr i) = inr (in_append_left x xs ys i)

in_append_right : {X : Type 0} (x : X) (xs ys : List X) → In x ys → In x (xs ++ ys)
in_append_right x [] ys i = i
in_append_right x (y ∷ xs) ys i = inr (in_append_right x xs ys i)

in_map_of : {X Y : Type 0} (g : X → Y) (xs : List X) (x : X) → In x xs → In (g x) (map g xs)
in_map_of g [] x i = absurd i
in_map_of g (y ∷ xs) x (inl e) = inl (ap g e)
in_map_of g (y ∷ xs) x (inr i) = inr (in_map_of g xs x i)

in_spread : (v : ℕ) (s : Frame) (xs : List ℕ) (fs : List Frame) → In v xs → In s fs → In (v ∷ s) (spread xs fs)
in_spread v s [] fs i j = absurd i
in_spread v s (x ∷ xs) fs (inl e) j = in_append_left (v ∷ s) (map (λ r. x ∷ r) fs) (spread xs fs) (subst (λ (u : ℕ). In (v ∷ s) (map (λ (r : Frame). u ∷ r) fs)) e (in_map_of (λ r. v ∷ r) fs s j))
in_spread v s (x ∷ xs) fs (inr i) j = in_append_right (v ∷ s) (map (λ r. x ∷ r) fs) (spread xs fs) (in_spread v s xs fs i j)

in_frames : (n : ℕ) (g : ℕ → List ℕ) (s : Frame) → length s ≡ n → ((f : ℕ) → f < n → In (get_or s f 0) (g f)) → In s (frames_among n g)
in_frames zero g [] e h = inl refl
in_frames zero g (v ∷ s) e h = absurd (clash e)
  where
    clash : suc (length s) ≡ 0 → ⊥
    clash r = omega arith
in_frames (suc n) g [] e h = absurd (clash e)
  where
    clash : 0 ≡ suc n → ⊥
    clash r = omega arith
in_frames (suc n) g (v ∷ s) e h = in_spread v s (g 0) (frames_among n (λ f. g (suc f))) (h 0 (omega arith)) (in_frames n (λ f. g (suc f)) s (lower e) (λ f l. h (suc f) (upper f l)))
  where
    lower : suc (length s) ≡ suc n → length s ≡ n
    lower r = omega arith

    upper : (f : ℕ) → f < n → suc f < suc n
    upper f l = omega arith

length_map_append : {X Y : Type 0} (g : X → Y) (xs : List X) (ys : List Y) → length (map g xs ++ ys) ≡ length xs + length ys
length_map_append g [] ys = omega arith
length_map_append g (x ∷ xs) ys = more (length_map_append g xs ys)
  where
    more : length (map g xs ++ ys) ≡ length xs + length ys → suc (length (map g xs ++ ys)) ≡ suc (length xs) + length ys
    more e = omega arith

length_spread : (xs ys : List ℕ) (fs gs : List Frame) → length xs ≡ length ys → length fs ≡ length gs → length (spread xs fs) ≡ length (spread ys gs)
length_spread [] [] fs gs p q = refl
length_spread [] (y ∷ ys) fs gs p q = absurd (clash p)
  where
    clash : 0 ≡ suc (length ys) → ⊥
    clash r = omega arith
length_spread (x ∷ xs) [] fs gs p q = absurd (clash p)
  where
    clash : suc (length xs) ≡ 0 → ⊥
    clash r = omega arith
length_spread (x ∷ xs) (y ∷ ys) fs gs p q =
    length_map_append (λ s. x ∷ s) fs (spread xs fs) ∙ ap₂ ◌+◌ q (length_spread xs ys fs gs (lower p) q) ∙ sym (length_map_append (λ s. y ∷ s) gs (spread ys gs))
  where
    lower : suc (length xs) ≡ suc (length ys) → length xs ≡ length ys
    lower r = omega arith

length_frames : (n : ℕ) (g h : ℕ → List ℕ) → ((f : ℕ) → length (g f) ≡ length (h f)) → length (frames_among n g) ≡ length (frames_among n h)
length_frames zero g h e = refl
length_frames (suc n) g h e = length_spread (g 0) (h 0) (frames_among n (λ f. g (suc f))) (frames_among n (λ f. h (suc f))) (e 0) (length_frames n (λ f. g (suc f)) (λ f. h (suc f)) (λ f. e (suc f)))

module _ (names : ℕ → List ℕ) {o : Ops} (L : Laws o) (d : Diagram) (hd : Formed o d) (nd : Named names d) where
  pub round_named : (k : ℕ) → Named names (round o d k)
  unfolding round
  round_named zero = record { tests = tt; sets = single_cells L (λ c. SetsOf (λ f n. In n (names f)) c.0) _ _ (keep_sets (λ f n. In n (names f))) }
  round_named (suc k) = go (round_named k)
    where
      P : ℕ → ℕ → Type 0
      P f n = In n (names f)

      S : Sequenced o d (round o d k) (sequence o d (round o d k))
      S = sequenced L (round o d k) (round_good L d hd k) d hd

      J : Joined o (pass_diagram o) (sequence o d (round o d k)) (join o (pass_diagram o) (sequence o d (round o d k)))
      J = joined L (pass_diagram o) (sequence o d (round o d k)) (pass_formed L) S.formed

      go : Named names (round o d k) → Named names (join o (pass_diagram o) (sequence o d (round o d k)))
      go n =
          record {
            tests = J.tests P tt (S.tests P nd.tests n.tests);
            sets = J.cells (λ c. SetsOf P c.0) (sets_closed o P) (single_cells L (λ c. SetsOf P c.0) _ _ (keep_sets P)) (S.cells (λ c. SetsOf P c.0) (sets_closed o P) nd.sets n.sets);
          }

  -- a frame whose fields hold what s holds, or a named value
  record Near (s x : Frame) : Type 0 where
    long : length x ≡ fields
    holds : (f : ℕ) → f < fields → In (get_or x f 0) (get_or s f 0 ∷ names f)

  near_step : (s x y : Frame) (w : ℕ) → Near s x → In (y, w) (step L d hd x) → Near s y
  near_step s x y w h i = go (taken L d hd x (y, w) i)
    where
      P : ℕ → ℕ → Type 0
      P f n = In n (names f)

      go : (c : Cell) × In c (reach d x) × (length x ≡ fields) × (◌≡◌ {A = Frame × ℕ} (y, w) (apply c.0 x, c.1)) → Near s y
      go (c, j, e, q) = subst (Near s) (sym (ap (λ (p : Frame × ℕ). p.0) q)) (record { long = apply_long c.0 x formed e; holds = holds })
        where
          formed : ActionFormed c.0
          formed = (cell_formed L d hd x c j).action

          value : (f : ℕ) (z : Option ℕ) → get_or c.0 f None ≡ z → f < fields → In (replaced z (get_or x f 0)) (get_or s f 0 ∷ names f)
          value f None r l = h.holds f l
          value f (Some n) r l = inr (each_in (λ b. SetsOf P b.0) (reach d x) (reach_cells (λ b. SetsOf P b.0) d x nd.sets) c j f n r)

          within : {m f : ℕ} → m ≡ fields → f < fields → f < m
          within a b = omega arith

          holds : (f : ℕ) → f < fields → In (get_or (apply c.0 x) f 0) (get_or s f 0 ∷ names f)
          holds f l = subst (λ (v : ℕ). In v (get_or s f 0 ∷ names f)) (sym (get_or-apply c.0 x f (within formed.all_fields l) (within e l))) (value f (get_or c.0 f None) refl l)

  near_walked : (s : Frame) → length s ≡ fields → (n : ℕ) (x : Frame) (c : ℕ) → Walked o (step L d hd) s n x c → Near s x
  near_walked s e n x c start = record { long = e; holds = λ f l. inl refl }
  near_walked s e n x c (onward v m) = near_step s _ _ _ (near_walked s e _ _ _ v) m

  pub enough_rounds : ℕ
  enough_rounds = length (frames_among fields (λ f. 0 ∷ names f))

  -- the rounds end
  pub star_ends : round o d enough_rounds ≡ round o d (suc enough_rounds)
  unfolding enough_rounds
  star_ends =
      same_weights_everywhere names L (round o d K) (round o d (suc K)) (round_good L d hd K) (round_good L d hd (suc K)) (round_named K) (round_named (suc K)) (λ s t e.
      round_weighs L d hd K s t e
      ∙ sym ((rounds L (same L d hd) (step L d hd) (weighed L d hd) K).ends s (frames_among fields (λ f. get_or s f 0 ∷ names f)) (λ n x c v h. inr (met s e x (near_walked s e n x c v))) (few s) t)
      ∙ sym (round_weighs L d hd (suc K) s t e))
    where
      K : ℕ
      K = length (frames_among fields (λ f. 0 ∷ names f))

      met : (s : Frame) → length s ≡ fields → (x : Frame) → Near s x → In x (frames_among fields (λ f. get_or s f 0 ∷ names f))
      met s e x h = in_frames fields (λ f. get_or s f 0 ∷ names f) x h.long h.holds

      few : (s : Frame) → length (frames_among fields (λ f. get_or s f 0 ∷ names f)) ≤ K
      few s = bound (length_frames fields (λ f. get_or s f 0 ∷ names f) (λ f. 0 ∷ names f) (λ f. refl))
        where
          bound : {a b : ℕ} → a ≡ b → a ≤ b
          bound r = omega arith

-- the values that a diagram tests or sets

abbrev set_values : Action → List ℕ
set_values [] = []
set_values (None ∷ a) = set_values a
set_values (Some n ∷ a) = n ∷ set_values a

abbrev cell_values : List Cell → List ℕ
cell_values [] = []
cell_values (c ∷ l) = set_values c.0 ++ cell_values l

abbrev pub values : Diagram → List ℕ
values (Leaf l) = cell_values l
values (Node f n y z) = n ∷ (values y ++ values z)

in_set_values : (a : Action) → SetsOf (λ f n. In n (set_values a)) a
in_set_values [] f n e = none_some n e
in_set_values (None ∷ a) zero n e = none_some n e
in_set_values (None ∷ a) (suc f) n e = in_set_values a f n e
in_set_values (Some m ∷ a) zero n e = inl (sym (cc))
in_set_values (Some m ∷ a) (suc f) n e = inr (in_set_values a f n e)

in_cell_values : (l : List Cell) → Each (λ c. SetsOf (λ f n. In n (cell_values l)) c.0) l
in_cell_values [] = tt
in_cell_values (c ∷ l) = (
  λ f n e. in_append_left n (set_values c.0) (cell_values l) (in_set_values c.0 f n e),
  each_map (λ b k f n e. in_append_right n (set_values c.0) (cell_values l) (k f n e)) l (in_cell_values l),
)

values_tests : (d : Diagram) → Tests (λ f n. In n (values d)) d
values_tests (Leaf l) = tt
values_tests (Node g m y z) = (
  inl refl,
  tests_map _ _ (λ f n i. inr (in_append_left n (values y) (values z) i)) y (values_tests y),
  tests_map _ _ (λ f n i. inr (in_append_right n (values y) (values z) i)) z (values_tests z),
)

values_sets : (d : Diagram) → Sets (λ f n. In n (values d)) d
values_sets (Leaf l) = in_cell_values l
values_sets (Node g m y z) = (
  cells_map _ _ (λ c k f n e. inr (in_append_left n (values y) (values z) (k f n e))) y (values_sets y),
  cells_map _ _ (λ c k f n e. inr (in_append_right n (values y) (values z) (k f n e))) z (values_sets z),
)

-- a diagram's values are names for it
pub named_by_values : (d : Diagram) → Named (λ f. values d) d
named_by_values d = record { tests = values_tests d; sets = values_sets d }

-- the rounds of every well-formed diagram end
pub rounds_end : {o : Ops} → Laws o → (d : Diagram) → Formed o d → (k : ℕ) × (round o d k ≡ round o d (suc k))
rounds_end L d hd = (enough_rounds (λ f. values d) L d hd (named_by_values d), star_ends (λ f. values d) L d hd (named_by_values d))

-- as many rounds as there are frames of the diagram's values
unfoldable pub rounds_bound : Diagram → ℕ
rounds_bound d = length (frames_among fields (λ f. 0 ∷ values d))

pub rounds_end_by : {o : Ops} → Laws o → (d : Diagram) → Formed o d → round o d (rounds_bound d) ≡ round o d (suc (rounds_bound d))
unfolding enough_rounds rounds_bound
rounds_end_by L d hd = star_ends (λ f. values d) L d hd (named_by_values d)
