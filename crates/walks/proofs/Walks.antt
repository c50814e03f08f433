-- Walks of nonzero weight need not meet a state twice, so that longer ones add nothing.
use Rattle.std.proofs.Common.{◌≡◌, ℕ, zero, suc, ◌+◌, ◌≤◌, ◌⊎◌, List, [], ◌∷◌, map, length, sym, refl, ap, ◌∙◌, subst, inl, inr, arith}
use native.Mathlib.Decide.{ℕ_discrete, dec_le}
use Rattle.weights.specs.Weights.{Ops, Laws, Weight}
use Rattle.weights.specs.Order.{In, Lub, Under, joins}
use Rattle.weights.proofs.Order.{under_refl, under_trans, under_antisym, under_zero, zero_under, join_left, join_right, join_least, times_mono_left, times_mono_right, times_under_right, joins_weight, joins_upper, joins_least, joins_equal, joins_map, joins_swap, joins_times, times_joins, join_zero}
use Rattle.walks.specs.Walks.{Same, Steps, pick, Weighed, stay, power, walk, Walked, start, onward, MeetsOnly, up_to}
use Rattle.walks.specs.Rounds.{Rounds}

-- what is left of a list without one of its elements
abbrev pub without : {X : Type 0} (x : X) (U : List X) → In x U → List X
without x [] m = absurd m
without x (y ∷ ys) (inl e) = ys
without x (y ∷ ys) (inr m) = y ∷ without x ys m

pub without_length : {X : Type 0} (x : X) (U : List X) (m : In x U) → suc (length (without x U m)) ≡ length U
without_length x [] m = absurd m
without_length x (y ∷ ys) (inl e) = refl
without_length x (y ∷ ys) (inr m) = ap suc (without_length x ys m)

pub without_rest :
    {X : Type 0} (x : X) (U : List X) (m : In x U) (y : X) →
    In y U →
    (y ≡ x) ⊎ In y (without x U m)
without_rest x [] m y n = absurd m
without_rest x (z ∷ zs) (inl e) y (inl f) = inl (f ∙ sym e)
without_rest x (z ∷ zs) (inl e) y (inr n) = inr n
without_rest x (z ∷ zs) (inr m) y (inl f) = inr (inl f)
without_rest x (z ∷ zs) (inr m) y (inr n) = go (without_rest x zs m y n)
  where
    go : (y ≡ x) ⊎ In y (without x zs m) → (y ≡ x) ⊎ ((y ≡ z) ⊎ In y (without x zs m))
    go (inl f) = inl f
    go (inr k) = inr (inr k)

pub without_in : {X : Type 0} (x : X) (U : List X) (m : In x U) (y : X) → In y (without x U m) → In y U
without_in x [] m y n = absurd m
without_in x (z ∷ zs) (inl e) y n = inr n
without_in x (z ∷ zs) (inr m) y (inl f) = inl f
without_in x (z ∷ zs) (inr m) y (inr n) = inr (without_in x zs m y n)

-- membership is decided where equality is
either_dec : {P Q : Type 0} → Dec P → Dec Q → Dec (P ⊎ Q)
either_dec (yes p) d = yes (inl p)
either_dec (no n) (yes q) = yes (inr q)
either_dec (no n) (no k) = no (elim [ inl p ↦ n p | inr q ↦ k q ])

pub has : {X : Type 0} → Same X → (U : List X) (x : X) → Dec (In x U)
has same [] x = no (λ m. m)
has same (y ∷ ys) x = either_dec (same x y) (has same ys x)

in_map_suc : (i : ℕ) (xs : List ℕ) → In i (map suc xs) → (j : ℕ) × (i ≡ suc j) × In j xs
in_map_suc i [] m = absurd m
in_map_suc i (x ∷ xs) (inl e) = (x, e, inl refl)
in_map_suc i (x ∷ xs) (inr m) = let r = in_map_suc i xs m in (r.0, r.1, inr r.2)

pub up_to_below : (k i : ℕ) → In i (up_to k) → i ≤ k
up_to_below zero i (inl e) = omega arith
up_to_below zero i (inr m) = absurd m
up_to_below (suc k) i (inl e) = omega arith
up_to_below (suc k) i (inr m) =
    let r = in_map_suc i (up_to k) m in
    let h = up_to_below k r.0 r.2 in
    omega arith

module _ {o : Ops} (l : Laws o) {X : Type 0} (same : Same X) (step : Steps X) (weighed : Weighed o step) where
  -- the walks of at most k steps whose steps all lead into U
  abbrev pub within : ℕ → List X → X → X → ℕ
  within zero U s t = stay o same s t
  within (suc k) U s t =
      o.join (stay o same s t)
      (joins o (step s) (λ p. pick (has same U p.0) (o.times p.1 (within k U p.0 t)) o.zero))

  pick_weight : {P : Type 0} (d : Dec P) {a b : ℕ} → Weight o a → Weight o b → Weight o (pick d a b)
  pick_weight (yes p) v w = v
  pick_weight (no n) v w = w

  pick_under : {P : Type 0} (d : Dec P) {a b : ℕ} → Weight o b → (P → Under o a b) → Under o (pick d a o.zero) b
  pick_under (yes p) w h = h p
  pick_under (no n) w h = zero_under l w

  under_pick : {P : Type 0} (d : Dec P) {a : ℕ} → P → Weight o a → Under o a (pick d a o.zero)
  under_pick (yes p) q w = under_refl l w
  under_pick (no n) q w = absurd (n q)

  pub stay_weight : (s t : X) → Weight o (stay o same s t)
  stay_weight s t = pick_weight (same s t) l.one_weight l.zero_weight

  -- walks of at most k steps: their weight is the least above staying and above each step on
  step_weight : (k : ℕ) (s t : X) (p : X × ℕ) → In p (step s) → ((x : X) → Weight o (walk o same step k x t)) → Weight o (o.times p.1 (walk o same step k p.0 t))
  step_weight k s t p m h = l.times_weight _ _ (weighed s p m) (h p.0)

  pub walk_weight : (k : ℕ) (s t : X) → Weight o (walk o same step k s t)
  walk_weight zero s t = stay_weight s t
  walk_weight (suc k) s t =
      l.join_weight _ _ (stay_weight s t)
      (joins_weight l (step s) _ (λ p m. step_weight k s t p m (λ x. walk_weight k x t)))

  pub walk_stay : (k : ℕ) (s t : X) → Under o (stay o same s t) (walk o same step k s t)
  walk_stay zero s t = under_refl l (stay_weight s t)
  walk_stay (suc k) s t =
      join_left l (stay_weight s t)
      (joins_weight l (step s) _ (λ p m. step_weight k s t p m (λ x. walk_weight k x t)))

  pub walk_onward :
      (k : ℕ) (s t : X) (p : X × ℕ) →
      In p (step s) →
      Under o (o.times p.1 (walk o same step k p.0 t)) (walk o same step (suc k) s t)
  walk_onward k s t p m =
      let w = λ (q : X × ℕ) (n : In q (step s)). step_weight k s t q n (λ x. walk_weight k x t) in
      under_trans l (joins_upper l (step s) (λ q. o.times q.1 (walk o same step k q.0 t)) w p m)
      (join_right l (stay_weight s t) (joins_weight l (step s) _ w))

  pub walk_least :
      (k : ℕ) (s t : X) {b : ℕ} →
      Under o (stay o same s t) b →
      ((p : X × ℕ) → In p (step s) → Under o (o.times p.1 (walk o same step k p.0 t)) b) →
      Under o (walk o same step (suc k) s t) b
  walk_least k s t h g =
      join_least l h (joins_least l (step s) (λ q. o.times q.1 (walk o same step k q.0 t)) h.right g)

  pub walk_rises : (k : ℕ) (s t : X) → Under o (walk o same step k s t) (walk o same step (suc k) s t)
  walk_rises zero s t = walk_stay 1 s t
  walk_rises (suc k) s t =
      walk_least k s t (walk_stay (suc (suc k)) s t)
      (λ p m.
      under_trans l (times_mono_right l (weighed s p m) (walk_rises k p.0 t)) (walk_onward (suc k) s t p m))

  -- the same of walks whose steps lead into U
  pub within_weight : (k : ℕ) (U : List X) (s t : X) → Weight o (within k U s t)
  within_weight zero U s t = stay_weight s t
  within_weight (suc k) U s t =
      l.join_weight _ _ (stay_weight s t)
      (joins_weight l (step s) _
      (λ p m.
      pick_weight (has same U p.0) (l.times_weight _ _ (weighed s p m) (within_weight k U p.0 t))
      l.zero_weight))

  inner : ℕ → List X → X → X × ℕ → ℕ
  inner k U t p = pick (has same U p.0) (o.times p.1 (within k U p.0 t)) o.zero

  inner_weight : (k : ℕ) (U : List X) (s t : X) (p : X × ℕ) → In p (step s) → Weight o (inner k U t p)
  unfolding inner
  inner_weight k U s t p m =
      pick_weight (has same U p.0) (l.times_weight _ _ (weighed s p m) (within_weight k U p.0 t))
      l.zero_weight

  pub within_stay : (k : ℕ) (U : List X) (s t : X) → Under o (stay o same s t) (within k U s t)
  unfolding inner
  within_stay zero U s t = under_refl l (stay_weight s t)
  within_stay (suc k) U s t =
      join_left l (stay_weight s t) (joins_weight l (step s) (inner k U t) (inner_weight k U s t))

  pub within_onward :
      (k : ℕ) (U : List X) (s t : X) (p : X × ℕ) →
      In p (step s) →
      In p.0 U →
      Under o (o.times p.1 (within k U p.0 t)) (within (suc k) U s t)
  unfolding inner
  within_onward k U s t p m q =
      under_trans l
      (under_pick (has same U p.0) q (l.times_weight _ _ (weighed s p m) (within_weight k U p.0 t)))
      (under_trans l (joins_upper l (step s) (inner k U t) (inner_weight k U s t) p m)
      (join_right l (stay_weight s t) (joins_weight l (step s) (inner k U t) (inner_weight k U s t))))

  pub within_least :
      (k : ℕ) (U : List X) (s t : X) {b : ℕ} →
      Under o (stay o same s t) b →
      ((p : X × ℕ) → In p (step s) → In p.0 U → Under o (o.times p.1 (within k U p.0 t)) b) →
      Under o (within (suc k) U s t) b
  unfolding inner
  within_least k U s t h g =
      join_least l h
      (joins_least l (step s) (inner k U t) h.right
      (λ p m. pick_under (has same U p.0) h.right (g p m)))

  pub within_rises : (k : ℕ) (U : List X) (s t : X) → Under o (within k U s t) (within (suc k) U s t)
  within_rises zero U s t = within_stay 1 U s t
  within_rises (suc k) U s t =
      within_least k U s t (within_stay (suc (suc k)) U s t)
      (λ p m q.
      under_trans l (times_mono_right l (weighed s p m) (within_rises k U p.0 t))
      (within_onward (suc k) U s t p m q))

  pub within_wider :
      (k : ℕ) (R U : List X) →
      ((x : X) → In x R → In x U) →
      (s t : X) →
      Under o (within k R s t) (within k U s t)
  within_wider zero R U sub s t = under_refl l (stay_weight s t)
  within_wider (suc k) R U sub s t =
      within_least k R s t (within_stay (suc k) U s t)
      (λ p m q.
      under_trans l (times_mono_right l (weighed s p m) (within_wider k R U sub p.0 t))
      (within_onward k U s t p m (sub p.0 q)))

  pub within_walk : (k : ℕ) (U : List X) (s t : X) → Under o (within k U s t) (walk o same step k s t)
  within_walk zero U s t = under_refl l (stay_weight s t)
  within_walk (suc k) U s t =
      within_least k U s t (walk_stay (suc k) s t)
      (λ p m q.
      under_trans l (times_mono_right l (weighed s p m) (within_walk k U p.0 t)) (walk_onward k s t p m))

  -- a walk that may meet g either avoids it, or goes on from its last visit to g, which weighs no less
  pub cut :
      (k : ℕ) (U R : List X) (g : X) →
      ((x : X) → In x U → (x ≡ g) ⊎ In x R) →
      (h t : X) →
      Under o (within k U h t) (o.join (within k R h t) (within k R g t))
  cut zero U R g split h t = join_left l (stay_weight h t) (stay_weight g t)
  cut (suc k) U R g split h t =
      within_least k U h t (under_trans l (within_stay (suc k) R h t) onto_left)
      (λ p m q.
      under_trans l (times_mono_right l (weighed h p m) (cut k U R g split p.0 t))
      (subst (λ v. Under o v (o.join (within (suc k) R h t) (within (suc k) R g t)))
      (sym
      (l.times_distributes_left p.1 (within k R p.0 t) (within k R g t) (weighed h p m)
      (within_weight k R p.0 t)
      (within_weight k R g t)))
      (join_least l (first p m (split p.0 q)) (second p m))))
    where
      onto_left : Under o (within (suc k) R h t) (o.join (within (suc k) R h t) (within (suc k) R g t))
      onto_left = join_left l (within_weight (suc k) R h t) (within_weight (suc k) R g t)

      onto_right : Under o (within k R g t) (o.join (within (suc k) R h t) (within (suc k) R g t))
      onto_right =
          under_trans l (within_rises k R g t)
          (join_right l (within_weight (suc k) R h t) (within_weight (suc k) R g t))

      second :
          (p : X × ℕ) →
          In p (step h) →
          Under o (o.times p.1 (within k R g t)) (o.join (within (suc k) R h t) (within (suc k) R g t))
      second p m = under_trans l (times_under_right l (weighed h p m) (within_weight k R g t)) onto_right

      first :
          (p : X × ℕ) →
          In p (step h) →
          (p.0 ≡ g) ⊎ In p.0 R →
          Under o (o.times p.1 (within k R p.0 t)) (o.join (within (suc k) R h t) (within (suc k) R g t))
      first p m (inl e) =
          subst
          (λ x. Under o (o.times p.1 (within k R x t)) (o.join (within (suc k) R h t) (within (suc k) R g t)))
          (sym e)
          (second p m)
      first p m (inr r) = under_trans l (within_onward k R h t p m r) onto_left

  pub cut_self :
      (k : ℕ) (U R : List X) (g : X) →
      ((x : X) → In x U → (x ≡ g) ⊎ In x R) →
      (t : X) →
      Under o (within k U g t) (within k R g t)
  cut_self k U R g split t =
      subst (Under o (within k U g t)) (l.join_idempotent (within k R g t) (within_weight k R g t))
      (cut k U R g split g t)

  pub settles : (k : ℕ) (U : List X) → length U ≤ k → (s t : X) → Under o (within (suc k) U s t) (within k U s t)
  settles zero [] h s t = within_least 0 [] s t (under_refl l (stay_weight s t)) (λ p m q. absurd q)
  settles zero (x ∷ xs) h s t = absurd (omega arith)
  settles (suc k) U h s t =
      within_least (suc k) U s t (within_stay (suc k) U s t)
      (λ p m q.
      let e = without_length p.0 U q in
      let R = without p.0 U q in
      let short : length R ≤ k = omega arith in
      under_trans l
      (times_mono_right l (weighed s p m)
      (under_trans l (cut_self (suc k) U R p.0 (without_rest p.0 U q) t)
      (under_trans l (settles k R short p.0 t)
      (within_wider k R U (without_in p.0 U q) p.0 t))))
      (within_onward k U s t p m q))

  pub walked_weight : {s : X} {n : ℕ} {x : X} {c : ℕ} → Walked o step s n x c → Weight o c
  walked_weight start = l.one_weight
  walked_weight (onward {x = x} {y = y} {c = c} {w = w} v m) =
      l.times_weight c w (walked_weight v) (weighed x (y, w) m)

  pub walk_within :
      (U : List X) (s : X) →
      ((n : ℕ) (x : X) (c : ℕ) → Walked o step s n x c → (c ≡ o.zero → ⊥) → In x U) →
      (k n : ℕ) (h t : X) (c : ℕ) →
      Walked o step s n h c →
      Under o (o.times c (walk o same step k h t)) (o.times c (within k U h t))
  walk_within U s met zero n h t c v = under_refl l (l.times_weight _ _ (walked_weight v) (stay_weight h t))
  walk_within U s met (suc k) n h t c v =
      subst (λ a. Under o a target)
      (sym
      (l.times_distributes_left c (stay o same h t) (joins o (step h) on) weight (stay_weight h t)
      (joins_weight l (step h) on on_weight) ∙
      ap (o.join (o.times c (stay o same h t))) (times_joins l c (step h) on weight on_weight)))
      (join_least l (times_mono_right l weight (within_stay (suc k) U h t))
      (joins_least l (step h) (λ p. o.times c (on p))
      (l.times_weight _ _ weight (within_weight (suc k) U h t))
      (λ p m.
      through p m (ℕ_discrete (o.times c p.1) o.zero)
      (walk_within U s met k (suc n) p.0 t (o.times c p.1) (onward v m)))))
    where
      weight : Weight o c
      weight = walked_weight v

      target : ℕ
      target = o.times c (within (suc k) U h t)

      on : X × ℕ → ℕ
      on p = o.times p.1 (walk o same step k p.0 t)

      on_weight : (p : X × ℕ) → In p (step h) → Weight o (on p)
      on_weight p m = l.times_weight _ _ (weighed h p m) (walk_weight k p.0 t)

      regroup : (p : X × ℕ) → In p (step h) → (a : ℕ) → Weight o a → o.times (o.times c p.1) a ≡ o.times c (o.times p.1 a)
      regroup p m a w = l.times_associative c p.1 a weight (weighed h p m) w

      through :
          (p : X × ℕ) →
          In p (step h) →
          Dec (o.times c p.1 ≡ o.zero) →
          Under o (o.times (o.times c p.1) (walk o same step k p.0 t)) (o.times (o.times c p.1) (within k U p.0 t)) →
          Under o (o.times c (on p)) target
      through p m (yes e) ih =
          subst (λ a. Under o a target)
          (sym (l.zero_absorbs_left _ (walk_weight k p.0 t)) ∙
          ap (λ a. o.times a (walk o same step k p.0 t)) (sym e) ∙
          regroup p m _ (walk_weight k p.0 t))
          (zero_under l (l.times_weight _ _ weight (within_weight (suc k) U h t)))
      through p m (no z) ih =
          under_trans l
          (subst (λ a. Under o a (o.times c (o.times p.1 (within k U p.0 t))))
          (regroup p m _ (walk_weight k p.0 t))
          (subst (Under o (o.times (o.times c p.1) (walk o same step k p.0 t)))
          (regroup p m _ (within_weight k U p.0 t))
          ih))
          (times_mono_right l weight (within_onward k U h t p m (met (suc n) p.0 _ (onward v m) z)))

  -- walks longer than the number of states met besides the first add nothing
  pub walk_ends :
      (U : List X) (s : X) →
      MeetsOnly o step s U →
      (k : ℕ) →
      length U ≤ k →
      (t : X) →
      walk o same step (suc k) s t ≡ walk o same step k s t
  walk_ends U s met k h t = under_antisym l settled (walk_rises k s t)
    where
      one_more : (n : ℕ) → Under o (walk o same step n s t) (within n (s ∷ U) s t)
      one_more n =
          subst (λ a. Under o a (within n (s ∷ U) s t)) (l.one_neutral_left _ (walk_weight n s t))
          (subst (Under o (o.times o.one (walk o same step n s t)))
          (l.one_neutral_left _ (within_weight n (s ∷ U) s t))
          (walk_within (s ∷ U) s met n 0 s t o.one start))

      settled : Under o (walk o same step (suc k) s t) (walk o same step k s t)
      settled =
          under_trans l (one_more (suc k))
          (under_trans l (cut_self (suc k) (s ∷ U) U s (λ x m. m) t)
          (under_trans l (settles k U h s t) (within_walk k U s t)))

  -- more steps weigh no less
  pub walk_up : (i j : ℕ) → i ≤ j → (s t : X) → Under o (walk o same step i s t) (walk o same step j s t)
  walk_up i zero h s t =
      let e : 0 ≡ i = omega arith in
      subst (λ n. Under o (walk o same step n s t) (stay o same s t)) e (under_refl l (stay_weight s t))
  walk_up i (suc j) h s t = go (ℕ_discrete i (suc j)) (λ h'. walk_up i j h' s t)
    where
      go :
          Dec (i ≡ suc j) →
          (i ≤ j → Under o (walk o same step i s t) (walk o same step j s t)) →
          Under o (walk o same step i s t) (walk o same step (suc j) s t)
      go (yes e) ih =
          subst (λ n. Under o (walk o same step n s t) (walk o same step (suc j) s t)) (sym e)
          (under_refl l (walk_weight (suc j) s t))
      go (no n) ih = under_trans l (ih (omega arith)) (walk_rises j s t)

  -- what settles from k on is above all walks
  pub walk_settled :
      (s t : X) (k : ℕ) →
      ((j : ℕ) → k ≤ j → walk o same step (suc j) s t ≡ walk o same step j s t) →
      (j : ℕ) →
      Under o (walk o same step j s t) (walk o same step k s t)
  walk_settled s t k fixed zero = walk_up 0 k (omega arith) s t
  walk_settled s t k fixed (suc j) = go (dec_le k j) (walk_settled s t k fixed j)
    where
      go :
          Dec (k ≤ j) →
          Under o (walk o same step j s t) (walk o same step k s t) →
          Under o (walk o same step (suc j) s t) (walk o same step k s t)
      go (yes h) ih = subst (λ a. Under o a (walk o same step k s t)) (sym (fixed j h)) ih
      go (no n) ih = walk_up (suc j) k (omega arith) s t

  pub power_weight : (i : ℕ) (s t : X) → Weight o (power o same step i s t)
  power_weight zero s t = stay_weight s t
  power_weight (suc i) s t =
      joins_weight l (step s) _ (λ p m. l.times_weight _ _ (weighed s p m) (power_weight i p.0 t))

  pub power_walk : (i : ℕ) (s t : X) → Under o (power o same step i s t) (walk o same step i s t)
  power_walk zero s t = under_refl l (stay_weight s t)
  power_walk (suc i) s t =
      joins_least l (step s) _ (walk_weight (suc i) s t)
      (λ p m. under_trans l (times_mono_right l (weighed s p m) (power_walk i p.0 t)) (walk_onward i s t p m))

  -- walks of at most k steps are no, one, up to k copies of the steps
  pub walk_powers :
      (k : ℕ) (s t : X) →
      walk o same step k s t ≡ joins o (up_to k) (λ i. power o same step i s t)
  walk_powers zero s t = sym (join_zero l (stay_weight s t))
  walk_powers (suc k) s t =
      ap (o.join (stay o same s t))
      (joins_equal l (step s) _ _
      (λ p m.
      ap (o.times p.1) (walk_powers k p.0 t) ∙
      times_joins l p.1 (up_to k) (λ i. power o same step i p.0 t) (weighed s p m)
      (λ i n. power_weight i p.0 t)) ∙
      joins_swap l (step s) (up_to k) (λ p i. o.times p.1 (power o same step i p.0 t))
      (λ p m i n. l.times_weight _ _ (weighed s p m) (power_weight i p.0 t)) ∙
      sym (joins_map l suc (up_to k) (λ i. power o same step i s t)))

  -- what is above each number of copies up to k is above the walks of at most k steps
  pub walk_under :
      (k : ℕ) (s t : X) {b : ℕ} →
      Weight o b →
      ((i : ℕ) → i ≤ k → Under o (power o same step i s t) b) →
      Under o (walk o same step k s t) b
  walk_under k s t {b} w h =
      subst (λ a. Under o a b) (sym (walk_powers k s t))
      (joins_least l (up_to k) (λ i. power o same step i s t) w (λ i m. h i (up_to_below k i m)))

  -- where the walks from s to t settle, they are the star of the steps
  pub settled_walks :
      (s t : X) (k : ℕ) →
      ((j : ℕ) → Under o (walk o same step j s t) (walk o same step k s t)) →
      Lub o (λ j. walk o same step j s t) (walk o same step k s t)
  settled_walks s t k above =
      record { weight = walk_weight k s t; upper = λ j. (above j).below; least = λ b w h. h k }

  pub settled_star :
      (s t : X) (k : ℕ) →
      ((j : ℕ) → Under o (walk o same step j s t) (walk o same step k s t)) →
      Lub o (λ i. power o same step i s t) (walk o same step k s t)
  settled_star s t k above =
      record {
        weight = walk_weight k s t;
        upper = λ i. (under_trans l (power_walk i s t) (above i)).below;
        least =
            λ b w h.
            (walk_under k s t w (λ i n. record { left = power_weight i s t; right = w; below = h i })).below;
      }

  pub ended_above :
      (U : List X) (s : X) →
      MeetsOnly o step s U →
      (k : ℕ) →
      length U ≤ k →
      (t : X) (j : ℕ) →
      Under o (walk o same step j s t) (walk o same step k s t)
  ended_above U s met k h t =
      walk_settled s t k (λ j n. walk_ends U s met j (omega arith) t)

  -- a round that changes nothing is followed by such rounds only
  pub stopped_stays :
      (k : ℕ) →
      ((s t : X) → walk o same step (suc k) s t ≡ walk o same step k s t) →
      (j : ℕ) →
      k ≤ j →
      (s t : X) →
      walk o same step (suc j) s t ≡ walk o same step j s t
  stopped_stays k stop zero h s t =
      let e : k ≡ 0 = omega arith in
      subst (λ n. walk o same step (suc n) s t ≡ walk o same step n s t) e (stop s t)
  stopped_stays k stop (suc j) h s t = go (ℕ_discrete k (suc j)) (λ n. stopped_stays k stop j n)
    where
      go :
          Dec (k ≡ suc j) →
          (k ≤ j → (x y : X) → walk o same step (suc j) x y ≡ walk o same step j x y) →
          walk o same step (suc (suc j)) s t ≡ walk o same step (suc j) s t
      go (yes e) ih = subst (λ n. walk o same step (suc n) s t ≡ walk o same step n s t) e (stop s t)
      go (no n) ih =
          ap (o.join (stay o same s t))
          (joins_equal l (step s) _ _ (λ p m. ap (o.times p.1) (ih (omega arith) p.0 t)))

  pub stopped_above :
      (k : ℕ) →
      ((s t : X) → walk o same step (suc k) s t ≡ walk o same step k s t) →
      (s t : X) (j : ℕ) →
      Under o (walk o same step j s t) (walk o same step k s t)
  stopped_above k stop s t = walk_settled s t k (λ j n. stopped_stays k stop j n s t)

  -- a single walk weighs no more than all of its length
  power_self : (s : X) → power o same step 0 s s ≡ o.one
  power_self s = go (same s s)
    where
      go : (d : Dec (s ≡ s)) → pick d o.one o.zero ≡ o.one
      go (yes e) = refl
      go (no n) = absurd (n refl)

  power_onward :
      (i : ℕ) (s t : X) (p : X × ℕ) →
      In p (step s) →
      Under o (o.times p.1 (power o same step i p.0 t)) (power o same step (suc i) s t)
  power_onward i s t p m =
      joins_upper l (step s) (λ q. o.times q.1 (power o same step i q.0 t))
      (λ q n. l.times_weight _ _ (weighed s q n) (power_weight i q.0 t)) p m

  power_last :
      (i : ℕ) (s x : X) (p : X × ℕ) →
      In p (step x) →
      Under o (o.times (power o same step i s x) p.1) (power o same step (suc i) s p.0)
  power_last zero s x p m = go (same s x)
    where
      go : (d : Dec (s ≡ x)) → Under o (o.times (pick d o.one o.zero) p.1) (power o same step 1 s p.0)
      go (yes e) =
          subst (λ a. Under o a (power o same step 1 s p.0))
          (ap (o.times p.1) (power_self p.0) ∙
          l.one_neutral_right p.1 (weighed x p m) ∙
          sym (l.one_neutral_left p.1 (weighed x p m)))
          (power_onward 0 s p.0 p (subst (λ y. In p (step y)) (sym e) m))
      go (no n) =
          subst (λ a. Under o a (power o same step 1 s p.0)) (sym (l.zero_absorbs_left _ (weighed x p m)))
          (zero_under l (power_weight 1 s p.0))
  power_last (suc i) s x p m =
      subst (λ a. Under o a (power o same step (suc (suc i)) s p.0))
      (sym (joins_times l p.1 (step s) on (weighed x p m) on_weight))
      (joins_least l (step s) (λ q. o.times (on q) p.1) (power_weight (suc (suc i)) s p.0)
      (λ q n.
      subst (λ a. Under o a (power o same step (suc (suc i)) s p.0))
      (sym
      (l.times_associative q.1 (power o same step i q.0 x) p.1 (weighed s q n)
      (power_weight i q.0 x)
      (weighed x p m)))
      (under_trans l (times_mono_right l (weighed s q n) (power_last i q.0 x p m))
      (power_onward (suc i) s p.0 q n))))
    where
      on : X × ℕ → ℕ
      on q = o.times q.1 (power o same step i q.0 x)

      on_weight : (q : X × ℕ) → In q (step s) → Weight o (on q)
      on_weight q n = l.times_weight _ _ (weighed s q n) (power_weight i q.0 x)

  pub walked_under :
      {s : X} {n : ℕ} {x : X} {c : ℕ} →
      Walked o step s n x c →
      Under o c (power o same step n s x)
  walked_under {s} start =
      subst (Under o o.one) (sym (power_self s)) (under_refl l l.one_weight)
  walked_under {s} (onward {n = n} {x = x} {y = y} {c = c} {w = w} v m) =
      under_trans l (times_mono_left l (weighed x (y, w) m) (walked_under v)) (power_last n s x (y, w) m)

  -- a state met by a walk that is not zero is one to which the walks together are not zero
  pub meets_by_weight :
      (U : List X) (s : X) →
      ((j : ℕ) (x : X) → (walk o same step j s x ≡ o.zero → ⊥) → (x ≡ s) ⊎ In x U) →
      MeetsOnly o step s U
  meets_by_weight U s met n x c v nonzero =
      met n x
      (λ e.
      nonzero
      (under_zero l
      (subst (Under o c) e (under_trans l (walked_under v) (power_walk n s x)))))

  -- the states to which a stopped round is not zero are all that walks meet
  pub meets_by_answer :
      (k : ℕ) →
      ((s t : X) → walk o same step (suc k) s t ≡ walk o same step k s t) →
      (U : List X) (s : X) →
      ((x : X) → (walk o same step k s x ≡ o.zero → ⊥) → (x ≡ s) ⊎ In x U) →
      MeetsOnly o step s U
  meets_by_answer k stop U s met =
      meets_by_weight U s
      (λ j x nonzero.
      met x (λ e. nonzero (under_zero l (subst (Under o (walk o same step j s x)) e (stopped_above k stop s x j)))))

  -- a single walk that stays where it is
  single_stay :
      (s t : X) (b : ℕ) →
      Weight o b →
      (n : ℕ) (h : X) (c : ℕ) →
      (Walked o step s n t c → Under o c b) →
      Walked o step s n h c →
      Under o (o.times c (stay o same h t)) b
  single_stay s t b w n h c above v = go (same h t)
    where
      go : (d : Dec (h ≡ t)) → Under o (o.times c (pick d o.one o.zero)) b
      go (yes e) =
          subst (λ a. Under o a b) (sym (l.one_neutral_right c (walked_weight v)))
          (above (subst (λ x. Walked o step s n x c) e v))
      go (no z) = subst (λ a. Under o a b) (sym (l.zero_absorbs_right c (walked_weight v))) (zero_under l w)

  -- what is above each single walk of at most k steps is above them together
  pub single_walks_under :
      (s t : X) (b : ℕ) →
      Weight o b →
      (k n : ℕ) →
      ((m : ℕ) (c : ℕ) → m ≤ n + k → Walked o step s m t c → Under o c b) →
      (h : X) (c : ℕ) →
      Walked o step s n h c →
      Under o (o.times c (walk o same step k h t)) b
  single_walks_under s t b w zero n above h c v = single_stay s t b w n h c (above n c (omega arith)) v
  single_walks_under s t b w (suc k) n above h c v =
      subst (λ a. Under o a b)
      (sym
      (l.times_distributes_left c (stay o same h t) (joins o (step h) on) weight (stay_weight h t)
      (joins_weight l (step h) on on_weight) ∙
      ap (o.join (o.times c (stay o same h t))) (times_joins l c (step h) on weight on_weight)))
      (join_least l
      (single_stay s t b w n h c (above n c (omega arith)) v)
      (joins_least l (step h) (λ p. o.times c (on p)) w
      (λ p m.
      subst (λ a. Under o a b)
      (l.times_associative c p.1 (walk o same step k p.0 t) weight (weighed h p m)
      (walk_weight k p.0 t))
      (single_walks_under s t b w k (suc n) (λ i d le. above i d (omega arith)) p.0 (o.times c p.1)
      (onward v m)))))
    where
      weight : Weight o c
      weight = walked_weight v

      on : X × ℕ → ℕ
      on p = o.times p.1 (walk o same step k p.0 t)

      on_weight : (p : X × ℕ) → In p (step h) → Weight o (on p)
      on_weight p m = l.times_weight _ _ (weighed h p m) (walk_weight k p.0 t)

  -- walks of at most k steps weigh, together, the least upper bound of the single ones
  pub walk_lub :
      (k : ℕ) (s t : X) →
      Lub o {I = (n : ℕ) × (n ≤ k) × (c : ℕ) × Walked o step s n t c} (λ i. i.2) (walk o same step k s t)
  walk_lub k s t =
      record {
        weight = walk_weight k s t;
        upper =
            λ i.
            (under_trans l (walked_under i.3) (under_trans l (power_walk i.0 s t) (walk_up i.0 k i.1 s t))
            ).below;
        least =
            λ b w h.
            (subst (λ a. Under o a b) (l.one_neutral_left _ (walk_weight k s t))
            (single_walks_under s t b w k 0
            (λ m c le v. record { left = walked_weight v; right = w; below = h (m, omega arith, c, v) })
            s
            o.one
            start)
            ).below;
      }

  pub rounds : (k : ℕ) → Rounds o same step k
  rounds k =
      record {
        single_walks = walk_lub k;
        joined_powers = walk_powers k;
        rises = walk_rises k;
        ends = λ s U met h. walk_ends U s met k h;
        stops = λ few s. walk_ends (few s).0 s (few s).1 k (few s).2;
        all_rounds = λ s U met h t. settled_walks s t k (ended_above U s met k h t);
        star = λ s U met h t. settled_star s t k (ended_above U s met k h t);
        stopped_star = λ stop s t. settled_star s t k (stopped_above k stop s t);
        ends_by_answer = λ n stop s U met h. walk_ends U s (meets_by_answer n stop U s met) k h;
      }
