-- The frames of nonzero weight, in order. Assumes nothing.
use Rattle.std.proofs.Common.{◌≡◌, ℕ, Bool, true, false, cond, ◌≢◌, ◌⊎◌, List, [], ◌∷◌, map, sym, refl, ap, ◌∙◌, subst, inl, inr}
use Rattle.std.proofs.lemmas.Bool.{cases_Bool, true≢false}
use Rattle.frames.specs.Frames.{before}
use Rattle.tables.specs.Emits.{Sent, Ascending, In}
use Rattle.tables.proofs.Order.{before_ranks, asymmetric, connected}
use Rattle.meaning.specs.Decide.{choice, decide}
use Rattle.meaning.specs.Leaves.{Frame}

comes_before : (s t u : Frame) → before s t ≡ true → before t u ≡ true → before s u ≡ true
comes_before s t u p q = go (cases_Bool (before s u))
  where
    go : (before s u ≡ true) ⊎ (before s u ≡ false) → before s u ≡ true
    go (inl e) = e
    go (inr e) = absurd (true≢false (sym p ∙ before_ranks.chain s u t e (asymmetric t u q)))

-- frame t in its place, if it is not there
abbrev into : Frame → List Frame → List Frame
into t [] = t ∷ []
into t (u ∷ us) = cond (before t u) (t ∷ u ∷ us) (cond (before u t) (u ∷ into t us) (u ∷ us))

-- how t and u compare, and what putting t before, behind or nowhere comes to
data Placed (t u : Frame) (us : List Frame) : List Frame → Type 0 where
  first : before t u ≡ true → Placed t u us (t ∷ u ∷ us)
  later : before u t ≡ true → Placed t u us (u ∷ into t us)
  there : t ≡ u → Placed t u us (u ∷ us)

placed : (t u : Frame) (us : List Frame) → Placed t u us (into t (u ∷ us))
placed t u us = go (before t u) (before u t) refl refl
  where
    go : (a b : Bool) → before t u ≡ a → before u t ≡ b → Placed t u us (cond a (t ∷ u ∷ us) (cond b (u ∷ into t us) (u ∷ us)))
    go true b p q = first p
    go false true p q = later q
    go false false p q = there (connected t u p q)

into_from : (t : Frame) (us : List Frame) (x : Frame) → In x (into t us) → (x ≡ t) ⊎ In x us
into_from t [] x i = i
into_from t (u ∷ us) x i = go (λ j. into_from t us x j) (placed t u us) i
  where
    deeper : (x ≡ t) ⊎ In x us → (x ≡ t) ⊎ In x (u ∷ us)
    deeper (inl e) = inl e
    deeper (inr k) = inr (inr k)

    go : {vs : List Frame} → (In x (into t us) → (x ≡ t) ⊎ In x us) → Placed t u us vs → In x vs → (x ≡ t) ⊎ In x (u ∷ us)
    go f (first p) j = j
    go f (later p) (inl e) = inr (inl e)
    go f (later p) (inr j) = deeper (f j)
    go f (there e) j = inr j

into_self : (t : Frame) (us : List Frame) → In t (into t us)
into_self t [] = inl refl
into_self t (u ∷ us) = go (into_self t us) (placed t u us)
  where
    go : {vs : List Frame} → In t (into t us) → Placed t u us vs → In t vs
    go i (first p) = inl refl
    go i (later p) = inr i
    go i (there e) = inl e

into_old : (t : Frame) (us : List Frame) (x : Frame) → In x us → In x (into t us)
into_old t [] x i = absurd i
into_old t (u ∷ us) x i = go (λ j. into_old t us x j) (placed t u us) i
  where
    go : {vs : List Frame} → (In x us → In x (into t us)) → Placed t u us vs → In x (u ∷ us) → In x vs
    go f (first p) j = inr j
    go f (later p) (inl e) = inl e
    go f (later p) (inr j) = inr (f j)
    go f (there e) j = j

into_ascending : (t : Frame) (us : List Frame) → Ascending us → Ascending (into t us)
into_ascending t [] a = ((λ x i. absurd i), tt)
into_ascending t (u ∷ us) a = go (into_ascending t us a.1) (placed t u us)
  where
    in_front : before t u ≡ true → (x : Frame) → In x (u ∷ us) → before t x ≡ true
    in_front p x (inl e) = subst (λ (y : Frame). before t y ≡ true) (sym e) p
    in_front p x (inr i) = comes_before t u x p (a.0 x i)

    behind : before u t ≡ true → (x : Frame) → (x ≡ t) ⊎ In x us → before u x ≡ true
    behind p x (inl e) = subst (λ (y : Frame). before u y ≡ true) (sym e) p
    behind p x (inr i) = a.0 x i

    go : {vs : List Frame} → Ascending (into t us) → Placed t u us vs → Ascending vs
    go b (first p) = (in_front p, a)
    go b (later p) = (λ x i. behind p x (into_from t us x i), b)
    go b (there e) = a

-- all of them in order
abbrev ordered : List Frame → List Frame
ordered [] = []
ordered (t ∷ ts) = into t (ordered ts)

ordered_ascending : (ts : List Frame) → Ascending (ordered ts)
ordered_ascending [] = tt
ordered_ascending (t ∷ ts) = into_ascending t (ordered ts) (ordered_ascending ts)

ordered_in : (ts : List Frame) (x : Frame) → In x ts → In x (ordered ts)
ordered_in [] x i = absurd i
ordered_in (t ∷ ts) x (inl e) = subst (λ (y : Frame). In y (into t (ordered ts))) (sym e) (into_self t (ordered ts))
ordered_in (t ∷ ts) x (inr i) = into_old t (ordered ts) x (ordered_in ts x i)

module _ (zero : ℕ) (W : Frame → ℕ) where
  -- those of nonzero weight, with it
  abbrev weighed : List Frame → List Sent
  weighed [] = []
  weighed (t ∷ ts) = choice (decide (W t) zero) (weighed ts) (record { frame = t; weight = W t } ∷ weighed ts)

  pub record Right (ts : List Frame) (xs : List Sent) : Type 0 where
    pub frames : (t : Frame) → In t (map (λ x. x.frame) xs) → In t ts
    pub sound : (x : Sent) → In x xs → (W x.frame ≡ x.weight) × (x.weight ≢ zero)
    pub complete : (t : Frame) → In t ts → (W t ≢ zero) → In (record { frame = t; weight = W t }) xs
    pub ascending : Ascending ts → Ascending (map (λ x. x.frame) xs)

  pub weighed_right : (ts : List Frame) → Right ts (weighed ts)
  weighed_right [] = record { frames = λ t i. i; sound = λ x i. absurd i; complete = λ t i. absurd i; ascending = λ a. tt }
  weighed_right (t ∷ ts) = go (decide (W t) zero) (weighed_right ts)
    where
      it : Sent
      it = record { frame = t; weight = W t }

      go : (d : Dec (W t ≡ zero)) → Right ts (weighed ts) → Right (t ∷ ts) (choice d (weighed ts) (record { frame = t; weight = W t } ∷ weighed ts))
      go (yes e) R = record { frames = λ u i. inr (R.frames u i); sound = R.sound; complete = complete; ascending = λ a. R.ascending a.1 }
        where
          complete : (u : Frame) → In u (t ∷ ts) → (W u ≢ zero) → In (record { frame = u; weight = W u }) (weighed ts)
          complete u (inl p) n = absurd (n (ap W p ∙ e))
          complete u (inr i) n = R.complete u i n
      go (no h) R = record { frames = frames; sound = sound; complete = complete; ascending = λ a. ((λ u i. a.0 u (R.frames u i)), R.ascending a.1) }
        where
          frames : (u : Frame) → (u ≡ t) ⊎ In u (map (λ x. x.frame) (weighed ts)) → (u ≡ t) ⊎ In u ts
          frames u (inl p) = inl p
          frames u (inr i) = inr (R.frames u i)

          sound : (x : Sent) → (x ≡ record { frame = t; weight = W t }) ⊎ In x (weighed ts) → (W x.frame ≡ x.weight) × (x.weight ≢ zero)
          sound x (inl p) = subst (λ (y : Sent). (W y.frame ≡ y.weight) × (y.weight ≢ zero)) (sym p) (refl, h)
          sound x (inr i) = R.sound x i

          complete : (u : Frame) → In u (t ∷ ts) → (W u ≢ zero) → In (record { frame = u; weight = W u }) (record { frame = t; weight = W t } ∷ weighed ts)
          complete u (inl p) n = inl (ap (λ (y : Frame). record { frame = y; weight = W y }) p)
          complete u (inr i) n = inr (R.complete u i n)

  -- the frames among these of nonzero weight, in order
  pub record Emitted (ts : List Frame) (xs : List Sent) : Type 0 where
    pub ascending : Ascending (map (λ x. x.frame) xs)
    pub sound : (x : Sent) → In x xs → (W x.frame ≡ x.weight) × (x.weight ≢ zero)
    pub complete : (t : Frame) → In t ts → (W t ≢ zero) → In (record { frame = t; weight = W t }) xs

  pub emitted : (ts : List Frame) → (xs : List Sent) × Emitted ts xs
  emitted ts = (weighed (ordered ts), record { ascending = R.ascending (ordered_ascending ts); sound = R.sound; complete = λ t i. R.complete t (ordered_in ts t i) })
    where
      R : Right (ordered ts) (weighed (ordered ts))
      R = weighed_right (ordered ts)
