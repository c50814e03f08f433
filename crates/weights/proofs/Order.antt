-- Theory of the order of weights, from the laws alone.
use Rattle.std.proofs.Common.{◌≡◌, ℕ, true, false, List, [], ◌∷◌, ◌++◌, map, sym, refl, ap, ◌∙◌, subst, inl, inr}
use Rattle.weights.specs.Weights.{Ops, Laws, Weight}
use Rattle.weights.specs.Order.{Under, Lub, two, In, joins}

module _ {o : Ops} (l : Laws o) where
  pub under_refl : {a : ℕ} → Weight o a → Under o a a
  under_refl w = record { left = w; right = w; below = l.join_idempotent _ w }

  pub under_eq : {a b : ℕ} → Weight o b → a ≡ b → Under o a b
  under_eq {a} {b} w e = subst (λ x. Under o x b) (sym e) (under_refl w)

  pub under_trans : {a b c : ℕ} → Under o a b → Under o b c → Under o a c
  under_trans {a} {b} {c} p q =
      record {
        left = p.left;
        right = q.right;
        below =
            ap (o.join a) (sym q.below) ∙
            sym (l.join_associative a b c p.left p.right q.right) ∙
            ap (λ x. o.join x c) p.below ∙
            q.below;
      }

  pub under_antisym : {a b : ℕ} → Under o a b → Under o b a → a ≡ b
  under_antisym {a} {b} p q =
      sym q.below ∙ l.join_commutative b a p.right p.left ∙ p.below

  pub zero_under : {a : ℕ} → Weight o a → Under o o.zero a
  zero_under w = record { left = l.zero_weight; right = w; below = l.zero_neutral _ w }

  pub under_one : {a : ℕ} → Weight o a → Under o a o.one
  under_one {a} w =
      record {
        left = w;
        right = l.one_weight;
        below = l.join_commutative a o.one w l.one_weight ∙ l.one_absorbs_join a w;
      }

  pub join_left : {a b : ℕ} → Weight o a → Weight o b → Under o a (o.join a b)
  join_left {a} {b} v w =
      record {
        left = v;
        right = l.join_weight a b v w;
        below =
            sym (l.join_associative a a b v v w) ∙ ap (λ x. o.join x b) (l.join_idempotent a v);
      }

  pub join_right : {a b : ℕ} → Weight o a → Weight o b → Under o b (o.join a b)
  join_right {a} {b} v w =
      subst (Under o b) (l.join_commutative b a w v) (join_left w v)

  pub join_least : {a b c : ℕ} → Under o a c → Under o b c → Under o (o.join a b) c
  join_least {a} {b} {c} p q =
      record {
        left = l.join_weight a b p.left q.left;
        right = p.right;
        below =
            l.join_associative a b c p.left q.left p.right ∙
            ap (o.join a) q.below ∙
            p.below;
      }

  pub join_mono : {a b c d : ℕ} → Under o a c → Under o b d → Under o (o.join a b) (o.join c d)
  join_mono p q =
      join_least (under_trans p (join_left p.right q.right))
      (under_trans q (join_right p.right q.right))

  pub join_zero : {a : ℕ} → Weight o a → o.join a o.zero ≡ a
  join_zero {a} w = l.join_commutative a o.zero w l.zero_weight ∙ l.zero_neutral a w

  pub times_mono_left : {a b c : ℕ} → Weight o c → Under o a b → Under o (o.times a c) (o.times b c)
  times_mono_left {a} {b} {c} w p =
      record {
        left = l.times_weight a c p.left w;
        right = l.times_weight b c p.right w;
        below =
            sym (l.times_distributes_right a b c p.left p.right w) ∙
            ap (λ x. o.times x c) p.below;
      }

  pub times_mono_right : {a b c : ℕ} → Weight o c → Under o a b → Under o (o.times c a) (o.times c b)
  times_mono_right {a} {b} {c} w p =
      record {
        left = l.times_weight c a w p.left;
        right = l.times_weight c b w p.right;
        below =
            sym (l.times_distributes_left c a b w p.left p.right) ∙ ap (o.times c) p.below;
      }

  pub times_mono : {a b c d : ℕ} → Under o a c → Under o b d → Under o (o.times a b) (o.times c d)
  times_mono p q = under_trans (times_mono_left q.left p) (times_mono_right p.right q)

  -- a factor never raises a weight
  pub times_under_right : {a b : ℕ} → Weight o a → Weight o b → Under o (o.times a b) b
  times_under_right {a} {b} v w =
      subst (Under o (o.times a b)) (l.one_neutral_left b w) (times_mono_left w (under_one v))

  pub times_under_left : {a b : ℕ} → Weight o a → Weight o b → Under o (o.times a b) a
  times_under_left {a} {b} v w =
      subst (Under o (o.times a b)) (l.one_neutral_right a v) (times_mono_right v (under_one w))

  pub under_zero : {a : ℕ} → Under o a o.zero → a ≡ o.zero
  under_zero p = under_antisym p (zero_under p.left)

  -- least upper bounds
  pub lub_unique : {I : Type 0} (f : I → ℕ) {a b : ℕ} → Lub o f a → Lub o f b → a ≡ b
  lub_unique f {a} {b} p q =
      sym (q.least a p.weight p.upper) ∙
      l.join_commutative b a q.weight p.weight ∙
      p.least b q.weight q.upper

  pub join_lub : (a b : ℕ) → Weight o a → Weight o b → Lub o (two a b) (o.join a b)
  join_lub a b v w =
      record {
        weight = l.join_weight a b v w;
        upper = elim [ true ↦ (join_left v w).below | false ↦ (join_right v w).below ];
        least =
            λ c u h.
            let p : Under o a c = record { left = v; right = u; below = h true } in
            let q : Under o b c = record { left = w; right = u; below = h false } in
            (join_least p q).below;
      }

  -- joins over lists: what is asked of g is asked at the list's elements only
  module _ {X : Type 0} where
    pub joins_weight : (xs : List X) (g : X → ℕ) → ((x : X) → In x xs → Weight o (g x)) → Weight o (joins o xs g)
    joins_weight [] g w = l.zero_weight
    joins_weight (x ∷ xs) g w =
        l.join_weight (g x) (joins o xs g) (w x (inl refl)) (joins_weight xs g (λ y m. w y (inr m)))

    pub joins_upper :
        (xs : List X) (g : X → ℕ) →
        ((x : X) → In x xs → Weight o (g x)) →
        (x : X) →
        In x xs →
        Under o (g x) (joins o xs g)
    joins_upper [] g w x m = absurd m
    joins_upper (y ∷ ys) g w x (inl e) =
        subst (λ z. Under o (g z) (o.join (g y) (joins o ys g))) (sym e)
        (join_left (w y (inl refl)) (joins_weight ys g (λ z m. w z (inr m))))
    joins_upper (y ∷ ys) g w x (inr m) =
        under_trans (joins_upper ys g (λ z n. w z (inr n)) x m)
        (join_right (w y (inl refl)) (joins_weight ys g (λ z n. w z (inr n))))

    pub joins_least :
        (xs : List X) (g : X → ℕ) {b : ℕ} →
        Weight o b →
        ((x : X) → In x xs → Under o (g x) b) →
        Under o (joins o xs g) b
    joins_least [] g w h = zero_under w
    joins_least (x ∷ xs) g w h = join_least (h x (inl refl)) (joins_least xs g w (λ y m. h y (inr m)))

    pub joins_mono :
        (xs : List X) (g h : X → ℕ) →
        ((x : X) → In x xs → Under o (g x) (h x)) →
        Under o (joins o xs g) (joins o xs h)
    joins_mono [] g h u = under_refl l.zero_weight
    joins_mono (x ∷ xs) g h u = join_mono (u x (inl refl)) (joins_mono xs g h (λ y m. u y (inr m)))

    pub joins_equal :
        (xs : List X) (g h : X → ℕ) →
        ((x : X) → In x xs → g x ≡ h x) →
        joins o xs g ≡ joins o xs h
    joins_equal [] g h e = refl
    joins_equal (x ∷ xs) g h e =
        ap (λ v. o.join v (joins o xs g)) (e x (inl refl)) ∙
        ap (o.join (h x)) (joins_equal xs g h (λ y m. e y (inr m)))

    pub joins_zero : (xs : List X) (g : X → ℕ) → ((x : X) → In x xs → g x ≡ o.zero) → joins o xs g ≡ o.zero
    joins_zero [] g e = refl
    joins_zero (x ∷ xs) g e =
        ap (λ v. o.join v (joins o xs g)) (e x (inl refl)) ∙
        ap (o.join o.zero) (joins_zero xs g (λ y m. e y (inr m))) ∙
        l.zero_neutral o.zero l.zero_weight

    pub times_joins :
        (c : ℕ) (xs : List X) (g : X → ℕ) →
        Weight o c →
        ((x : X) → In x xs → Weight o (g x)) →
        o.times c (joins o xs g) ≡ joins o xs (λ x. o.times c (g x))
    times_joins c [] g u w = l.zero_absorbs_right c u
    times_joins c (x ∷ xs) g u w =
        l.times_distributes_left c (g x) (joins o xs g) u (w x (inl refl))
        (joins_weight xs g (λ y m. w y (inr m))) ∙
        ap (o.join (o.times c (g x))) (times_joins c xs g u (λ y m. w y (inr m)))

    pub joins_times :
        (c : ℕ) (xs : List X) (g : X → ℕ) →
        Weight o c →
        ((x : X) → In x xs → Weight o (g x)) →
        o.times (joins o xs g) c ≡ joins o xs (λ x. o.times (g x) c)
    joins_times c [] g u w = l.zero_absorbs_left c u
    joins_times c (x ∷ xs) g u w =
        l.times_distributes_right (g x) (joins o xs g) c (w x (inl refl))
        (joins_weight xs g (λ y m. w y (inr m))) u ∙
        ap (o.join (o.times (g x) c)) (joins_times c xs g u (λ y m. w y (inr m)))

    pub joins_join :
        (xs : List X) (g h : X → ℕ) →
        ((x : X) → In x xs → Weight o (g x)) →
        ((x : X) → In x xs → Weight o (h x)) →
        joins o xs (λ x. o.join (g x) (h x)) ≡ o.join (joins o xs g) (joins o xs h)
    joins_join xs g h v w =
        under_antisym
        (joins_least xs (λ x. o.join (g x) (h x))
        (l.join_weight (joins o xs g) (joins o xs h) (joins_weight xs g v) (joins_weight xs h w))
        (λ x m. join_mono (joins_upper xs g v x m) (joins_upper xs h w x m)))
        (join_least
        (joins_mono xs g (λ x. o.join (g x) (h x)) (λ x m. join_left (v x m) (w x m)))
        (joins_mono xs h (λ x. o.join (g x) (h x)) (λ x m. join_right (v x m) (w x m))))

    pub joins_append :
        (xs ys : List X) (g : X → ℕ) →
        ((x : X) → Weight o (g x)) →
        joins o (xs ++ ys) g ≡ o.join (joins o xs g) (joins o ys g)
    joins_append [] ys g w = sym (l.zero_neutral (joins o ys g) (joins_weight ys g (λ y m. w y)))
    joins_append (x ∷ xs) ys g w =
        ap (o.join (g x)) (joins_append xs ys g w) ∙
        sym (l.join_associative (g x) (joins o xs g) (joins o ys g) (w x)
        (joins_weight xs g (λ y m. w y))
        (joins_weight ys g (λ y m. w y)))

    -- the join over a list is the least upper bound of its elements
    pub joins_lub :
        (xs : List X) (g : X → ℕ) →
        ((x : X) → In x xs → Weight o (g x)) →
        Lub o {I = (x : X) × In x xs} (λ i. g i.0) (joins o xs g)
    joins_lub xs g w =
        record {
          weight = joins_weight xs g w;
          upper = λ i. (joins_upper xs g w i.0 i.1).below;
          least =
              λ b u h.
              (joins_least xs g u (λ x m. record { left = w x m; right = u; below = h (x, m) })).below;
        }

  module _ {X Y : Type 0} where
    pub joins_map : (f : X → Y) (xs : List X) (g : Y → ℕ) → joins o (map f xs) g ≡ joins o xs (λ x. g (f x))
    joins_map f [] g = refl
    joins_map f (x ∷ xs) g = ap (o.join (g (f x))) (joins_map f xs g)

    pub joins_twice_under :
        (xs : List X) (ys : List Y) (g : X → Y → ℕ) →
        ((x : X) → In x xs → (y : Y) → In y ys → Weight o (g x y)) →
        Under o (joins o xs (λ x. joins o ys (g x))) (joins o ys (λ y. joins o xs (λ x. g x y)))
    joins_twice_under xs ys g w =
        joins_least xs (λ x. joins o ys (g x)) (joins_weight ys columns column_weight)
        (λ x m.
        joins_least ys (g x) (joins_weight ys columns column_weight)
        (λ y n.
        under_trans (joins_upper xs (λ z. g z y) (λ z k. w z k y n) x m)
        (joins_upper ys columns column_weight y n)))
      where
        columns : Y → ℕ
        columns y = joins o xs (λ x. g x y)

        column_weight : (y : Y) → In y ys → Weight o (columns y)
        column_weight y n = joins_weight xs (λ x. g x y) (λ x m. w x m y n)

  -- two joins change places
  pub joins_swap :
      {X Y : Type 0} (xs : List X) (ys : List Y) (g : X → Y → ℕ) →
      ((x : X) → In x xs → (y : Y) → In y ys → Weight o (g x y)) →
      joins o xs (λ x. joins o ys (g x)) ≡ joins o ys (λ y. joins o xs (λ x. g x y))
  joins_swap xs ys g w =
      under_antisym (joins_twice_under xs ys g w)
      (joins_twice_under ys xs (λ y x. g x y) (λ y n x m. w x m y n))
