-- The words of a legal table are those of one list of rows, so that the fact in a checked table's type gives the rows.
use Rattle.std.proofs.Common.{◌≡◌, ℕ, suc, ◌<◌, List, [], ◌∷◌, ◌++◌, map, length, get_or, ◌≢◌, sym, refl, ap, ap₂, ◌∙◌, append_assoc, arith}
use Rattle.std.specs.List.{flat_map, AllByRecursion, AllByRecursion-prop}
use Rattle.std.proofs.Props.{props}
use mathlib.Core.HLevel.{Σ_prop_path}
use mathlib.Core.Logic.{∥∥₁_elim}
use Rattle.format.specs.Words.{word, value_end, kind_of}
use Rattle.weights.specs.Weights.{Ops, Laws}
use Rattle.tables.specs.Rows.{Pair, Emission, Row, emission_words, row_words, table_words, LegalPairs, LegalEmission, LegalRow, LegalRows, LegalTable}
use Rattle.tables.proofs.Parts.{Fit, match_words, set_words, same_parts, parts_of_word, head_same, tail_same, few_pairs, fit_pair}
use Rattle.tables.proofs.Checks.{regroup}

-- the words do not begin with a word of this kind
abbrev NotFirst : ℕ → List ℕ → Type 0
NotFirst k ws = kind_of (get_or ws 0 0) ≢ k

first_kind : (k f v : ℕ) (ws : List ℕ) → Fit f v → kind_of (get_or (word k f v ∷ ws) 0 0) ≡ k
first_kind k f v ws h = (parts_of_word k f v h).0

-- as many pairs, in words of a kind, before other words
same_pairs :
    (k f g : ℕ) (ps qs : List Pair) (t u : List ℕ) →
    LegalPairs f ps →
    LegalPairs g qs →
    length ps ≡ length qs →
    map (λ p. word k p.0 p.1) ps ++ t ≡ map (λ p. word k p.0 p.1) qs ++ u →
    (ps ≡ qs) × (t ≡ u)
same_pairs k f g [] [] t u l m n e = (refl, e)
same_pairs k f g [] (q ∷ qs) t u l m n e = absurd (omega (arith, n))
same_pairs k f g (p ∷ ps) [] t u l m n e = absurd (omega (arith, n))
same_pairs k f g (p ∷ ps) (q ∷ qs) t u l m n e =
    let z = same_parts k p.0 p.1 k q.0 q.1 (fit_pair f p ps l) (fit_pair g q qs m) (head_same e) in
    let y = same_pairs k (suc p.0) (suc q.0) ps qs t u l.3 m.3 (omega (arith, n)) (tail_same e) in
    (ap₂ {C = List Pair} (λ (x : Pair) xs. x ∷ xs) (ap₂ {C = Pair} (λ a b. (a, b)) z.1 z.2) y.0, y.1)

-- all pairs, where no word of their kind follows
all_pairs :
    (k f g : ℕ) (ps qs : List Pair) (t u : List ℕ) →
    LegalPairs f ps →
    LegalPairs g qs →
    NotFirst k t →
    NotFirst k u →
    map (λ p. word k p.0 p.1) ps ++ t ≡ map (λ p. word k p.0 p.1) qs ++ u →
    (ps ≡ qs) × (t ≡ u)
all_pairs k f g [] [] t u l m a b e = (refl, e)
all_pairs k f g [] (q ∷ qs) t u l m a b e =
    absurd (a (ap (λ ws. kind_of (get_or ws 0 0)) e ∙ first_kind k q.0 q.1 [] (fit_pair g q qs m)))
all_pairs k f g (p ∷ ps) [] t u l m a b e =
    absurd (b (ap (λ ws. kind_of (get_or ws 0 0)) (sym e) ∙ first_kind k p.0 p.1 [] (fit_pair f p ps l)))
all_pairs k f g (p ∷ ps) (q ∷ qs) t u l m a b e =
    let z = same_parts k p.0 p.1 k q.0 q.1 (fit_pair f p ps l) (fit_pair g q qs m) (head_same e) in
    let y = all_pairs k (suc p.0) (suc q.0) ps qs t u l.3 m.3 a b (tail_same e) in
    (ap₂ {C = List Pair} (λ (x : Pair) xs. x ∷ xs) (ap₂ {C = Pair} (λ a b. (a, b)) z.1 z.2) y.0, y.1)

module _ {o : Ops} (laws : Laws o) where
  fit_weight : (x : Emission) → LegalEmission o x → Fit 0 x.weight
  fit_weight x l = (omega arith, omega (arith, laws.below_end x.weight l.of_kind))

  no_set_first : (es : List Emission) (t : List ℕ) → AllByRecursion (LegalEmission o) es → NotFirst 13 t → NotFirst 13 (flat_map emission_words es ++ t)
  no_set_first [] t l h = h
  no_set_first (x ∷ xs) t l h = λ e. omega (arith, e, first_kind 12 0 x.weight [] (fit_weight x l.0))

  same_emissions :
      (es fs : List Emission) (t u : List ℕ) →
      AllByRecursion (LegalEmission o) es →
      AllByRecursion (LegalEmission o) fs →
      NotFirst 13 t →
      NotFirst 13 u →
      length es ≡ length fs →
      flat_map emission_words es ++ t ≡ flat_map emission_words fs ++ u →
      (es ≡ fs) × (t ≡ u)
  same_emissions [] [] t u l m a b n e = (refl, e)
  same_emissions [] (y ∷ ys) t u l m a b n e = absurd (omega (arith, n))
  same_emissions (x ∷ xs) [] t u l m a b n e = absurd (omega (arith, n))
  same_emissions (x ∷ xs) (y ∷ ys) t u l m a b n e =
      let w = same_parts 12 0 x.weight 12 0 y.weight (fit_weight x l.0) (fit_weight y m.0) (head_same e) in
      let s =
      all_pairs 13 0 0 x.sets y.sets (flat_map emission_words xs ++ t) (flat_map emission_words ys ++ u) l.0.sets_legal m.0.sets_legal
      (no_set_first xs t l.1 a) (no_set_first ys u m.1 b)
      (sym (append_assoc (set_words x.sets) (flat_map emission_words xs) t) ∙ tail_same e ∙ append_assoc (set_words y.sets) (flat_map emission_words ys) u) in
      let r = same_emissions xs ys t u l.1 m.1 a b (omega (arith, n)) s.1 in (
        ap₂ {C = List Emission} (λ (z : Emission) zs. z ∷ zs) (ap₂ {C = Emission} (λ v p. record { weight = v; sets = p }) w.2 s.0) r.0,
        r.1,
      )

  fit_head : (r : Row) → LegalRow o r → Fit (length r.matches) (length r.emissions)
  fit_head r l = (omega (arith, few_pairs 0 r.matches (omega arith) l.matches_legal), l.countable)

  no_set_next : (rs : List Row) (n : ℕ) → AllByRecursion (LegalRow o) rs → n < value_end → NotFirst 13 (flat_map row_words rs ++ (word 14 0 n ∷ []))
  no_set_next [] n l h = λ e. omega (arith, e, first_kind 14 0 n [] (omega arith, h))
  no_set_next (r ∷ rs) n l h = λ e. omega (arith, e, first_kind 10 (length r.matches) (length r.emissions) [] (fit_head r l.0))

  -- no words are those of two lists of legal rows
  pub same_rows :
      (rs qs : List Row) (n m : ℕ) →
      AllByRecursion (LegalRow o) rs →
      AllByRecursion (LegalRow o) qs →
      n < value_end →
      m < value_end →
      flat_map row_words rs ++ (word 14 0 n ∷ []) ≡ flat_map row_words qs ++ (word 14 0 m ∷ []) →
      rs ≡ qs
  same_rows [] [] n m l k a b e = refl
  same_rows [] (q ∷ qs) n m l k a b e =
      absurd (let z = same_parts 14 0 n 10 (length q.matches) (length q.emissions) (omega arith, a) (fit_head q k.0) (head_same e) in omega (arith, z.0))
  same_rows (r ∷ rs) [] n m l k a b e =
      absurd (let z = same_parts 10 (length r.matches) (length r.emissions) 14 0 m (fit_head r l.0) (omega arith, b) (head_same e) in omega (arith, z.0))
  same_rows (r ∷ rs) (q ∷ qs) n m l k a b e =
      let z = same_parts 10 (length r.matches) (length r.emissions) 10 (length q.matches) (length q.emissions) (fit_head r l.0) (fit_head q k.0) (head_same e) in
      let s =
      same_pairs 11 0 0 r.matches q.matches _ _ l.0.matches_legal k.0.matches_legal z.1
      (sym (regroup (match_words r.matches) (flat_map emission_words r.emissions) (flat_map row_words rs) (word 14 0 n ∷ []))
      ∙ tail_same e
      ∙ regroup (match_words q.matches) (flat_map emission_words q.emissions) (flat_map row_words qs) (word 14 0 m ∷ [])) in
      let t =
      same_emissions r.emissions q.emissions _ _ l.0.emissions_legal k.0.emissions_legal (no_set_next rs n l.1 a) (no_set_next qs m k.1 b) z.2 s.1 in
      ap₂ {C = List Row} (λ (x : Row) xs. x ∷ xs) (ap₂ {C = Row} (λ x y. record { matches = x; emissions = y }) s.0 t.0)
      (same_rows rs qs n m l.1 k.1 a b t.1)

  legal_pairs_prop : (f : ℕ) (ps : List Pair) → IsProp (LegalPairs f ps)
  legal_pairs_prop f [] = Prim.hlevel props
  legal_pairs_prop f (p ∷ ps) = let h = legal_pairs_prop (suc p.0) ps in Prim.hlevel (props, h)

  legal_emission_prop : (x : Emission) → IsProp (LegalEmission o x)
  legal_emission_prop x = Prim.hlevel (props, legal_pairs_prop)

  legal_row_prop : (r : Row) → IsProp (LegalRow o r)
  legal_row_prop r = Prim.hlevel (props, legal_pairs_prop, AllByRecursion-prop, legal_emission_prop)

  legal_rows_prop : (rs : List Row) → IsProp (LegalRows o rs)
  legal_rows_prop rs = Prim.hlevel (props, AllByRecursion-prop, legal_row_prop)

  legal_table_prop : (ws : List ℕ) → IsProp (LegalTable o ws)
  legal_table_prop ws s t =
      ap {A = (rs : List Row) × (LegalRows o rs × (ws ≡ table_words rs))} {B = LegalTable o ws} (λ r. (r.0, r.1.0, r.1.1))
      (Σ_prop_path {A = List Row} {B = λ rs. LegalRows o rs × (ws ≡ table_words rs)} (λ rs. Prim.hlevel (props, legal_rows_prop))
      {u = (s.0, (s.1, s.2))} {v = (t.0, (t.1, t.2))}
      (same_rows s.0 t.0 (length s.0) (length t.0) s.1.each t.1.each s.1.countable t.1.countable (sym s.2 ∙ t.2)))

  -- the rows of a checked table, whose type says no more than that there are some
  pub table_rows : (ws : List ℕ) → ∥ LegalTable o ws ∥₁ → LegalTable o ws
  table_rows ws h = ∥∥₁_elim h (legal_table_prop ws) (λ t. t)
