-- What each word of a table leads to.
use Rattle.std.proofs.Common.{◌≡◌, ℕ, zero, suc, ◌+◌, ◌-◌, ◌<◌, ◌≤◌, ◌⊎◌, List, [], ◌∷◌, ◌++◌, length, Option, Some, None, sym, refl, ap, ◌∙◌, subst, ◌≢◌, inl, inr, append_assoc, arith}
use Rattle.std.specs.Bool.{⊤}
use Rattle.std.specs.List.{flat_map, AllByRecursion}
use Rattle.format.specs.Fields.{fields, LegalValue}
use Rattle.format.specs.Words.{word, value_end, kind_of}
use Rattle.weights.specs.Weights.{Ops, Laws, Weight}
use Rattle.tables.specs.declared.state.Checker.{Checker}
use Rattle.tables.specs.declared.kind.TableKind.{TableKind}
use Rattle.tables.specs.declared.kind.TableKind.TheVariants.{Head as HeadWord, Match as MatchWord, Weight as WeightWord, Set as SetWord, End as EndWord}
use Rattle.tables.specs.declared.state.State.{State}
use Rattle.tables.specs.declared.state.State.TheVariants.{Head, Matches, Emissions, Sets, End}
use Rattle.tables.specs.Kinds.{number_of}
use Rattle.tables.specs.Rows.{Pair, Emission, Row, emission_words, row_words, LegalPairs, LegalEmission, LegalRow}
use Rattle.tables.specs.Checking.{RowsRest, EmissionsRest, MatchesRest, SetsRest, Rest, Open, Takes, next_due}
use Rattle.tables.proofs.Parts.{Fit, match_words, set_words, same_parts, parts_of_word, head_same, tail_same, few_pairs, fit_pair}

-- the words of rows and the end, from the first row
abbrev rows_and_end : ℕ → List Row → List ℕ
rows_and_end n rows = flat_map row_words rows ++ (word 14 0 (n + length rows) ∷ [])

pub regroup : (a b c d : List ℕ) → ((a ++ b) ++ c) ++ d ≡ a ++ (b ++ (c ++ d))
regroup a b c d = simp append_assoc

module _ {o : Ops} where
  -- what a head says: a row with so many matches and emissions opens
  pub opened :
      (n f v : ℕ) (rest : List ℕ) →
      Fit f v →
      n < value_end →
      RowsRest o n (word 10 f v ∷ rest) →
      (n + 1 < value_end) × (f ≤ fields) × MatchesRest o (n + 1) 0 f v rest
  opened n f v rest fit small r = go r.rows r.legal r.countable r.is
    where
      go :
          (rows : List Row) →
          AllByRecursion (LegalRow o) rows →
          n + length rows < value_end →
          word 10 f v ∷ rest ≡ rows_and_end n rows →
          (n + 1 < value_end) × (f ≤ fields) × MatchesRest o (n + 1) 0 f v rest
      go [] l c e =
          absurd (let z = same_parts 10 f v 14 0 (n + 0) fit (omega arith, omega arith) (head_same e) in omega (arith, z.0))
      go (x ∷ xs) l c e =
          let ms = few_pairs 0 x.matches (omega arith) l.0.matches_legal in
          let i : Fit (length x.matches) (length x.emissions) = (omega arith, l.0.countable) in
          let z = same_parts 10 f v 10 (length x.matches) (length x.emissions) fit i (head_same e) in
          let t : List ℕ = flat_map row_words xs ++ (word 14 0 (n + 1 + length xs) ∷ []) in
          let m : n + suc (length xs) ≡ n + 1 + length xs = omega arith in (
            omega arith,
            omega (arith, z.1),
            record {
              pairs = x.matches;
              tail = flat_map emission_words x.emissions ++ t;
              count = sym z.1;
              legal = l.0.matches_legal;
              later = record {
                emissions = x.emissions;
                tail = t;
                count = sym z.2;
                legal = l.0.emissions_legal;
                later = record { rows = xs; legal = l.1; countable = omega arith; is = refl };
                is = refl;
              };
              is =
                  tail_same e ∙
                  regroup (match_words x.matches) (flat_map emission_words x.emissions) (flat_map row_words xs) (word 14 0 (n + suc (length xs)) ∷ []) ∙
                  ap (λ k. match_words x.matches ++ (flat_map emission_words x.emissions ++ (flat_map row_words xs ++ (word 14 0 k ∷ [])))) m;
            },
          )

  pub opens : (n f v : ℕ) (rest : List ℕ) → v < value_end → MatchesRest o (n + 1) 0 f v rest → RowsRest o n (word 10 f v ∷ rest)
  opens n f v rest small r =
      let ps = r.pairs in
      let es = r.later.emissions in
      let xs = r.later.later.rows in
      let m : n + 1 + length xs ≡ n + suc (length xs) = omega arith in
      record {
        rows = record { matches = ps; emissions = es } ∷ xs;
        legal = (
          record {
            matches_legal = r.legal;
            countable = omega (arith, r.later.count);
            emissions_legal = r.later.legal;
          },
          r.later.later.legal,
        );
        countable = omega (arith, r.later.later.countable);
        is =
            ap (λ k. word 10 k v ∷ rest) (sym r.count) ∙
            ap (λ k. word 10 (length ps) k ∷ rest) (sym r.later.count) ∙
            ap (λ t. word 10 (length ps) (length es) ∷ t)
            (r.is ∙
            ap (λ t. match_words ps ++ t) r.later.is ∙
            ap (λ t. match_words ps ++ (flat_map emission_words es ++ t)) r.later.later.is ∙
            ap (λ k. match_words ps ++ (flat_map emission_words es ++ (flat_map row_words xs ++ (word 14 0 k ∷ [])))) m ∙
            sym (regroup (match_words ps) (flat_map emission_words es) (flat_map row_words xs) (word 14 0 (n + suc (length xs)) ∷ []))
            );
      }

  pub ended :
      (n f v : ℕ) (rest : List ℕ) →
      Fit f v →
      RowsRest o n (word 14 f v ∷ rest) →
      (f ≡ 0) × (v ≡ n) × (rest ≡ [])
  ended n f v rest fit r = go r.rows r.legal r.countable r.is
    where
      go :
          (rows : List Row) →
          AllByRecursion (LegalRow o) rows →
          n + length rows < value_end →
          word 14 f v ∷ rest ≡ rows_and_end n rows →
          (f ≡ 0) × (v ≡ n) × (rest ≡ [])
      go [] l c e =
          let z = same_parts 14 f v 14 0 (n + 0) fit (omega arith, omega arith) (head_same e) in
          (z.1, omega (arith, z.2), tail_same e)
      go (x ∷ xs) l c e =
          let ms = few_pairs 0 x.matches (omega arith) l.0.matches_legal in
          let i : Fit (length x.matches) (length x.emissions) = (omega arith, l.0.countable) in
          absurd (let z = same_parts 14 f v 10 (length x.matches) (length x.emissions) fit i (head_same e) in omega (arith, z.0))

  pub ends : (n : ℕ) (rest : List ℕ) → n < value_end → rest ≡ [] → RowsRest o n (word 14 0 n ∷ rest)
  ends n rest small e =
      let m : n ≡ n + 0 = omega arith in
      record {
        rows = [];
        legal = tt;
        countable = omega arith;
        is = ap (λ k. word 14 0 k ∷ rest) m ∙ ap (λ t. word 14 0 (n + 0) ∷ t) e;
      }

  -- rows begin with a head, or the end stands there
  pub rows_first : (n w : ℕ) (rest : List ℕ) → RowsRest o n (w ∷ rest) → (kind_of w ≡ 10) ⊎ (kind_of w ≡ 14)
  rows_first n w rest r = go r.rows r.legal r.countable r.is
    where
      go :
          (rows : List Row) →
          AllByRecursion (LegalRow o) rows →
          n + length rows < value_end →
          w ∷ rest ≡ rows_and_end n rows →
          (kind_of w ≡ 10) ⊎ (kind_of w ≡ 14)
      go [] l c e = inr (ap kind_of (head_same e) ∙ (parts_of_word 14 0 (n + 0) (omega arith, omega arith)).0)
      go (x ∷ xs) l c e =
          let ms = few_pairs 0 x.matches (omega arith) l.0.matches_legal in
          inl (ap kind_of (head_same e) ∙ (parts_of_word 10 (length x.matches) (length x.emissions) (omega arith, l.0.countable)).0)

  pub no_emissions : (n : ℕ) (ws : List ℕ) → EmissionsRest o n 0 ws → RowsRest o n ws
  no_emissions n ws r = go r.emissions r.count r.is
    where
      go : (es : List Emission) → length es ≡ 0 → ws ≡ flat_map emission_words es ++ r.tail → RowsRest o n ws
      go [] c e = subst (RowsRest o n) (sym e) r.later
      go (x ∷ xs) c e = absurd (omega arith)

  pub only_rows : (n : ℕ) (ws : List ℕ) → RowsRest o n ws → EmissionsRest o n 0 ws
  only_rows n ws r = record { emissions = []; tail = ws; count = refl; legal = tt; later = r; is = refl }

  pub no_matches : (n f m : ℕ) (ws : List ℕ) → MatchesRest o n f 0 m ws → EmissionsRest o n m ws
  no_matches n f m ws r = go r.pairs r.count r.is
    where
      go : (ps : List Pair) → length ps ≡ 0 → ws ≡ match_words ps ++ r.tail → EmissionsRest o n m ws
      go [] c e = subst (EmissionsRest o n m) (sym e) r.later
      go (x ∷ xs) c e = absurd (omega arith)

  pub only_emissions : (n f m : ℕ) (ws : List ℕ) → EmissionsRest o n m ws → MatchesRest o n f 0 m ws
  only_emissions n f m ws r = record { pairs = []; tail = ws; count = refl; legal = tt; later = r; is = refl }

  -- the state that says what is due
  pub due_to : (n f d m : ℕ) (ws : List ℕ) → MatchesRest o n f d m ws → Rest o n (next_due f d m) ws
  due_to n f zero zero ws r = no_emissions n ws (no_matches n f 0 ws r)
  due_to n f zero (suc m) ws r = no_matches n f (suc m) ws r
  due_to n f (suc d) m ws r = r

  pub due_from : (n f d m : ℕ) (ws : List ℕ) → Rest o n (next_due f d m) ws → MatchesRest o n f d m ws
  due_from n f zero zero ws r = only_emissions n f 0 ws (only_rows n ws r)
  due_from n f zero (suc m) ws r = only_emissions n f (suc m) ws r
  due_from n f (suc d) m ws r = r

  -- the first match
  pub matched :
      (n f due m g v : ℕ) (rest : List ℕ) →
      Fit g v →
      0 < due →
      MatchesRest o n f due m (word 11 g v ∷ rest) →
      (f ≤ g) × (g + due ≤ fields) × LegalValue g v × MatchesRest o n (g + 1) (due - 1) m rest
  matched n f due m g v rest fit some r = go r.pairs r.legal r.count r.is
    where
      go :
          (ps : List Pair) →
          LegalPairs f ps →
          length ps ≡ due →
          word 11 g v ∷ rest ≡ match_words ps ++ r.tail →
          (f ≤ g) × (g + due ≤ fields) × LegalValue g v × MatchesRest o n (g + 1) (due - 1) m rest
      go [] l c e = absurd (omega arith)
      go (p ∷ ps) l c e =
          let z = same_parts 11 g v 11 p.0 p.1 fit (fit_pair f p ps l) (head_same e) in
          let few = few_pairs (suc p.0) ps (omega (arith, l.1)) l.3 in
          let s : suc p.0 ≡ g + 1 = omega (arith, z.1) in (
            omega (arith, l.0, z.1),
            omega (arith, z.1),
            subst (λ (x : ℕ). LegalValue x v) (sym z.1) (subst (λ (x : ℕ). LegalValue p.0 x) (sym z.2) l.2),
            record {
              pairs = ps;
              tail = r.tail;
              count = omega arith;
              legal = subst (λ (x : ℕ). LegalPairs x ps) s l.3;
              later = r.later;
              is = tail_same e;
            },
          )

  pub matches :
      (n f due m g v : ℕ) (rest : List ℕ) →
      0 < due →
      f ≤ g →
      g < fields →
      LegalValue g v →
      MatchesRest o n (g + 1) (due - 1) m rest →
      MatchesRest o n f due m (word 11 g v ∷ rest)
  matches n f due m g v rest some le lt v_legal r =
      let s : g + 1 ≡ suc g = omega arith in
      record {
        pairs = (g, v) ∷ r.pairs;
        tail = r.tail;
        count = omega (arith, r.count);
        legal = (le, lt, v_legal, subst (λ (x : ℕ). LegalPairs x r.pairs) s r.legal);
        later = r.later;
        is = ap (λ t. word 11 g v ∷ t) r.is;
      }

  pub matches_first : (n f due m w : ℕ) (rest : List ℕ) → 0 < due → MatchesRest o n f due m (w ∷ rest) → kind_of w ≡ 11
  matches_first n f due m w rest some r = go r.pairs r.legal r.count r.is
    where
      go : (ps : List Pair) → LegalPairs f ps → length ps ≡ due → w ∷ rest ≡ match_words ps ++ r.tail → kind_of w ≡ 11
      go [] l c e = absurd (omega arith)
      go (p ∷ ps) l c e = ap kind_of (head_same e) ∙ (parts_of_word 11 p.0 p.1 (fit_pair f p ps l)).0

  -- a set, or no set is left
  pub sets_first :
      (n f due w : ℕ) (rest : List ℕ) →
      SetsRest o n f due (w ∷ rest) →
      (kind_of w ≡ 13) ⊎ EmissionsRest o n due (w ∷ rest)
  sets_first n f due w rest r = go r.pairs r.legal r.is
    where
      go :
          (ps : List Pair) →
          LegalPairs f ps →
          w ∷ rest ≡ set_words ps ++ r.tail →
          (kind_of w ≡ 13) ⊎ EmissionsRest o n due (w ∷ rest)
      go [] l e = inr (subst (EmissionsRest o n due) (sym e) r.later)
      go (p ∷ ps) l e = inl (ap kind_of (head_same e) ∙ (parts_of_word 13 p.0 p.1 (fit_pair f p ps l)).0)

  pub no_sets : (n f due : ℕ) (ws : List ℕ) → EmissionsRest o n due ws → SetsRest o n f due ws
  no_sets n f due ws r = record { pairs = []; tail = ws; legal = tt; later = r; is = refl }

  pub sets :
      (n f due g v : ℕ) (rest : List ℕ) →
      f ≤ g →
      g < fields →
      LegalValue g v →
      SetsRest o n (g + 1) due rest →
      SetsRest o n f due (word 13 g v ∷ rest)
  sets n f due g v rest le lt v_legal r =
      let s : g + 1 ≡ suc g = omega arith in
      record {
        pairs = (g, v) ∷ r.pairs;
        tail = r.tail;
        legal = (le, lt, v_legal, subst (λ (x : ℕ). LegalPairs x r.pairs) s r.legal);
        later = r.later;
        is = ap (λ t. word 13 g v ∷ t) r.is;
      }

module _ {o : Ops} (laws : Laws o) where
  -- a weight is next, or the row is over
  pub emissions_first :
      (n due w : ℕ) (rest : List ℕ) →
      EmissionsRest o n due (w ∷ rest) →
      ((kind_of w ≡ 12) × (0 < due)) ⊎ ((due ≡ 0) × RowsRest o n (w ∷ rest))
  emissions_first n due w rest r = go r.emissions r.legal r.count r.is
    where
      go :
          (es : List Emission) →
          AllByRecursion (LegalEmission o) es →
          length es ≡ due →
          w ∷ rest ≡ flat_map emission_words es ++ r.tail →
          ((kind_of w ≡ 12) × (0 < due)) ⊎ ((due ≡ 0) × RowsRest o n (w ∷ rest))
      go [] l c e = inr (sym c, subst (RowsRest o n) (sym e) r.later)
      go (x ∷ xs) l c e =
          let small = laws.below_end x.weight l.0.of_kind in
          inl (ap kind_of (head_same e) ∙ (parts_of_word 12 0 x.weight (omega arith, omega arith)).0, omega arith)

  pub weighed :
      (n due f v : ℕ) (rest : List ℕ) →
      Fit f v →
      EmissionsRest o n due (word 12 f v ∷ rest) →
      (0 < due) × (f ≡ 0) × Weight o v × (v ≡ o.zero → ⊥) × SetsRest o n 0 (due - 1) rest
  weighed n due f v rest fit r = go r.emissions r.legal r.count r.is
    where
      go :
          (es : List Emission) →
          AllByRecursion (LegalEmission o) es →
          length es ≡ due →
          word 12 f v ∷ rest ≡ flat_map emission_words es ++ r.tail →
          (0 < due) × (f ≡ 0) × Weight o v × (v ≡ o.zero → ⊥) × SetsRest o n 0 (due - 1) rest
      go [] l c e =
          absurd
          (let k = (parts_of_word 12 f v fit).0 in
          elim (rows_first {o = o} n (word 12 f v) rest (subst (RowsRest o n) (sym e) r.later)) [ inl a ↦ omega (arith, k, a) | inr a ↦ omega (arith, k, a) ])
      go (x ∷ xs) l c e =
          let small = laws.below_end x.weight l.0.of_kind in
          let z = same_parts 12 f v 12 0 x.weight fit (omega arith, omega arith) (head_same e) in (
            omega arith,
            z.1,
            subst (Weight o) (sym z.2) l.0.of_kind,
            (λ h. l.0.nonzero (sym z.2 ∙ h)),
            record {
              pairs = x.sets;
              tail = flat_map emission_words xs ++ r.tail;
              legal = l.0.sets_legal;
              later = record {
                emissions = xs;
                tail = r.tail;
                count = omega arith;
                legal = l.1;
                later = r.later;
                is = refl;
              };
              is = tail_same e ∙ append_assoc (set_words x.sets) (flat_map emission_words xs) r.tail;
            },
          )

  pub weighs :
      (n due v : ℕ) (rest : List ℕ) →
      0 < due →
      Weight o v →
      (v ≡ o.zero → ⊥) →
      SetsRest o n 0 (due - 1) rest →
      EmissionsRest o n due (word 12 0 v ∷ rest)
  weighs n due v rest some weight nonzero r =
      record {
        emissions = record { weight = v; sets = r.pairs } ∷ r.later.emissions;
        tail = r.later.tail;
        count = omega (arith, r.later.count);
        legal = (record { of_kind = weight; nonzero = nonzero; sets_legal = r.legal }, r.later.legal);
        later = r.later.later;
        is =
            ap (λ t. word 12 0 v ∷ t)
            (r.is ∙
            ap (λ t. set_words r.pairs ++ t) r.later.is ∙
            sym (append_assoc (set_words r.pairs) (flat_map emission_words r.later.emissions) r.later.tail)
            );
      }

  pub setting :
      (n f due g v : ℕ) (rest : List ℕ) →
      Fit g v →
      SetsRest o n f due (word 13 g v ∷ rest) →
      (f ≤ g) × (g < fields) × LegalValue g v × SetsRest o n (g + 1) due rest
  setting n f due g v rest fit r = go r.pairs r.legal r.is
    where
      no : EmissionsRest o n due (word 13 g v ∷ rest) → ⊥
      no x =
          let k = (parts_of_word 13 g v fit).0 in
          elim (emissions_first n due (word 13 g v) rest x) [
            | inl a ↦ omega (arith, k, a.0)
            | inr a ↦ elim (rows_first {o = o} n (word 13 g v) rest a.1) [ inl b ↦ omega (arith, k, b) | inr b ↦ omega (arith, k, b) ]
          ]

      go :
          (ps : List Pair) →
          LegalPairs f ps →
          word 13 g v ∷ rest ≡ set_words ps ++ r.tail →
          (f ≤ g) × (g < fields) × LegalValue g v × SetsRest o n (g + 1) due rest
      go [] l e = absurd (no (subst (EmissionsRest o n due) (sym e) r.later))
      go (p ∷ ps) l e =
          let z = same_parts 13 g v 13 p.0 p.1 fit (fit_pair f p ps l) (head_same e) in
          let s : suc p.0 ≡ g + 1 = omega (arith, z.1) in (
            omega (arith, l.0, z.1),
            omega (arith, l.1, z.1),
            subst (λ (x : ℕ). LegalValue x v) (sym z.1) (subst (λ (x : ℕ). LegalValue p.0 x) (sym z.2) l.2),
            record {
              pairs = ps;
              tail = r.tail;
              legal = subst (λ (x : ℕ). LegalPairs x ps) s l.3;
              later = r.later;
              is = tail_same e;
            },
          )

  -- legal matches of the fields from f on, as many as are due
  first_pairs : ℕ → ℕ → List Pair
  first_pairs f zero = []
  first_pairs f (suc d) = (f, 0) ∷ first_pairs (suc f) d

  length_first : (f d : ℕ) → length (first_pairs f d) ≡ d
  unfolding first_pairs
  length_first f zero = refl
  length_first f (suc d) = ap suc (length_first (suc f) d)

  legal_first : (f d : ℕ) → f + d ≤ fields → LegalPairs f (first_pairs f d)
  unfolding first_pairs
  legal_first f zero h = tt
  legal_first f (suc d) h = (omega arith, omega arith, omega arith, legal_first (suc f) d (omega arith))

  -- so many emissions at weight one
  ones : ℕ → List Emission
  ones zero = []
  ones (suc d) = record { weight = o.one; sets = [] } ∷ ones d

  length_ones : (d : ℕ) → length (ones d) ≡ d
  unfolding ones
  length_ones zero = refl
  length_ones (suc d) = ap suc (length_ones d)

  legal_ones : (d : ℕ) → AllByRecursion (LegalEmission o) (ones d)
  unfolding ones
  legal_ones zero = tt
  legal_ones (suc d) =
      (record { of_kind = laws.one_weight; nonzero = laws.one_is_not_zero; sets_legal = tt }, legal_ones d)

  rows_close : (n : ℕ) → n < value_end → RowsRest o n (word 14 0 n ∷ [])
  rows_close n small = ends {o = o} n [] small refl

  emissions_close : (n due : ℕ) → n < value_end → (ws : List ℕ) × EmissionsRest o n due ws
  emissions_close n due small = (
    flat_map emission_words (ones due) ++ (word 14 0 n ∷ []),
    record {
      emissions = ones due;
      tail = word 14 0 n ∷ [];
      count = length_ones due;
      legal = legal_ones due;
      later = rows_close n small;
      is = refl;
    },
  )

  -- some words complete the table in an open state
  pub completes : (n : ℕ) (s : State) → Open n s → (ws : List ℕ) × Rest o n s ws
  completes n Head h = (word 14 0 n ∷ [], rows_close n h)
  completes n (Matches f due m) h =
      let t = emissions_close n m h.0 in (
        match_words (first_pairs f due) ++ t.0,
        record {
          pairs = first_pairs f due;
          tail = t.0;
          count = length_first f due;
          legal = legal_first f due h.2;
          later = t.1;
          is = refl;
        },
      )
  completes n (Emissions due) h = emissions_close n due h.0
  completes n (Sets f due) h = let t = emissions_close n due h.0 in (t.0, no_sets {o = o} n f due t.0 t.1)
  completes n End h = ([], refl)

-- open is the state that says what is due
pub due_open : (n f d m : ℕ) → n < value_end → f + d ≤ fields → m < value_end → Open n (next_due f d m)
due_open n f zero zero a b c = a
due_open n f zero (suc m) a b c = (a, omega arith)
due_open n f (suc d) m a b c = (a, omega arith, b, c)

-- a word leads to an open state, and what completes the table is the same
abbrev Leads : Ops → ℕ → State → ℕ → ℕ → State → Type 0
Leads o n s w m t =
    Open m t
    × ((rest : List ℕ) → Rest o n s (w ∷ rest) → Rest o m t rest)
    × ((rest : List ℕ) → Rest o m t rest → Rest o n s (w ∷ rest))

module _ (o : Ops) where
  pub head_leads :
      (n f v : ℕ) (t : State) →
      Fit f v →
      n + 1 < value_end →
      f ≤ fields →
      t ≡ next_due 0 f v →
      Leads o n Head (word 10 f v) (n + 1) t
  head_leads n f v t fit small few e =
      subst (λ (x : State). Leads o n Head (word 10 f v) (n + 1) x) (sym e) (
        due_open (n + 1) 0 f v small (omega arith) fit.1,
        (λ rest r. due_to {o = o} (n + 1) 0 f v rest (opened {o = o} n f v rest fit (omega arith) r).2),
        (λ rest r. opens {o = o} n f v rest fit.1 (due_from {o = o} (n + 1) 0 f v rest r)),
      )

  pub end_leads : (n f v : ℕ) → Fit f v → n < value_end → f ≡ 0 → v ≡ n → Leads o n Head (word 14 f v) n End
  end_leads n f v fit small e i = (
    tt,
    (λ rest r. (ended {o = o} n f v rest fit r).2),
    (λ rest r.
        subst (λ (x : ℕ). RowsRest o n (word 14 x v ∷ rest)) (sym e)
        (subst (λ (x : ℕ). RowsRest o n (word 14 0 x ∷ rest)) (sym i) (ends {o = o} n rest small r))),
  )

  pub match_leads :
      (n f due m g v : ℕ) (t : State) →
      Open n (Matches f due m) →
      g < fields →
      LegalValue g v →
      f ≤ g →
      g + due ≤ fields →
      t ≡ next_due (g + 1) (due - 1) m →
      Leads o n (Matches f due m) (word 11 g v) n t
  match_leads n f due m g v t h exists legal le few e =
      let fit : Fit g v = (omega arith, omega (arith, legal)) in
      subst (λ (x : State). Leads o n (Matches f due m) (word 11 g v) n x) (sym e) (
        due_open n (g + 1) (due - 1) m h.0 (omega (arith, h.1)) h.3,
        (λ rest r. due_to {o = o} n (g + 1) (due - 1) m rest (matched {o = o} n f due m g v rest fit h.1 r).3),
        (λ rest r. matches {o = o} n f due m g v rest h.1 le exists legal (due_from {o = o} n (g + 1) (due - 1) m rest r)),
      )

  pub weight_leads :
      (laws : Laws o) (n due f v : ℕ) →
      Fit f v →
      n < value_end →
      0 < due →
      f ≡ 0 →
      Weight o v →
      (v ≡ o.zero → ⊥) →
      Leads o n (Emissions due) (word 12 f v) n (Sets 0 (due - 1))
  weight_leads laws n due f v fit small some e weight nonzero = (
    (small, omega arith),
    (λ rest r. (weighed laws n due f v rest fit r).4),
    (λ rest r. subst (λ (x : ℕ). EmissionsRest o n due (word 12 x v ∷ rest)) (sym e) (weighs laws n due v rest some weight nonzero r)),
  )

  pub set_leads :
      (laws : Laws o) (n f due g v : ℕ) →
      n < value_end →
      g < fields →
      LegalValue g v →
      f ≤ g →
      Leads o n (Sets f due) (word 13 g v) n (Sets (g + 1) due)
  set_leads laws n f due g v small exists legal le =
      let fit : Fit g v = (omega arith, omega (arith, legal)) in (
        (small, omega arith),
        (λ rest r. (setting laws n f due g v rest fit r).3),
        (λ rest r. sets {o = o} n f due g v rest le exists legal r),
      )

-- the kinds that a state's next word may have
abbrev Expected : State → ℕ → Type 0
Expected Head k = (k ≡ 10) ⊎ (k ≡ 14)
Expected (Matches f due m) k = k ≡ 11
Expected (Emissions due) k = k ≡ 12
Expected (Sets f due) k = (k ≡ 13) ⊎ ((k ≡ 12) ⊎ ((due ≡ 0) × ((k ≡ 10) ⊎ (k ≡ 14))))
Expected End k = ⊥

-- a number that no kind has is not the next word's kind
pub no_kind : (s : State) (n : ℕ) → ((k : TableKind) → number_of k ≢ n) → Expected s n → ⊥
no_kind Head n no_such (inl e) = no_such HeadWord (sym e)
no_kind Head n no_such (inr e) = no_such EndWord (sym e)
no_kind (Matches f due m) n no_such e = no_such MatchWord (sym e)
no_kind (Emissions due) n no_such e = no_such WeightWord (sym e)
no_kind (Sets f due) n no_such (inl e) = no_such SetWord (sym e)
no_kind (Sets f due) n no_such (inr (inl e)) = no_such WeightWord (sym e)
no_kind (Sets f due) n no_such (inr (inr (z, inl e))) = no_such HeadWord (sym e)
no_kind (Sets f due) n no_such (inr (inr (z, inr e))) = no_such EndWord (sym e)
no_kind End n no_such e = e

module _ {o : Ops} (laws : Laws o) where
  expected_emission :
      (n due w : ℕ) (rest : List ℕ) →
      EmissionsRest o n due (w ∷ rest) →
      (kind_of w ≡ 12) ⊎ ((due ≡ 0) × ((kind_of w ≡ 10) ⊎ (kind_of w ≡ 14)))
  expected_emission n due w rest r =
      elim (emissions_first laws n due w rest r) [ inl a ↦ inl a.0 | inr a ↦ inr (a.0, rows_first {o = o} n w rest a.1) ]

  pub expected : (n : ℕ) (s : State) (w : ℕ) (rest : List ℕ) → Open n s → Rest o n s (w ∷ rest) → Expected s (kind_of w)
  expected n Head w rest h r = rows_first {o = o} n w rest r
  expected n (Matches f due m) w rest h r = matches_first {o = o} n f due m w rest h.1 r
  expected n (Emissions due) w rest h r =
      elim (expected_emission n due w rest r) [ inl a ↦ a | inr a ↦ absurd (omega (arith, h.1, a.0)) ]
  expected n (Sets f due) w rest h r =
      elim (sets_first {o = o} n f due w rest r) [ inl a ↦ inl a | inr a ↦ inr (expected_emission n due w rest a) ]
  expected n End w rest h r = let z : 0 ≡ suc (length rest) = sym (ap length r) in omega arith

  pub unexpected : (n : ℕ) (s : State) (w : ℕ) → Open n s → (Expected s (kind_of w) → ⊥) → (rest : List ℕ) → Rest o n s (w ∷ rest) → ⊥
  unexpected n s w h other rest r = other (expected n s w rest h r)

-- two states are completed alike by what begins with a word
takes_like :
    (o : Ops) (n : ℕ) (s u : State) (w : ℕ) (r : Option Checker) →
    ((rest : List ℕ) → Rest o n s (w ∷ rest) → Rest o n u (w ∷ rest)) →
    ((rest : List ℕ) → Rest o n u (w ∷ rest) → Rest o n s (w ∷ rest)) →
    Takes o n u w r →
    Takes o n s w r
takes_like o n s u w (Some c) to from h = (h.0, (λ rest x. h.1 rest (to rest x)), (λ rest x. from rest (h.2 rest x)))
takes_like o n s u w None to from h = λ rest x. h rest (to rest x)

-- a row or the end may come
abbrev pub RowMayCome : State → Type 0
RowMayCome Head = ⊤
RowMayCome (Sets f due) = due ≡ 0
RowMayCome (Matches f due m) = ⊥
RowMayCome (Emissions due) = ⊥
RowMayCome End = ⊥

-- so many emissions are due
abbrev pub EmissionsDue : State → ℕ → Type 0
EmissionsDue (Emissions due) d = due ≡ d
EmissionsDue (Sets f due) d = due ≡ d
EmissionsDue Head d = ⊥
EmissionsDue (Matches f due m) d = ⊥
EmissionsDue End d = ⊥

module _ (o : Ops) (n : ℕ) where
  -- a word that is taken or refused in one state is so in another
  pub takes_at : (s u : State) (w x : ℕ) (r : Option Checker) → Takes o n u x r → s ≡ u → w ≡ x → Takes o n s w r
  takes_at s u w x r h e i = subst (λ (t : State). Takes o n t w r) (sym e) (subst (λ (y : ℕ). Takes o n u y r) (sym i) h)

  -- after the last emission, as before a row
  pub takes_row :
      (s : State) (w x : ℕ) (r : Option Checker) →
      Takes o n Head x r →
      RowMayCome s →
      w ≡ x →
      (kind_of w ≡ 13 → ⊥) →
      Takes o n s w r
  takes_row Head w x r h m i other = takes_at Head Head w x r h refl i
  takes_row (Matches f due b) w x r h m i other = elim m [ ]
  takes_row (Emissions due) w x r h m i other = elim m [ ]
  takes_row (Sets f due) w x r h m i other =
      subst (λ (d : ℕ). Takes o n (Sets f d) w r) (sym m)
      (takes_like o n (Sets f 0) Head w r
      (λ rest y. elim (sets_first {o = o} n f 0 w rest y) [ inl a ↦ absurd (other a) | inr a ↦ no_emissions {o = o} n (w ∷ rest) a ])
      (λ rest y. no_sets {o = o} n f 0 (w ∷ rest) (only_rows {o = o} n (w ∷ rest) y))
      (takes_at Head Head w x r h refl i))
  takes_row End w x r h m i other = elim m [ ]

  -- after an emission that is not the last, as before one
  pub takes_weight :
      (s : State) (due w x : ℕ) (r : Option Checker) →
      Takes o n (Emissions due) x r →
      EmissionsDue s due →
      w ≡ x →
      (kind_of w ≡ 13 → ⊥) →
      Takes o n s w r
  takes_weight Head due w x r h m i other = elim m [ ]
  takes_weight (Matches f d b) due w x r h m i other = elim m [ ]
  takes_weight (Emissions d) due w x r h m i other = takes_at (Emissions d) (Emissions due) w x r h (ap Emissions m) i
  takes_weight (Sets f d) due w x r h m i other =
      subst (λ (e : ℕ). Takes o n (Sets f e) w r) (sym m)
      (takes_like o n (Sets f due) (Emissions due) w r
      (λ rest y. elim (sets_first {o = o} n f due w rest y) [ inl a ↦ absurd (other a) | inr a ↦ a ])
      (λ rest y. no_sets {o = o} n f due (w ∷ rest) y)
      (takes_at (Emissions due) (Emissions due) w x r h refl i))
  takes_weight End due w x r h m i other = elim m [ ]

  -- a refusal
  pub takes_none : (s : State) (w : ℕ) (r : Option Checker) → r ≡ None → ((rest : List ℕ) → Rest o n s (w ∷ rest) → ⊥) → Takes o n s w r
  takes_none s w r e h = subst (λ (x : Option Checker). Takes o n s w x) (sym e) h

  pub no_match :
      (f due m g v : ℕ) (r : Option Checker) →
      r ≡ None →
      (g < fields → LegalValue g v → ⊥) →
      Fit g v →
      0 < due →
      Takes o n (Matches f due m) (word 11 g v) r
  no_match f due m g v r e wrong fit some =
      takes_none (Matches f due m) (word 11 g v) r e
      (λ rest h. let z = matched {o = o} n f due m g v rest fit some h in wrong (omega (arith, z.1, some)) z.2)

  pub no_set :
      (laws : Laws o) (f due g v : ℕ) (r : Option Checker) →
      r ≡ None →
      (g < fields → LegalValue g v → ⊥) →
      Fit g v →
      Takes o n (Sets f due) (word 13 g v) r
  no_set laws f due g v r e wrong fit =
      takes_none (Sets f due) (word 13 g v) r e (λ rest h. let z = setting laws n f due g v rest fit h in wrong z.1 z.2)
