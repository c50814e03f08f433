-- How far the check has come in a table's words.
use Rattle.std.proofs.Common.{◌≡◌, ℕ, ◌+◌, ◌<◌, List, [], ◌∷◌, ◌++◌, map, length, get_or, take, Some, None, sym, refl, ap, ◌∙◌, subst, append_assoc, arith, length-append}
use Rattle.std.specs.List.{flat_map}
use Rattle.std.proofs.lemmas.List.{take_more, take_all, append-nil}
use Rattle.format.specs.Words.{word}
use Rattle.weights.specs.Weights.{Ops, Laws}
use Rattle.tables.specs.declared.state.Checker.{Checker}
use Rattle.tables.specs.declared.state.State.{State}
use Rattle.tables.specs.declared.state.State.TheVariants.{Head, Matches, Emissions, Sets, End}
use Rattle.tables.specs.Rows.{LegalTable, row_words, emission_words}
use Rattle.tables.specs.Checking.{RowsRest, EmissionsRest, Rest, Open, Takes, Stops}
use Rattle.tables.proofs.Checks.{completes}

-- after i words, what completes a legal table is what completes it from the state
abbrev pub Reached : Ops → List ℕ → ℕ → ℕ → State → Type 0
Reached o ws i n s =
    Open n s
    × ((rest : List ℕ) → LegalTable o (take i ws ++ rest) → Rest o n s rest)
    × ((rest : List ℕ) → Rest o n s rest → LegalTable o (take i ws ++ rest))

pub start_reached : (o : Ops) (ws : List ℕ) → Reached o ws 0 0 Head
start_reached o ws = (
  omega arith,
  (λ rest t.
      record {
        rows = t.0;
        legal = t.1.each;
        countable = omega (arith, t.1.countable);
        is =
            t.2 ∙
            ap (λ k. flat_map row_words t.0 ++ (word 14 0 k ∷ []))
            (let z : length t.0 ≡ 0 + length t.0 = omega arith in z);
      }),
  (λ rest r. (
    r.rows,
    record { each = r.legal; countable = omega (arith, r.countable) },
    r.is ∙
        ap (λ k. flat_map row_words r.rows ++ (word 14 0 k ∷ []))
        (let z : 0 + length r.rows ≡ length r.rows = omega arith in z),
  )),
)

-- one word more
one_more : (ws : List ℕ) (i : ℕ) (rest : List ℕ) → i < length ws → take (i + 1) ws ++ rest ≡ take i ws ++ (get_or ws i 0 ∷ rest)
one_more ws i rest l = ap (λ t. t ++ rest) (take_more ws i 0 l) ∙ append_assoc (take i ws) (get_or ws i 0 ∷ []) rest

pub reached_more :
    (o : Ops) (ws : List ℕ) (i n : ℕ) (s : State) (c : Checker) →
    i < length ws →
    Reached o ws i n s →
    Takes o n s (get_or ws i 0) (Some c) →
    Reached o ws (i + 1) c.rows c.state
reached_more o ws i n s c l r h = (
  h.0,
  (λ rest x. h.1 rest (r.1 (get_or ws i 0 ∷ rest) (subst (LegalTable o) (one_more ws i rest l) x))),
  (λ rest x. subst (LegalTable o) (sym (one_more ws i rest l)) (r.2 (get_or ws i 0 ∷ rest) (h.2 rest x))),
)

rows_some : (o : Ops) (n : ℕ) (ws : List ℕ) → RowsRest o n ws → 0 < length ws
rows_some o n ws r =
    omega (arith, ap length r.is, length-append (flat_map row_words r.rows) (word 14 0 (n + length r.rows) ∷ []))

emissions_some : (o : Ops) (n due : ℕ) (ws : List ℕ) → EmissionsRest o n due ws → 0 < length ws
emissions_some o n due ws r =
    omega (arith, ap length r.is, length-append (flat_map emission_words r.emissions) r.tail, rows_some o n r.tail r.later)

-- only after the end nothing comes
some_rest : (o : Ops) (n : ℕ) (s : State) → Rest o n s [] → s ≡ End
some_rest o n Head r = absurd (omega (arith, rows_some o n [] r))
some_rest o n (Matches f due m) r =
    absurd
    (omega (
      arith,
      ap length r.is,
      length-append (map (λ p. word 11 p.0 p.1) r.pairs) r.tail,
      emissions_some o n m r.tail r.later,
    ))
some_rest o n (Emissions due) r = absurd (omega (arith, emissions_some o n due [] r))
some_rest o n (Sets f due) r =
    absurd
    (omega (
      arith,
      ap length r.is,
      length-append (map (λ p. word 13 p.0 p.1) r.pairs) r.tail,
      emissions_some o n due r.tail r.later,
    ))
some_rest o n End r = refl

whole : (ws : List ℕ) (i : ℕ) → i ≡ length ws → take i ws ++ [] ≡ ws
whole ws i e = append-nil (take i ws) ∙ take_all i ws (omega arith)

module _ {o : Ops} (laws : Laws o) where
  begins : (ws : List ℕ) (i n : ℕ) (s : State) → Reached o ws i n s → (rest : List ℕ) × LegalTable o (take i ws ++ rest)
  begins ws i n s r = let c = completes laws n s r.0 in (c.0, r.2 c.0 c.1)

  pub stuck_stops :
      (ws : List ℕ) (i n : ℕ) (s : State) →
      i < length ws →
      Reached o ws i n s →
      Takes o n s (get_or ws i 0) None →
      Stops o ws i
  stuck_stops ws i n s l r h =
      record {
        within = omega arith;
        begins = begins ws i n s r;
        stuck = λ _ rest x. h rest (r.1 (get_or ws i 0 ∷ rest) (subst (LegalTable o) (one_more ws i rest l) x));
        early = λ e. absurd (omega arith);
      }

  pub early_stops :
      (ws : List ℕ) (i n : ℕ) (s : State) →
      i ≡ length ws →
      Reached o ws i n s →
      (s ≡ End → ⊥) →
      Stops o ws (length ws)
  early_stops ws i n s e r ne =
      subst (Stops o ws) e
      (record {
        within = omega arith;
        begins = begins ws i n s r;
        stuck = λ l. absurd (omega arith);
        early = λ _ x. ne (some_rest o n s (r.1 [] (subst (LegalTable o) (sym (whole ws i e)) x)));
      })

  pub end_legal : (ws : List ℕ) (i n : ℕ) (s : State) → i ≡ length ws → Reached o ws i n s → s ≡ End → LegalTable o ws
  end_legal ws i n s e r h =
      subst (LegalTable o) (whole ws i e) (r.2 [] (subst (λ (x : State). Rest o n x []) (sym h) refl))
