-- The words of legal rows, scanned.
use Rattle.std.proofs.Common.{◌≡◌, ℕ, zero, suc, ◌%◌, ◌<◌, ◌≤◌, true, false, ◌&&◌, eqb, ◌⊎◌, List, [], ◌∷◌, ◌++◌, map, length, get_or, take, drop, Some, None, Option, MatchOption, option_map, Bor, sym, refl, ap, ◌∙◌, subst, inl, inr, append_assoc, arith, length-append}
use Rattle.std.specs.List.{flat_map, find, AllByRecursion}
use Rattle.std.proofs.lemmas.List.{take_at, length-map}
use Rattle.std.proofs.Math.Seq.{drop-append-add}
use Rattle.std.proofs.ByRecursion.{All-append, All-weaker}
use Rattle.std.proofs.lemmas.Bool.{cases_Bool, or_parts, eq-eqb, ne_eqb, le-ltb, cond-true, cond-false}
use Rattle.format.specs.Fields.{fields}
use Rattle.format.specs.Words.{word, value_end, kind_of, field_of, value_of}
use Rattle.weights.specs.Weights.{Ops, Laws}
use Rattle.tables.specs.Rows.{Pair, Emission, Row, emission_words, row_words, table_words, LegalPairs, LegalEmission, LegalRow, LegalRows}
use Rattle.tables.specs.Emits.{holds}
use Rattle.tables.specs.Scans.{closes, body_length, matches_hold, row_holds, first_row, counted, heads_past}
use Rattle.tables.specs.Forwards.{Decides}
use Rattle.tables.proofs.Parts.{match_words, set_words, parts_of_word, few_pairs, fit_pair}
use Rattle.tables.proofs.Scans.{closes_by, closes_not, past_end, past_other}

abbrev end_word : ℕ → List ℕ
end_word n = word 14 0 n ∷ []

-- the words of legal pairs have their kind
pub pair_kinds : (k f : ℕ) (ps : List Pair) → LegalPairs f ps → AllByRecursion (λ w. kind_of w ≡ k) (map (λ p. word k p.0 p.1) ps)
pair_kinds k f [] l = tt
pair_kinds k f (p ∷ ps) l = ((parts_of_word k p.0 p.1 (fit_pair f p ps l)).0, pair_kinds k (suc p.0) ps l.3)

pub body_append : (xs ys : List ℕ) → AllByRecursion (λ w. closes w ≡ false) xs → body_length ys ≡ 0 → body_length (xs ++ ys) ≡ length xs
body_append [] ys a e = e
body_append (x ∷ xs) ys a e = cond-false (closes x) _ _ a.0 ∙ ap suc (body_append xs ys a.1 e)

matches_taken :
    (f : ℕ) (ps : List Pair) (ys s : List ℕ) →
    LegalPairs f ps →
    matches_hold (take (length ps) (match_words ps ++ ys)) s ≡ holds ps s
matches_taken f [] ys s l = refl
matches_taken f (p ∷ ps) ys s l =
    let z = parts_of_word 11 p.0 p.1 (fit_pair f p ps l) in
    let m : field_of (word 11 p.0 p.1) % fields ≡ p.0 = omega (arith, z.1, l.1) in
    ap (λ b. b && matches_hold (take (length ps) (match_words ps ++ ys)) s)
    (ap (λ i. eqb (get_or s i 0) (value_of (word 11 p.0 p.1))) m ∙
    ap (λ v. eqb (get_or s p.0 0) v) z.2
    ) ∙
    ap (λ b. eqb (get_or s p.0 0) p.1 && b) (matches_taken (suc p.0) ps ys s l.3)

-- an emission has a weight word
few_emissions : (es : List Emission) → length es ≤ length (flat_map emission_words es)
few_emissions [] = omega arith
few_emissions (e ∷ es) =
    let n = length-append (emission_words e) (flat_map emission_words es) in
    omega (arith, n, few_emissions es)

past_open :
    (n : ℕ) (xs ys : List ℕ) →
    n ≤ length xs →
    AllByRecursion (λ w. closes w ≡ false) xs →
    heads_past n (xs ++ ys) ≡ heads_past 0 ys
past_open zero [] ys l a = refl
past_open (suc n) [] ys l a = absurd (omega (arith, l))
past_open (suc n) (x ∷ xs) ys l a = past_open n xs ys (omega (arith, l)) a.1
past_open zero (x ∷ xs) ys l a =
    let p = or_parts (eqb (kind_of x) 10) (eqb (kind_of x) 14) a.0 in
    past_other (x ∷ (xs ++ ys)) x (xs ++ ys) refl p.0 p.1 ∙ past_open zero xs ys (omega arith) a.1

module _ {o : Ops} (laws : Laws o) where
  emission_kinds :
      (es : List Emission) →
      AllByRecursion (LegalEmission o) es →
      AllByRecursion (λ w. (kind_of w ≡ 12) ⊎ (kind_of w ≡ 13)) (flat_map emission_words es)
  emission_kinds [] l = tt
  emission_kinds (e ∷ es) l =
      let small = laws.below_end e.weight l.0.of_kind in (
        inl (parts_of_word 12 0 e.weight (omega arith, omega arith)).0,
        All-append _ (set_words e.sets) (flat_map emission_words es)
            (All-weaker (λ w. kind_of w ≡ 13) _ (λ w h. inr h) (set_words e.sets) (pair_kinds 13 0 e.sets l.0.sets_legal))
            (emission_kinds es l.1),
      )

  abbrev row_body : Row → List ℕ
  row_body r = match_words r.matches ++ flat_map emission_words r.emissions

  body_open : (r : Row) → LegalRow o r → AllByRecursion (λ w. closes w ≡ false) (row_body r)
  body_open r l =
      All-append _ (match_words r.matches) (flat_map emission_words r.emissions)
      (All-weaker (λ w. kind_of w ≡ 11) _ (λ w h. closes_not w (kind_of w) refl (λ x. omega (arith, h, x)) (λ x. omega (arith, h, x))) (match_words r.matches) (pair_kinds 11 0 r.matches l.matches_legal))
      (All-weaker (λ w. (kind_of w ≡ 12) ⊎ (kind_of w ≡ 13)) _
      (λ w h. elim h [
        | inl a ↦ closes_not w (kind_of w) refl (λ x. omega (arith, a, x)) (λ x. omega (arith, a, x))
        | inr a ↦ closes_not w (kind_of w) refl (λ x. omega (arith, a, x)) (λ x. omega (arith, a, x))
      ])
      (flat_map emission_words r.emissions) (emission_kinds r.emissions l.emissions_legal))

  abbrev head_of : Row → ℕ
  head_of r = word 10 (length r.matches) (length r.emissions)

  head_parts : (r : Row) → LegalRow o r → (kind_of (head_of r) ≡ 10) × (field_of (head_of r) ≡ length r.matches) × (value_of (head_of r) ≡ length r.emissions)
  head_parts r l =
      let few = few_pairs 0 r.matches (omega arith) l.matches_legal in
      parts_of_word 10 (length r.matches) (length r.emissions) (omega arith, l.countable)

  head_kind : (r : Row) → LegalRow o r → kind_of (head_of r) ≡ 10
  head_kind r l = (head_parts r l).0

  -- what the head counts stands in the row
  counted_within : (r : Row) → LegalRow o r → counted (head_of r) ≤ length (row_body r)
  counted_within r l =
      let z = head_parts r l in
      let n = length-append (match_words r.matches) (flat_map emission_words r.emissions) in
      let m = length-map r.matches (λ p. word 11 p.0 p.1) in
      omega (arith, z.1, z.2, n, m, few_emissions r.emissions)

  end_kind : (n : ℕ) → n < value_end → kind_of (word 14 0 n) ≡ 14
  end_kind n small = (parts_of_word 14 0 n (omega arith, small)).0

  -- behind a row comes a head or the end
  tail_closes : (rows : List Row) (n : ℕ) → AllByRecursion (LegalRow o) rows → n < value_end → body_length (flat_map row_words rows ++ end_word n) ≡ 0
  tail_closes [] n l small = cond-true _ _ _ (closes_by (word 14 0 n) (kind_of (word 14 0 n)) refl (inr (end_kind n small)))
  tail_closes (r ∷ rows) n l small =
      cond-true _ _ _ (closes_by (word 10 (length r.matches) (length r.emissions)) _ refl (inl (head_kind r l.0)))

  abbrev rest_of : List Row → ℕ → List ℕ
  rest_of rows n = flat_map row_words rows ++ end_word n

  row_then : (r : Row) (rows : List Row) (n : ℕ) → rest_of (r ∷ rows) n ≡ head_of r ∷ (row_body r ++ rest_of rows n)
  row_then r rows n = ap (λ ws. head_of r ∷ ws) (append_assoc (row_body r) (flat_map row_words rows) (end_word n))

  -- the match words that the head counts are the row's matches
  row_hold : (r : Row) (ys s : List ℕ) → LegalRow o r → row_holds (head_of r ∷ (row_body r ++ ys)) s ≡ holds r.matches s
  row_hold r ys s l =
      ap (λ k. matches_hold (take k (row_body r ++ ys)) s) (head_parts r l).1 ∙
      ap (λ ws. matches_hold (take (length r.matches) ws) s) (append_assoc (match_words r.matches) (flat_map emission_words r.emissions) ys) ∙
      matches_taken 0 r.matches (flat_map emission_words r.emissions ++ ys) s l.matches_legal

  row_first : (r : Row) (ys : List ℕ) → LegalRow o r → body_length ys ≡ 0 → first_row (head_of r ∷ (row_body r ++ ys)) ≡ row_words r
  row_first r ys l e =
      ap (λ k. head_of r ∷ take k (row_body r ++ ys)) (body_append (row_body r) ys (body_open r l) e) ∙
      ap (λ ws. head_of r ∷ ws) (take_at (row_body r) ys (length (row_body r)) refl)

  -- behind a row's own head come those of the other rows
  heads_then :
      (r : Row) (rows : List Row) (n : ℕ) →
      LegalRow o r →
      heads_past 0 (rest_of (r ∷ rows) n) ≡ (head_of r ∷ (row_body r ++ rest_of rows n)) ∷ heads_past 0 (rest_of rows n)
  heads_then r rows n l =
      let t = rest_of rows n in
      let w = counted_within r l in
      let k = length-append (row_body r) t in
      ap (heads_past 0) (row_then r rows n) ∙
      cond-true _ _ _ (eq-eqb _ _ (head_kind r l)) ∙
      cond-false _ _ _ (le-ltb (length (row_body r ++ t)) (counted (head_of r)) (omega (arith, w, k))) ∙
      ap (λ rs. (head_of r ∷ (row_body r ++ t)) ∷ rs) (past_open (counted (head_of r)) (row_body r) t w (body_open r l))

  -- the first head whose matches hold is that of the first row whose matches hold
  found_rows :
      (rows : List Row) (n : ℕ) (s : List ℕ) →
      AllByRecursion (LegalRow o) rows →
      n < value_end →
      option_map first_row (find (λ ws. row_holds ws s) (heads_past 0 (rest_of rows n))) ≡ option_map row_words (find (λ r. holds r.matches s) rows)
  found_rows [] n s l small =
      ap (λ hs. option_map first_row (find (λ ws. row_holds ws s) hs))
      (past_end (end_word n) (word 14 0 n) [] refl (ne_eqb (kind_of (word 14 0 n)) 10 (λ x. omega (arith, end_kind n small, x))) (eq-eqb _ _ (end_kind n small)))
  found_rows (r ∷ rows) n s l small =
      ap (λ hs. option_map first_row (find (λ ws. row_holds ws s) hs)) (heads_then r rows n l.0) ∙
      go (row_hold r (rest_of rows n) s l.0) (cases_Bool (holds r.matches s)) (found_rows rows n s l.1 small)
    where
      here : List ℕ
      here = head_of r ∷ (row_body r ++ rest_of rows n)

      later : List (List ℕ)
      later = heads_past 0 (rest_of rows n)

      go :
          row_holds here s ≡ holds r.matches s →
          (holds r.matches s ≡ true) ⊎ (holds r.matches s ≡ false) →
          option_map first_row (find (λ ws. row_holds ws s) later) ≡ option_map row_words (find (λ r. holds r.matches s) rows) →
          option_map first_row (find (λ ws. row_holds ws s) (here ∷ later)) ≡ option_map row_words (find (λ r. holds r.matches s) (r ∷ rows))
      go e (inl h) i =
          ap (option_map first_row) (cond-true _ _ _ (e ∙ h)) ∙
          ap Some (row_first r (rest_of rows n) l.0 (tail_closes rows n l.1 small)) ∙
          sym (ap (option_map row_words) (cond-true _ _ _ h))
      go e (inr h) i =
          ap (option_map first_row) (cond-false _ _ _ (e ∙ h)) ∙ i ∙ sym (ap (option_map row_words) (cond-false _ _ _ h))

  -- the first row that holds, wherever the words go on after the rows
  first_holds :
      (rows : List Row) (s more : List ℕ) (r : Option (List ℕ)) →
      AllByRecursion (LegalRow o) rows →
      r ≡ option_map row_words (find (λ x. holds x.matches s) rows) →
      MatchOption r (AllByRecursion (λ x. holds x.matches s ≡ false) rows) (λ found. Decides rows s (flat_map row_words rows ++ more) found)
  first_holds [] s more r l e = subst (λ (x : Option (List ℕ)). MatchOption x (Unit {0}) (λ found. Decides [] s more found)) (sym e) tt
  first_holds (x ∷ rows) s more r l e = go (λ h. later h r (first_holds rows s more r l.1 (e ∙ ap (option_map row_words) (cond-false _ _ _ h)))) (cases_Bool (holds x.matches s))
    where
      later :
          holds x.matches s ≡ false →
          (r : Option (List ℕ)) →
          MatchOption r (AllByRecursion (λ x. holds x.matches s ≡ false) rows) (λ found. Decides rows s (flat_map row_words rows ++ more) found) →
          MatchOption r (AllByRecursion (λ x. holds x.matches s ≡ false) (x ∷ rows)) (λ found. Decides (x ∷ rows) s (flat_map row_words (x ∷ rows) ++ more) found)
      later h None a = (h, a)
      later h (Some found) d =
          record {
            before = x ∷ d.before;
            row = d.row;
            after = d.after;
            order = ap (λ rs. x ∷ rs) d.order;
            passed = (h, d.passed);
            held = d.held;
            found_is = d.found_is;
            part =
                d.part ∙
                ap (take (length found))
                (sym (ap (drop (length (row_words x ++ flat_map row_words d.before))) (append_assoc (row_words x) (flat_map row_words rows) more) ∙
                ap (λ k. drop k (row_words x ++ (flat_map row_words rows ++ more))) (length-append (row_words x) (flat_map row_words d.before)) ∙
                drop-append-add (row_words x) (flat_map row_words rows ++ more) (length (flat_map row_words d.before))));
          }

      go :
          (holds x.matches s ≡ false → MatchOption r (AllByRecursion (λ x. holds x.matches s ≡ false) (x ∷ rows)) (λ found. Decides (x ∷ rows) s (flat_map row_words (x ∷ rows) ++ more) found)) →
          (holds x.matches s ≡ true) ⊎ (holds x.matches s ≡ false) →
          MatchOption r (AllByRecursion (λ x. holds x.matches s ≡ false) (x ∷ rows)) (λ found. Decides (x ∷ rows) s (flat_map row_words (x ∷ rows) ++ more) found)
      go next (inl h) =
          subst (λ (y : Option (List ℕ)). MatchOption y (AllByRecursion (λ x. holds x.matches s ≡ false) (x ∷ rows)) (λ found. Decides (x ∷ rows) s (flat_map row_words (x ∷ rows) ++ more) found))
          (sym (e ∙ ap (option_map row_words) (cond-true _ _ _ h)))
          (record {
            before = [];
            row = x;
            after = rows;
            order = refl;
            passed = tt;
            held = h;
            found_is = refl;
            part =
                sym (ap (take (length (row_words x))) (append_assoc (row_words x) (flat_map row_words rows) more) ∙
                take_at (row_words x) (flat_map row_words rows ++ more) (length (row_words x)) refl);
          })
      go next (inr h) = next h

pub lookup_decides :
    {o : Ops} (laws : Laws o) (rows : List Row) (s ws : List ℕ) (r : Option (Bor (List ℕ))) →
    LegalRows o rows →
    ws ≡ table_words rows →
    option_map (λ x. x.now) r ≡ option_map first_row (find (λ x. row_holds x s) (heads_past 0 ws)) →
    MatchOption r (AllByRecursion (λ x. holds x.matches s ≡ false) rows) (λ found. Decides rows s ws found.now)
lookup_decides laws rows s ws r l e h =
    subst (λ (ws : List ℕ). MatchOption r (AllByRecursion (λ x. holds x.matches s ≡ false) rows) (λ found. Decides rows s ws found.now)) (sym e)
    (of_now r (first_holds laws rows s (end_word (length rows)) (option_map (λ x. x.now) r) l.each
    (h ∙ ap (λ ws. option_map first_row (find (λ x. row_holds x s) (heads_past 0 ws))) e ∙ found_rows laws rows (length rows) s l.each l.countable)))
  where
    of_now :
        (r : Option (Bor (List ℕ))) →
        MatchOption (option_map (λ x. x.now) r) (AllByRecursion (λ x. holds x.matches s ≡ false) rows) (λ found. Decides rows s (table_words rows) found) →
        MatchOption r (AllByRecursion (λ x. holds x.matches s ≡ false) rows) (λ found. Decides rows s (table_words rows) found.now)
    of_now None h = h
    of_now (Some x) h = h
