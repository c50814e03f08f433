-- Steps of the scans.
use Rattle.std.proofs.Common.{◌≡◌, ℕ, zero, suc, ◌<◌, ◌≤◌, true, false, ◌&&◌, eqb, ◌⊎◌, List, [], ◌∷◌, length, drop, set, Decides, Option, unwrap_or, MatchOption, add-one, arith, sym, refl, ap, ◌∙◌, subst, inl, inr}
use Rattle.std.specs.List.{HoldsAt, AllWithin, list_all, slice_range}
use Rattle.std.proofs.lemmas.List.{take_rest}
use Rattle.std.proofs.lemmas.List.Recursion.{same_from_clauses}
use Rattle.std.proofs.lemmas.Iterator.{index_from_first}
use Rattle.std.proofs.lemmas.Slice.Eq.{compares_Decides}
use Rattle.std.proofs.lemmas.Bool.{and_from, lt-ltb, le-ltb, eq-eqb, ne_eqb, cond-true, cond-false, or_left, or_right, or_from, or_parts, cond_both}
use Rattle.format.specs.Fields.{fields, range, LegalValue}
use Rattle.tables.specs.Emits.{same}
use Rattle.format.specs.Words.{kind_of, field_of, value_of}
use Rattle.tables.specs.Scans.{closes, body_length, match_holds, matches_hold, counted, heads_past, put}

pub closes_by : (w k : ℕ) → k ≡ kind_of w → (k ≡ 10) ⊎ (k ≡ 14) → closes w ≡ true
closes_by w k e (inl h) = or_left _ _ (eq-eqb (kind_of w) 10 (sym e ∙ h))
closes_by w k e (inr h) = or_right _ _ (eq-eqb (kind_of w) 14 (sym e ∙ h))

pub closes_not : (w k : ℕ) → k ≡ kind_of w → (k ≡ 10 → ⊥) → (k ≡ 14 → ⊥) → closes w ≡ false
closes_not w k e a b = or_from _ _ (ne_eqb (kind_of w) 10 (λ h. a (e ∙ h))) (ne_eqb (kind_of w) 14 (λ h. b (e ∙ h)))

-- what `position` finds of the words that close
pub body_first :
    (ws : List ℕ) (r : Option ℕ) →
    MatchOption r (AllWithin (λ w. closes w ≡ false) ws 0 (length ws)) (λ i. (i < length ws) × HoldsAt (λ w. closes w ≡ true) ws i × AllWithin (λ w. closes w ≡ false) ws 0 i) →
    body_length ws ≡ unwrap_or r (length ws)
body_first = index_from_first body_length (λ w. closes w ≡ true) (λ w. closes w ≡ false) refl (λ w ws h. cond-true _ _ _ h) (λ w ws h. cond-false _ _ _ h ∙ sym (add-one (body_length ws)))

pub body_within : (ws : List ℕ) → body_length ws ≤ length ws
body_within [] = omega arith
body_within (w ∷ ws) = cond_both (closes w) _ _ (λ x. x ≤ suc (length ws)) (λ e. omega arith) (λ e. omega (arith, body_within ws))

pub all_hold : (ws s : List ℕ) → list_all (λ w. match_holds w s) ws ≡ matches_hold ws s
all_hold ws s = same_from_clauses (list_all (λ w. match_holds w s)) (λ x. matches_hold x s) (λ w b. match_holds w s && b) refl (λ _ _. refl) (λ _ _. refl) ws

pub same_decides : (s t : List ℕ) → Decides (same s t) (s ≡ t)
same_decides s t = compares_Decides same (record { empty = refl; shorter = λ _ _. refl; longer = λ _ _. refl; heads = λ _ _ _ _. refl }) s t

pub put_some : (w f v : ℕ) (s : List ℕ) → f ≡ field_of w → v ≡ value_of w → f < fields → LegalValue f v → put w s ≡ set s f v
put_some w f v s e i l m =
    let a : field_of w < fields = subst (λ (x : ℕ). x < fields) e l in
    let b : value_of w < range (field_of w) = subst (λ (x : ℕ). x < range (field_of w)) i (subst (λ (x : ℕ). LegalValue x v) e m) in
    cond-true _ _ _ (and_from _ _ (lt-ltb _ _ a) (lt-ltb _ _ b)) ∙ ap (λ x. set s x (value_of w)) (sym e) ∙ ap (set s f) (sym i)

past_drop : (n : ℕ) (ws : List ℕ) → heads_past n ws ≡ heads_past 0 (drop n ws)
past_drop zero ws = refl
past_drop (suc n) [] = refl
past_drop (suc n) (w ∷ ws) = past_drop n ws

-- from a head on come its own words and those from each head past what it counts
pub past_head :
    (ws : List ℕ) (h : ℕ) (b later : List ℕ) (n : ℕ) →
    ws ≡ h ∷ b →
    eqb (kind_of h) 10 ≡ true →
    n ≡ counted h →
    n ≤ length b →
    later ≡ slice_range b n (length b) →
    heads_past 0 ws ≡ ws ∷ heads_past 0 later
past_head ws h b later n e k c l d =
    ap (heads_past 0) e ∙ cond-true _ _ _ k ∙ cond-false _ _ _ (le-ltb (length b) (counted h) (omega (arith, c, l))) ∙
    ap (λ rs. (h ∷ b) ∷ rs) (ap (λ m. heads_past m b) (sym c) ∙ past_drop n b ∙ ap (heads_past 0) (sym (d ∙ take_rest b n))) ∙
    ap (λ x. x ∷ heads_past 0 later) (sym e)

-- a head that counts more than there is begins no row
pub past_short :
    (ws : List ℕ) (h : ℕ) (b : List ℕ) →
    ws ≡ h ∷ b →
    eqb (kind_of h) 10 ≡ true →
    length b < counted h →
    heads_past 0 ws ≡ []
past_short ws h b e k l = ap (heads_past 0) e ∙ cond-true _ _ _ k ∙ cond-true _ _ _ (lt-ltb _ _ l)

pub past_end :
    (ws : List ℕ) (h : ℕ) (b : List ℕ) →
    ws ≡ h ∷ b →
    eqb (kind_of h) 10 ≡ false →
    eqb (kind_of h) 14 ≡ true →
    heads_past 0 ws ≡ []
past_end ws h b e k l = ap (heads_past 0) e ∙ cond-false _ _ _ k ∙ cond-true _ _ _ l

pub past_other :
    (ws : List ℕ) (h : ℕ) (b : List ℕ) →
    ws ≡ h ∷ b →
    eqb (kind_of h) 10 ≡ false →
    eqb (kind_of h) 14 ≡ false →
    heads_past 0 ws ≡ heads_past 0 b
past_other ws h b e k l = ap (heads_past 0) e ∙ cond-false _ _ _ k ∙ cond-false _ _ _ l

-- no row begins before the next head or end
past_body : (ws : List ℕ) → heads_past 0 ws ≡ heads_past 0 (drop (body_length ws) ws)
past_body [] = refl
past_body (w ∷ ws) =
    cond_both (closes w) 0 (suc (body_length ws)) (λ n. heads_past 0 (w ∷ ws) ≡ heads_past 0 (drop n (w ∷ ws))) (λ e. refl)
    (λ e. let p = or_parts (eqb (kind_of w) 10) (eqb (kind_of w) 14) e in past_other (w ∷ ws) w ws refl p.0 p.1 ∙ past_body ws)

pub past_next :
    (ws : List ℕ) (h : ℕ) (b later : List ℕ) →
    ws ≡ h ∷ b →
    eqb (kind_of h) 10 ≡ false →
    eqb (kind_of h) 14 ≡ false →
    later ≡ drop (body_length b) b →
    heads_past 0 ws ≡ heads_past 0 later
past_next ws h b later e k l d = past_other ws h b e k l ∙ past_body b ∙ ap (heads_past 0) (sym d)
