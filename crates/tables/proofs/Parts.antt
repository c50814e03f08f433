-- Words by their parts, and the number of a row's matches.
use Rattle.std.proofs.Common.{◌≡◌, ℕ, suc, ◌+◌, ◌<◌, ◌≤◌, List, [], ◌∷◌, map, length, get_or, drop, ap, arith}
use Rattle.format.specs.Fields.{fields}
use Rattle.format.specs.Words.{word, value_end, kind_of, field_of, value_of}
use Rattle.tables.specs.Rows.{Pair, LegalPairs}

-- a field and a value that a word can hold
abbrev pub Fit : ℕ → ℕ → Type 0
Fit f v = (f < 16) × (v < value_end)

abbrev pub match_words : List Pair → List ℕ
match_words ps = map (λ p. word 11 p.0 p.1) ps

abbrev pub set_words : List Pair → List ℕ
set_words ps = map (λ p. word 13 p.0 p.1) ps

pub whole_word : (w : ℕ) → w ≡ word (kind_of w) (field_of w) (value_of w)
whole_word w = omega arith

pub fit_parts : (w : ℕ) → Fit (field_of w) (value_of w)
fit_parts w = (omega arith, omega arith)

pub parts_of_word : (k f v : ℕ) → Fit f v → (kind_of (word k f v) ≡ k) × (field_of (word k f v) ≡ f) × (value_of (word k f v) ≡ v)
parts_of_word k f v h = (omega arith, omega arith, omega arith)

pub same_parts :
    (k f v l g u : ℕ) →
    Fit f v →
    Fit g u →
    word k f v ≡ word l g u →
    (k ≡ l) × (f ≡ g) × (v ≡ u)
same_parts k f v l g u h i e = (omega arith, omega arith, omega arith)

pub head_same : {x y : ℕ} {xs ys : List ℕ} → x ∷ xs ≡ y ∷ ys → x ≡ y
head_same e = ap (λ l. get_or l 0 0) e

pub tail_same : {x y : ℕ} {xs ys : List ℕ} → x ∷ xs ≡ y ∷ ys → xs ≡ ys
tail_same e = ap (drop 1) e

-- a field from f on leaves room only for the greater fields
pub few_pairs : (f : ℕ) (ps : List Pair) → f ≤ fields → LegalPairs f ps → f + length ps ≤ fields
few_pairs f [] h l = omega arith
few_pairs f (p ∷ ps) h l =
    let i : suc p.0 ≤ fields = omega (arith, l.1) in
    omega (arith, few_pairs (suc p.0) ps i l.3, l.0)

pub fit_pair : (f : ℕ) (p : Pair) (ps : List Pair) → LegalPairs f (p ∷ ps) → Fit p.0 p.1
fit_pair f p ps l = (omega (arith, l.1), omega (arith, l.2))
