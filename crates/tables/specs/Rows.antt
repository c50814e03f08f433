-- Tables of match rows, their words, and which tables are legal.
use Rattle.std.specs.Prelude.{◌≡◌, ℕ, suc, ◌<◌, ◌≤◌, List, [], ◌∷◌, ◌++◌, map, length}
use Rattle.std.specs.List.{flat_map, AllByRecursion}
use Rattle.format.specs.Fields.{fields, LegalValue}
use Rattle.format.specs.Words.{word, value_end}
use Rattle.weights.specs.Weights.{Ops, Weight}

-- a field and its value
abbrev pub Pair : Type 0
Pair = ℕ × ℕ

-- a frame that a row sends on: at what weight, and the fields that are set in it
pub record Emission : Type 0 where
  pub weight : ℕ
  pub sets : List Pair

-- a row: the values that a frame must have, and what is then emitted
pub record Row : Type 0 where
  pub matches : List Pair
  pub emissions : List Emission

-- a weight word and the set words
abbrev pub emission_words : Emission → List ℕ
emission_words e = word 12 0 e.weight ∷ map (λ p. word 13 p.0 p.1) e.sets

-- a head that counts the matches and the emissions, the matches, the emissions
abbrev pub row_words : Row → List ℕ
row_words r =
    word 10 (length r.matches) (length r.emissions) ∷
    (map (λ p. word 11 p.0 p.1) r.matches ++ flat_map emission_words r.emissions)

-- the rows and an end word that counts them
abbrev pub table_words : List Row → List ℕ
table_words rows = flat_map row_words rows ++ (word 14 0 (length rows) ∷ [])

-- legal values of fields from f on, the fields strictly ascending
abbrev pub LegalPairs : ℕ → List Pair → Type 0
LegalPairs f [] = Unit {0}
LegalPairs f (p ∷ ps) = (f ≤ p.0) × (p.0 < fields) × LegalValue p.0 p.1 × LegalPairs (suc p.0) ps

-- a nonzero weight of the kind, and legal sets
pub record LegalEmission (o : Ops) (e : Emission) : Type 0 where
  pub of_kind : Weight o e.weight
  pub nonzero : e.weight ≡ o.zero → ⊥
  pub sets_legal : LegalPairs 0 e.sets

-- legal matches and emissions, few enough for the head to count
pub record LegalRow (o : Ops) (r : Row) : Type 0 where
  pub matches_legal : LegalPairs 0 r.matches
  pub countable : length r.emissions < value_end
  pub emissions_legal : AllByRecursion (LegalEmission o) r.emissions

-- legal rows, few enough for the end word to count
pub record LegalRows (o : Ops) (rows : List Row) : Type 0 where
  pub each : AllByRecursion (LegalRow o) rows
  pub countable : length rows < value_end

-- words are a legal table if they are those of legal rows
abbrev pub LegalTable : Ops → List ℕ → Type 0
LegalTable o ws = (rows : List Row) × LegalRows o rows × (ws ≡ table_words rows)

-- P holds of the rows of the legal table whose words these are; of words that are no legal table this says nothing
abbrev pub OfItsRows : Ops → List ℕ → (List Row → Type 0) → Type 0
OfItsRows o ws P = (rows : List Row) → LegalRows o rows → ws ≡ table_words rows → P rows
