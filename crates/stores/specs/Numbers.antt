-- Records under numbers: what a store holds, and what entering a record does.
use Rattle.std.specs.Prelude.{◌≡◌, ℕ, zero, suc, ◌+◌, ◌-◌, ◌≤◌, min, ◌⊎◌, List, [], ◌∷◌, ◌++◌, length, take, Some, None, Option}
use Rattle.std.specs.List.{slice_get}
use Rattle.format.specs.Words.{value_end}

-- the record under a number: the first has number 1
abbrev pub record_at : {R : Type 0} → List R → ℕ → Option R
record_at rs zero = None
record_at rs (suc n) = slice_get rs n

-- r has number n
abbrev pub Numbered : {R : Type 0} → List R → ℕ → R → Type 0
Numbered rs n r = record_at rs n ≡ Some r

abbrev pub Absent : {R : Type 0} → List R → R → Type 0
Absent rs r = (n : ℕ) → Numbered rs n r → ⊥

-- equal records have one number
abbrev pub Distinct : {R : Type 0} → List R → Type 0
Distinct {R} rs = (m n : ℕ) (r : R) → Numbered rs m r → Numbered rs n r → m ≡ n

-- a word can number this many records
abbrev pub numbers_limit : ℕ
numbers_limit = value_end - 1

-- the records in store: those in the first slots, as many as the count c says
abbrev pub held : {R : Type 0} → ℕ → List R → List R
held c slots = take (min c numbers_limit) slots

-- how many records fit: one in each slot, as far as words can number them
abbrev pub room : {R : Type 0} → List R → ℕ
room slots = min (length slots) numbers_limit

-- the count c and the records rs stay, or r, which was not there, comes behind the last
abbrev pub Grown : {R : Type 0} → ℕ → List R → R → ℕ → List R → Type 0
Grown c rs r c' rs' = ((c' ≡ c) × (rs' ≡ rs)) ⊎ (Absent rs r × (c' ≡ c + 1) × (rs' ≡ rs ++ (r ∷ [])))

-- r was entered under number n
pub record Entered {R : Type 0} (c : ℕ) (rs : List R) (r : R) (n : ℕ) (c' : ℕ) (rs' : List R) : Type 0 where
  pub number : Numbered rs' n r
  pub growth : Grown c rs r c' rs'

-- r is not there, and there is room for no further record
pub record NoRoom {R : Type 0} (c : ℕ) (slots : List R) (r : R) : Type 0 where
  pub absent : Absent (held c slots) r
  pub full : room slots ≤ c

-- there was no room for r, and nothing changed
pub record Refused {R : Type 0} (c : ℕ) (slots : List R) (r : R) (c' : ℕ) (slots' : List R) : Type 0 where
  pub no_room : NoRoom c slots r
  pub count_stays : c' ≡ c
  pub slots_stay : slots' ≡ slots
