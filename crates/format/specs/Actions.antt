-- Actions: for each field, field 0 first, the value that it is set to, or none, which keeps the field.
use Rattle.std.specs.Prelude.{◌≡◌, ℕ, ◌<◌, cond, ◌⊎◌, List, [], ◌∷◌, replicate, Some, None, Option, ◌==◌, slice_index_or, slice_set}
use Rattle.std.specs.Simd.Lanes.{zip2}
use Rattle.format.specs.Fields.{fields, LegalValue}

-- what stands in a field that held v
abbrev pub replaced : Option ℕ → ℕ → ℕ
replaced None v = v
replaced (Some n) v = n

-- the frame after the action
abbrev pub apply : List (Option ℕ) → List ℕ → List ℕ
apply = zip2 replaced

-- what the second sets wins, else what the first sets
abbrev pub last_set : Option ℕ → Option ℕ → Option ℕ
last_set first None = first
last_set first (Some n) = Some n

-- the action that is the first and then the second
abbrev pub compose : List (Option ℕ) → List (Option ℕ) → List (Option ℕ)
compose = zip2 last_set

-- a set to n becomes none
abbrev pub unless : ℕ → Option ℕ → Option ℕ
unless n None = None
unless n (Some m) = cond (m == n) None (Some m)

-- the action where field f is known to hold n already
abbrev pub narrow_action : List (Option ℕ) → ℕ → ℕ → List (Option ℕ)
narrow_action a f n = slice_set a f (unless n (slice_index_or a f None))

-- the action that keeps every field
abbrev pub keep_all : List (Option ℕ)
keep_all = replicate fields None

-- none comes before any value, and a smaller value before a greater
abbrev pub SetBelow : Option ℕ → Option ℕ → Type 0
SetBelow None None = ⊥
SetBelow None (Some n) = Unit {0}
SetBelow (Some m) None = ⊥
SetBelow (Some m) (Some n) = m < n

-- the first field in which the actions differ decides
abbrev pub ActionBelow : List (Option ℕ) → List (Option ℕ) → Type 0
ActionBelow [] bs = ⊥
ActionBelow (a ∷ as') [] = ⊥
ActionBelow (a ∷ as') (b ∷ bs) = SetBelow a b ⊎ ((a ≡ b) × ActionBelow as' bs)

-- a set of field f is to a legal value of it
abbrev pub LegalSet : ℕ → Option ℕ → Type 0
LegalSet f None = Unit {0}
LegalSet f (Some n) = LegalValue f n

-- every set is to a legal value of its field
abbrev pub LegalSets : List (Option ℕ) → Type 0
LegalSets a = (f n : ℕ) → slice_index_or a f None ≡ Some n → LegalValue f n
