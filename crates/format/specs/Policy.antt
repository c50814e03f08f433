-- Policies as trees, and the words in which a policy is stored.
use Rattle.std.specs.Prelude.{ℕ, ◌<◌, ◌≤◌, List, [], ◌∷◌, ◌++◌}
use Rattle.format.specs.Fields.{fields, LegalValue}
use Rattle.format.specs.Limits.{cost_limit}
use Rattle.format.specs.Words.{word}

pub data Policy : Type 0 where
  Drop : Policy
  Pass : Policy
  -- the field, the value
  Test : ℕ → ℕ → Policy
  Set : ℕ → ℕ → Policy
  Cost : ℕ → Policy
  Not : Policy → Policy
  Union : Policy → Policy → Policy
  Sequence : Policy → Policy → Policy
  Star : Policy → Policy

-- the words of a policy: operands before their operator, left first
abbrev pub postfix : Policy → List ℕ
postfix Drop = word 0 0 0 ∷ []
postfix Pass = word 1 0 0 ∷ []
postfix (Test f n) = word 2 f n ∷ []
postfix (Set f n) = word 3 f n ∷ []
postfix (Cost n) = word 4 0 n ∷ []
postfix (Not p) = postfix p ++ (word 5 0 0 ∷ [])
postfix (Union p q) = postfix p ++ (postfix q ++ (word 6 0 0 ∷ []))
postfix (Sequence p q) = postfix p ++ (postfix q ++ (word 7 0 0 ∷ []))
postfix (Star p) = postfix p ++ (word 8 0 0 ∷ [])

-- a policy that only passes or drops: what may be negated
abbrev pub Predicate : Policy → Type 0
Predicate Drop = Unit {0}
Predicate Pass = Unit {0}
Predicate (Test f n) = Unit {0}
Predicate (Set f n) = ⊥
Predicate (Cost n) = ⊥
Predicate (Not p) = Predicate p
Predicate (Union p q) = Predicate p × Predicate q
Predicate (Sequence p q) = Predicate p × Predicate q
Predicate (Star p) = ⊥

-- fields and values exist, costs are small, and only predicates are negated
abbrev pub Legal : Policy → Type 0
Legal Drop = Unit {0}
Legal Pass = Unit {0}
Legal (Test f n) = (f < fields) × LegalValue f n
Legal (Set f n) = (f < fields) × LegalValue f n
Legal (Cost n) = n ≤ cost_limit
Legal (Not p) = Predicate p × Legal p
Legal (Union p q) = Legal p × Legal q
Legal (Sequence p q) = Legal p × Legal q
Legal (Star p) = Legal p
