-- What the checker keeps of the waiting operands: whether each is a predicate.
use Rattle.std.specs.Prelude.{◌≡◌, ℕ, ◌<◌, ◌≤◌, Bool, true, false, cond, List, ◌∷◌, reverse, length}
use Rattle.format.specs.Limits.{waiting_limit}
use Rattle.format.specs.declared.settings.PolicyWord.{PolicyWord}
use Rattle.faults.specs.declared.layers.CheckFault.{CheckFault}
use Rattle.faults.specs.declared.layers.CheckFault.TheVariants.{LongPolicy, BadWord, BadOperands, NoPredicate, TooMany}
use Rattle.checking.specs.declared.waiting.Waiting.{Waiting}
use Rattle.checking.specs.Waiting.{operands}

-- for each waiting operand whether it is a predicate, the last one first
abbrev pub flags : Waiting → List Bool
flags s = reverse s.predicates.items

-- the word w makes of the flags bs the flags cs
abbrev pub Marks : PolicyWord → List Bool → List Bool → Type 0
Marks PolicyWord.Drop bs cs = cs ≡ true ∷ bs
Marks PolicyWord.Pass bs cs = cs ≡ true ∷ bs
Marks (PolicyWord.Test s) bs cs = cs ≡ true ∷ bs
Marks (PolicyWord.Set s) bs cs = cs ≡ false ∷ bs
Marks (PolicyWord.Cost a) bs cs = cs ≡ false ∷ bs
Marks PolicyWord.Not bs cs = (rest : List Bool) × (bs ≡ true ∷ rest) × (cs ≡ true ∷ rest)
Marks PolicyWord.Union bs cs =
    (l : Bool) × (r : Bool) × (rest : List Bool) × (bs ≡ r ∷ l ∷ rest) × (cs ≡ cond l r false ∷ rest)
Marks PolicyWord.Sequence bs cs =
    (l : Bool) × (r : Bool) × (rest : List Bool) × (bs ≡ r ∷ l ∷ rest) × (cs ≡ cond l r false ∷ rest)
Marks PolicyWord.Star bs cs = (b : Bool) × (rest : List Bool) × (bs ≡ b ∷ rest) × (cs ≡ false ∷ rest)

-- why the word w at place i cannot follow where operands with the flags bs wait
abbrev pub Blocked : PolicyWord → ℕ → List Bool → CheckFault → Type 0
Blocked w i bs LongPolicy = ⊥
Blocked w i bs (BadWord j) = ⊥
Blocked w i bs (BadOperands j) = (j ≡ i) × (length bs < operands w)
Blocked w i bs (NoPredicate j) = (j ≡ i) × (w ≡ PolicyWord.Not) × (rest : List Bool) × (bs ≡ false ∷ rest)
Blocked w i bs (TooMany j) = (j ≡ i) × (operands w ≡ 0) × (waiting_limit ≤ length bs)
