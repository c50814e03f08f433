-- What a policy means: a weight for each frame in and each frame out, zero for not emitted.
use Rattle.std.specs.Prelude.{◌≡◌, ℕ, suc, List, [], ◌∷◌, ◌++◌, slice_index, slice_set}
use Rattle.format.specs.Policy.{Policy, Drop, Pass, Test, Set, Cost, Not, Union, Sequence, Star}
use Rattle.weights.specs.Weights.{Ops}
use Rattle.weights.specs.Order.{Lub, In}
use Rattle.meaning.specs.Decide.{choice, decide, equal_lists}
use Rattle.meaning.specs.Leaves.{Frame}
use Rattle.meaning.specs.Frames.{InRange}

abbrev pub Meaning : Type 0
Meaning = Frame → Frame → ℕ

-- for all frames in range
abbrev pub Everywhere : (Frame → Frame → Type 0) → Type 0
Everywhere P = (s t : Frame) → InRange s → InRange t → P s t

-- the weight w where the frames are the same, else zero
abbrev pub only : Ops → Frame → Frame → ℕ → ℕ
only o s t w = choice (equal_lists decide s t) w o.zero

-- two meanings are the same on frames in range
abbrev pub Alike : Meaning → Meaning → Type 0
Alike a b = Everywhere (λ s t. a s t ≡ b s t)

abbrev pub IsDrop : Ops → Meaning → Type 0
IsDrop o m = Everywhere (λ s t. m s t ≡ o.zero)

-- one from a frame to itself
abbrev pub IsPass : Ops → Meaning → Type 0
IsPass o m = Everywhere (λ s t. m s t ≡ only o s t o.one)

-- pass where the field has the value, else drop
abbrev pub IsTest : Ops → ℕ → ℕ → Meaning → Type 0
IsTest o f n m = Everywhere (λ s t. m s t ≡ choice (decide (slice_index s f) n) (only o s t o.one) o.zero)

-- one to the frame with the field replaced
abbrev pub IsSet : Ops → ℕ → ℕ → Meaning → Type 0
IsSet o f n m = Everywhere (λ s t. m s t ≡ only o (slice_set s f n) t o.one)

-- the cost's weight from a frame to itself
abbrev pub IsCost : Ops → ℕ → Meaning → Type 0
IsCost o n m = Everywhere (λ s t. m s t ≡ only o s t (o.cost n))

-- the two weights joined
abbrev pub IsUnion : Ops → Meaning → Meaning → Meaning → Type 0
IsUnion o a b m = Everywhere (λ s t. m s t ≡ o.join (a s t) (b s t))

-- the least upper bound, over every frame between, of the first weight times the second
abbrev pub IsSequence : Ops → Meaning → Meaning → Meaning → Type 0
IsSequence o a b m = Everywhere (λ s t. Lub o {I = (h : Frame) × InRange h} (λ h. o.times (a s h.0) (b h.0 t)) (m s t))

-- a frame goes on as it is, with weight one, if the operand does not emit it unchanged
abbrev pub IsNot : Ops → Meaning → Meaning → Type 0
IsNot o a m = Everywhere (λ s t. m s t ≡ choice (decide (a s s) o.zero) (only o s t o.one) o.zero)

-- c gives for each k the k copies of a in sequence
pub record IsCopies (o : Ops) (a : Meaning) (c : ℕ → Meaning) : Type 0 where
  pub none : IsPass o (c 0)
  pub more : (k : ℕ) → IsSequence o a (c k) (c (suc k))

-- the least upper bound of no, one, two and more copies
abbrev pub IsStar : Ops → Meaning → Meaning → Type 0
IsStar o a m = (c : ℕ → Meaning) × IsCopies o a c × Everywhere (λ s t. Lub o (λ k. c k s t) (m s t))

-- m is what the policy means
abbrev pub Means : Ops → Policy → Meaning → Type 0
Means o Drop m = IsDrop o m
Means o Pass m = IsPass o m
Means o (Test f n) m = IsTest o f n m
Means o (Set f n) m = IsSet o f n m
Means o (Cost n) m = IsCost o n m
Means o (Not p) m = (a : Meaning) × Means o p a × IsNot o a m
Means o (Union p q) m = (a b : Meaning) × Means o p a × Means o q b × IsUnion o a b m
Means o (Sequence p q) m = (a b : Meaning) × Means o p a × Means o q b × IsSequence o a b m
Means o (Star p) m = (a : Meaning) × Means o p a × IsStar o a m

-- every value that the policy tests or sets in a field is among the field's names
abbrev pub Uses : (ℕ → List ℕ) → Policy → Type 0
Uses names Drop = Unit {0}
Uses names Pass = Unit {0}
Uses names (Test f n) = In n (names f)
Uses names (Set f n) = In n (names f)
Uses names (Cost n) = Unit {0}
Uses names (Not p) = Uses names p
Uses names (Union p q) = Uses names p × Uses names q
Uses names (Sequence p q) = Uses names p × Uses names q
Uses names (Star p) = Uses names p

-- the values that the policy tests or sets in field f
abbrev pub named_in : Policy → ℕ → List ℕ
named_in Drop f = []
named_in Pass f = []
named_in (Test g n) f = choice (decide f g) (n ∷ []) []
named_in (Set g n) f = choice (decide f g) (n ∷ []) []
named_in (Cost n) f = []
named_in (Not p) f = named_in p f
named_in (Union p q) f = named_in p f ++ named_in q f
named_in (Sequence p q) f = named_in p f ++ named_in q f
named_in (Star p) f = named_in p f
