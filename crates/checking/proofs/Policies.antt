-- The one policy of accepted words, as a value.
use Rattle.std.proofs.Common.{ℕ, List, length, sym, ◌∙◌}
use mathlib.Core.HLevel.{⊥_prop, Unit-prop, ×_prop, Π_prop, Σ_prop_path}
use mathlib.Core.Logic.{∥∥₁_elim}
use mathlib.Core.List.{is_set}
use native.Mathlib.Bridge.{le_prop}
use native.Mathlib.Nat.{ℕ_set}
use Rattle.format.specs.Policy.{Policy, postfix, Predicate, Legal}
use Rattle.checking.specs.Waiting.{Shallow}
use Rattle.checking.specs.Checking.{Accepted, LegalWords}
use Rattle.checking.proofs.Operands.{policy_unique}

predicate_prop : (p : Policy) → IsProp (Predicate p)
predicate_prop Policy.Drop = Unit-prop
predicate_prop Policy.Pass = Unit-prop
predicate_prop (Policy.Test f n) = Unit-prop
predicate_prop (Policy.Set f n) = ⊥_prop
predicate_prop (Policy.Cost n) = ⊥_prop
predicate_prop (Policy.Not p) = predicate_prop p
predicate_prop (Policy.Union p q) = ×_prop (predicate_prop p) (predicate_prop q)
predicate_prop (Policy.Sequence p q) = ×_prop (predicate_prop p) (predicate_prop q)
predicate_prop (Policy.Star p) = ⊥_prop

legal_prop : (p : Policy) → IsProp (Legal p)
legal_prop Policy.Drop = Unit-prop
legal_prop Policy.Pass = Unit-prop
legal_prop (Policy.Test f n) = ×_prop le_prop le_prop
legal_prop (Policy.Set f n) = ×_prop le_prop le_prop
legal_prop (Policy.Cost n) = le_prop
legal_prop (Policy.Not p) = ×_prop (predicate_prop p) (legal_prop p)
legal_prop (Policy.Union p q) = ×_prop (legal_prop p) (legal_prop q)
legal_prop (Policy.Sequence p q) = ×_prop (legal_prop p) (legal_prop q)
legal_prop (Policy.Star p) = legal_prop p

shallow_prop : (ws : List ℕ) (i : ℕ) → IsProp (Shallow ws i)
shallow_prop ws i = Π_prop λ k. Π_prop λ h. Π_prop λ ps. Π_prop λ a. le_prop

accepted_prop : (ws : List ℕ) (p : Policy) → IsProp (Accepted ws p)
accepted_prop ws p a b =
    λ i. record {
      legal = legal_prop p a.legal b.legal i;
      words = is_set ℕ_set (postfix p) ws a.words b.words i;
      short = le_prop a.short b.short i;
      shallow = shallow_prop ws (length ws) a.shallow b.shallow i;
    }

one : (ws : List ℕ) → IsProp ((p : Policy) × Accepted ws p)
one ws u v =
    Σ_prop_path (accepted_prop ws)
    (policy_unique u.0 v.0 u.1.legal v.1.legal (u.1.words ∙ sym v.1.words))

-- accepted words have a policy that a proof can go on with
pub policy_known : (ws : List ℕ) → LegalWords ws → (p : Policy) × Accepted ws p
policy_known ws l = ∥∥₁_elim l (one ws) (λ u. u)
