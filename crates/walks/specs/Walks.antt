-- Walks from state to state over weighted steps, and what all walks together weigh.
use Rattle.std.specs.Prelude.{◌≡◌, ℕ, zero, suc, ◌⊎◌, List, [], ◌∷◌, map, ◌≢◌}
use Rattle.weights.specs.Weights.{Ops, Weight}
use Rattle.weights.specs.Order.{In, joins}

-- states can be told apart
abbrev pub Same : Type 0 → Type 0
Same X = (x y : X) → Dec (x ≡ y)

-- from each state, the states that a step leads to, with the step's weight
abbrev pub Steps : Type 0 → Type 0
Steps X = X → List (X × ℕ)

-- a where P holds, else b
abbrev pub pick : {P : Type 0} → Dec P → ℕ → ℕ → ℕ
pick (yes p) a b = a
pick (no n) a b = b

-- each step weighs a weight
abbrev pub Weighed : Ops → {X : Type 0} → Steps X → Type 0
Weighed o {X} step = (s : X) (p : X × ℕ) → In p (step s) → Weight o p.1

-- no step: one from a state to itself, else zero
abbrev pub stay : (o : Ops) {X : Type 0} → Same X → X → X → ℕ
stay o same s t = pick (same s t) o.one o.zero

module _ (o : Ops) {X : Type 0} (same : Same X) (step : Steps X) where
  -- all walks of exactly i steps from s to t: i copies of the steps in sequence
  abbrev pub power : ℕ → X → X → ℕ
  power zero s t = stay o same s t
  power (suc i) s t = joins o (step s) (λ p. o.times p.1 (power i p.0 t))

  -- all walks of at most k steps from s to t, as the rounds of star make them
  abbrev pub walk : ℕ → X → X → ℕ
  walk zero s t = stay o same s t
  walk (suc k) s t = o.join (stay o same s t) (joins o (step s) (λ p. o.times p.1 (walk k p.0 t)))

-- a single walk from s: its number of steps, where it has come, and its weight so far
pub data Walked (o : Ops) {X : Type 0} (step : Steps X) (s : X) : ℕ → X → ℕ → Type 0 where
  start : Walked o step s 0 s o.one
  onward :
      {n : ℕ} {x y : X} {c w : ℕ} →
      Walked o step s n x c →
      In (y, w) (step x) →
      Walked o step s (suc n) y (o.times c w)

-- a walk from s whose weight is not zero meets only s and the states of U
abbrev pub MeetsOnly : (o : Ops) {X : Type 0} → Steps X → X → List X → Type 0
MeetsOnly o {X} step s U =
    (n : ℕ) (x : X) (c : ℕ) → Walked o step s n x c → (c ≢ o.zero) → (x ≡ s) ⊎ In x U

-- the numbers from 0 to k
abbrev pub up_to : ℕ → List ℕ
up_to zero = 0 ∷ []
up_to (suc k) = 0 ∷ map suc (up_to k)
