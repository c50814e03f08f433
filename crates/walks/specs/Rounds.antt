-- What k rounds of star give, and when no further round is needed.
use Rattle.std.specs.Prelude.{◌≡◌, ℕ, suc, ◌≤◌, ◌⊎◌, List, length, ◌≢◌}
use Rattle.weights.specs.Weights.{Ops}
use Rattle.weights.specs.Order.{In, Lub, Under, joins}
use Rattle.walks.specs.Walks.{Same, Steps, Walked, MeetsOnly, power, walk, up_to}

-- the round after round k changes nothing
abbrev pub Stopped : (o : Ops) {X : Type 0} → Same X → Steps X → ℕ → Type 0
Stopped o {X} same step k = (s t : X) → walk o same step (suc k) s t ≡ walk o same step k s t

-- what holds of k rounds, whatever the states and the steps are
pub record Rounds (o : Ops) {X : Type 0} (same : Same X) (step : Steps X) (k : ℕ) : Type 0 where
  -- k rounds weigh the least upper bound of the single walks of at most k steps
  pub single_walks :
      (s t : X) →
      Lub o {I = (n : ℕ) × (n ≤ k) × (c : ℕ) × Walked o step s n t c} (λ i. i.2) (walk o same step k s t)
  -- they join no, one, and so on up to k copies of the steps in sequence
  pub joined_powers : (s t : X) → walk o same step k s t ≡ joins o (up_to k) (λ i. power o same step i s t)
  -- one round more weighs no less
  pub rises : (s t : X) → Under o (walk o same step k s t) (walk o same step (suc k) s t)
  -- from a state whose walks meet at most k others with a weight that is not zero, one round more changes nothing
  pub ends :
      (s : X) (U : List X) →
      MeetsOnly o step s U →
      length U ≤ k →
      (t : X) →
      walk o same step (suc k) s t ≡ walk o same step k s t
  -- so the rounds stop at k if this holds of every state
  pub stops :
      ((s : X) → (U : List X) × MeetsOnly o step s U × (length U ≤ k)) →
      Stopped o same step k
  -- nor does any number of rounds more change anything from such a state
  pub all_rounds :
      (s : X) (U : List X) →
      MeetsOnly o step s U →
      length U ≤ k →
      (t : X) →
      Lub o (λ j. walk o same step j s t) (walk o same step k s t)
  -- so that k rounds are the least upper bound of no, one, two and more copies
  pub star :
      (s : X) (U : List X) →
      MeetsOnly o step s U →
      length U ≤ k →
      (t : X) →
      Lub o (λ i. power o same step i s t) (walk o same step k s t)
  -- they are it also wherever the next round is seen to change nothing
  pub stopped_star : Stopped o same step k → (s t : X) → Lub o (λ i. power o same step i s t) (walk o same step k s t)
  -- and enough of them are as many as the states other than s to which the rounds, once stopped, are not zero
  pub ends_by_answer :
      (n : ℕ) →
      Stopped o same step n →
      (s : X) (U : List X) →
      ((x : X) → (walk o same step n s x ≢ o.zero) → (x ≡ s) ⊎ In x U) →
      length U ≤ k →
      (t : X) →
      walk o same step (suc k) s t ≡ walk o same step k s t
