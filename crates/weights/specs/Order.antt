-- The order that join gives the weights of a kind, and least upper bounds in it.
use Rattle.std.specs.Prelude.{◌≡◌, ℕ, Bool, true, false, ◌⊎◌, List, [], ◌∷◌}
use Rattle.weights.specs.Weights.{Ops, Weight}

-- a is below b: joined to b it adds nothing
abbrev pub Below : Ops → ℕ → ℕ → Type 0
Below o a b = o.join a b ≡ b

-- the same, of two weights
pub record Under (o : Ops) (a b : ℕ) : Type 0 where
  pub left : Weight o a
  pub right : Weight o b
  pub below : Below o a b

-- the weight a is the least upper bound of the family f
pub record Lub (o : Ops) {I : Type 0} (f : I → ℕ) (a : ℕ) : Type 0 where
  pub weight : Weight o a
  pub upper : (i : I) → Below o (f i) a
  pub least : (b : ℕ) → Weight o b → ((i : I) → Below o (f i) b) → Below o a b

-- the family of two numbers
abbrev pub two : ℕ → ℕ → Bool → ℕ
two a b true = a
two a b false = b

-- x is an element of the list
abbrev pub In : {X : Type 0} → X → List X → Type 0
In x [] = ⊥
In x (y ∷ ys) = (x ≡ y) ⊎ In x ys

-- the join of g x over a list's elements x, zero where it is empty
abbrev pub joins : (o : Ops) → {X : Type 0} → List X → (X → ℕ) → ℕ
joins o [] g = o.zero
joins o (x ∷ xs) g = o.join (g x) (joins o xs g)
