-- Weight kinds: the operations of a kind and the laws that make it lawful.
use Rattle.std.specs.Prelude.{◌≡◌, ℕ, ◌<◌, ◌≤◌, Bool, true}
use Rattle.format.specs.Limits.{cost_limit}
use Rattle.format.specs.Words.{value_end}

-- every weight of every kind is a number below this
abbrev pub weights_end : ℕ
weights_end = value_end

-- what a weight kind is: which numbers are its weights, and five values and operations
pub record Ops : Type 0 where
  pub is : ℕ → Bool
  pub zero : ℕ
  pub one : ℕ
  pub join : ℕ → ℕ → ℕ
  pub times : ℕ → ℕ → ℕ
  -- the weight that a cost number means
  pub cost : ℕ → ℕ

abbrev pub Weight : Ops → ℕ → Type 0
Weight o a = o.is a ≡ true

-- the laws speak of the kind's weights only
pub record Laws (o : Ops) : Type 0 where
  pub below_end : (a : ℕ) → Weight o a → a < weights_end
  pub zero_weight : Weight o o.zero
  pub one_weight : Weight o o.one
  pub join_weight : (a b : ℕ) → Weight o a → Weight o b → Weight o (o.join a b)
  pub times_weight : (a b : ℕ) → Weight o a → Weight o b → Weight o (o.times a b)
  pub cost_weight : (n : ℕ) → n ≤ cost_limit → Weight o (o.cost n)
  pub join_associative :
      (a b c : ℕ) →
      Weight o a →
      Weight o b →
      Weight o c →
      o.join (o.join a b) c ≡ o.join a (o.join b c)
  pub join_commutative : (a b : ℕ) → Weight o a → Weight o b → o.join a b ≡ o.join b a
  pub join_idempotent : (a : ℕ) → Weight o a → o.join a a ≡ a
  pub zero_neutral : (a : ℕ) → Weight o a → o.join o.zero a ≡ a
  pub times_associative :
      (a b c : ℕ) →
      Weight o a →
      Weight o b →
      Weight o c →
      o.times (o.times a b) c ≡ o.times a (o.times b c)
  pub one_neutral_left : (a : ℕ) → Weight o a → o.times o.one a ≡ a
  pub one_neutral_right : (a : ℕ) → Weight o a → o.times a o.one ≡ a
  pub zero_absorbs_left : (a : ℕ) → Weight o a → o.times o.zero a ≡ o.zero
  pub zero_absorbs_right : (a : ℕ) → Weight o a → o.times a o.zero ≡ o.zero
  pub times_distributes_left :
      (a b c : ℕ) →
      Weight o a →
      Weight o b →
      Weight o c →
      o.times a (o.join b c) ≡ o.join (o.times a b) (o.times a c)
  pub times_distributes_right :
      (a b c : ℕ) →
      Weight o a →
      Weight o b →
      Weight o c →
      o.times (o.join a b) c ≡ o.join (o.times a c) (o.times b c)
  pub one_absorbs_join : (a : ℕ) → Weight o a → o.join o.one a ≡ o.one
  pub one_is_not_zero : o.one ≡ o.zero → ⊥
