-- What the first words of a policy say: the operands that wait for an operator.
use Rattle.std.specs.Prelude.{◌≡◌, ℕ, ◌≤◌, List, [], ◌∷◌, ◌++◌, length, take}
use Rattle.format.specs.Limits.{waiting_limit}
use Rattle.format.specs.Policy.{Policy, postfix, Legal}
use Rattle.format.specs.declared.settings.PolicyWord.{PolicyWord}

-- the words of operands, which stand here the last one first
abbrev pub spelled : List Policy → List ℕ
spelled [] = []
spelled (p ∷ ps) = spelled ps ++ postfix p

abbrev pub AllLegal : List Policy → Type 0
AllLegal [] = Unit {0}
AllLegal (p ∷ ps) = Legal p × AllLegal ps

-- after the words ws the legal policies ps wait for an operator, the last one first
pub record Waits (ws : List ℕ) (ps : List Policy) : Type 0 where
  pub legal : AllLegal ps
  pub words : spelled ps ≡ ws

-- some legal policy, of whatever length, begins with these words
pub record Viable (ws : List ℕ) : Type 0 where
  pub policy : Policy
  pub rest : List ℕ
  pub legal : Legal policy
  pub words : postfix policy ≡ ws ++ rest

-- after none of the first i words too many operands wait
abbrev pub Shallow : List ℕ → ℕ → Type 0
Shallow ws i = (k : ℕ) → k ≤ i → (ps : List Policy) → Waits (take k ws) ps → length ps ≤ waiting_limit

-- how many operands a word takes
abbrev pub operands : PolicyWord → ℕ
operands PolicyWord.Drop = 0
operands PolicyWord.Pass = 0
operands (PolicyWord.Test s) = 0
operands (PolicyWord.Set s) = 0
operands (PolicyWord.Cost a) = 0
operands PolicyWord.Not = 1
operands PolicyWord.Union = 2
operands PolicyWord.Sequence = 2
operands PolicyWord.Star = 1
