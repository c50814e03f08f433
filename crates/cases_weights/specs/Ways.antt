-- Three places and the ways between them.
use Rattle.std.specs.Prelude.{ℕ, zero, suc, [], ◌∷◌}
use Rattle.std.proofs.Math.Decide.{ℕ_discrete}
use Rattle.weights.specs.Kinds.{cost_ops}
use Rattle.walks.specs.Walks.{Steps, walk}

-- from 1 to 2 and from 2 to 3 at cost 4, from 1 to 3 at cost 9
abbrev pub ways : Steps ℕ
ways zero = []
ways (suc zero) = (2, 4) ∷ (3, 9) ∷ []
ways (suc (suc zero)) = (3, 4) ∷ []
ways (suc (suc (suc n))) = []

-- the least cost from a place to another in at most k steps
abbrev pub least_cost : ℕ → ℕ → ℕ → ℕ
least_cost k s t = walk cost_ops ℕ_discrete ways k s t
