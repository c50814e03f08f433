-- Numbers read digit by digit.
use Rattle.std.proofs.Common.{ℕ, ◌≤◌, List, [], ◌∷◌, fold, arith}
use Rattle.tokens.specs.Symbols.{shifted}

-- more digits make no number smaller
pub grows : (n : ℕ) (ds : List ℕ) → n ≤ fold shifted n ds
grows n [] = omega arith
grows n (d ∷ ds) = omega (arith, grows (shifted n d) ds)
