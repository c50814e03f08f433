-- The line by which a refusal is told.
use Rattle.std.specs.Prelude.{ℕ, List, [], ◌∷◌, ◌++◌, codes, decimal}
use Rattle.faults.specs.declared.Shown.{Shown}

-- as `refused 3 layer 2 place 0`, with a line feed
abbrev pub refused_line : Shown → List ℕ
refused_line s =
    codes "refused "
    ++ (decimal s.number
    ++ (codes " layer " ++ (decimal s.layer ++ (codes " place " ++ (decimal s.place ++ (10 ∷ []))))))
