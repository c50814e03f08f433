-- How a line is cut into words.
use Rattle.std.specs.Prelude.{ℕ, Bool, not, ◌||◌, List, length, drop, filter, ◌==◌}
use Rattle.std.specs.List.{prefix_len, position_or_len, slice_split}

-- tab, carriage return or space
abbrev pub is_blank : ℕ → Bool
is_blank b = b == 9 || b == 13 || b == 32

-- what stands between blanks
abbrev pub words : List ℕ → List (List ℕ)
words bs = filter (λ w. not (length w == 0)) (slice_split is_blank bs)

-- from the first byte on that is no blank
abbrev pub unblanked : List ℕ → List ℕ
unblanked bs = drop (prefix_len is_blank bs) bs

-- what comes behind the first word
abbrev pub behind : List ℕ → List ℕ
behind bs = drop (position_or_len is_blank (unblanked bs)) (unblanked bs)
