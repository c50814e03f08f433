-- What a script asks.
use Rattle.std.specs.Prelude.{ℕ, ◌+◌, List, [], ◌∷◌, Some, None, Ok, Err, Option, Result, ◌==◌}
use Rattle.std.specs.List.{slice_split, flat_map, sum_by}
use Rattle.scripts.specs.Lines.{Asked, compile, union, sequence, star, install, forward, Meaning, nothing, call, line_said}

abbrev pub lines : List ℕ → List (List ℕ)
lines bs = slice_split (λ b. b == 10) bs

abbrev pub asked_first : Asked → Result (List Asked) ℕ → Result (List Asked) ℕ
asked_first c (Ok cs) = Ok (c ∷ cs)
asked_first c (Err n) = Err n

-- what the line of this number gives, before what more lines give
abbrev pub line_first : ℕ → Option Meaning → Result (List Asked) ℕ → Result (List Asked) ℕ
line_first n None more = Err n
line_first n (Some nothing) more = more
line_first n (Some (call c)) more = asked_first c more

-- the calls of lines, the first of which has this number; or the number of the first line that is no call
abbrev pub asked_from : ℕ → List (List ℕ) → Result (List Asked) ℕ
asked_from n [] = Ok []
asked_from n (l ∷ ls) = line_first n (line_said l) (asked_from (n + 1) ls)

abbrev pub script_said : List ℕ → Result (List Asked) ℕ
script_said bs = asked_from 1 (lines bs)

-- the words of the frames that calls forward
abbrev pub frame_of : Asked → List ℕ
frame_of (compile text) = []
frame_of (union x y) = []
frame_of (sequence x y) = []
frame_of (star x) = []
frame_of (install x) = []
frame_of (forward ws n) = ws

abbrev pub frames_of : List Asked → List ℕ
frames_of cs = flat_map frame_of cs

-- into how many words of memory calls forward
abbrev pub room_of : Asked → ℕ
room_of (compile text) = 0
room_of (union x y) = 0
room_of (sequence x y) = 0
room_of (star x) = 0
room_of (install x) = 0
room_of (forward ws n) = n

abbrev pub rooms_of : List Asked → ℕ
rooms_of cs = sum_by room_of cs
