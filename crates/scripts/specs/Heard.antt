-- What a line of the code stands for, and what was read of a script so far. The contracts of the crate's own functions cite it.
use Rattle.std.specs.Prelude.{◌≡◌, ℕ, ◌-◌, ◌^◌, ◌≤◌, min, List, [], map, ◌∷◌, length, take, Some, Option, option_map}
use Rattle.scripts.specs.Lines.{Asked, asked, Meaning, nothing, call, frame_into}
use Rattle.scripts.specs.Scripts.{frame_of, frames_of, room_of, rooms_of}
use Rattle.scripts.specs.Words.{words}
use Rattle.calls.specs.declared.Call.{Call}
use Rattle.scripts.specs.declared.lines.Line.{Line}
use Rattle.scripts.specs.declared.lines.Line.TheVariants as line
use Rattle.scripts.specs.declared.needs.Needs.{Needs}

abbrev pub heard : Line → Option Meaning
heard line.Nothing = Some nothing
heard (line.Call c) = Some (call (asked c))
heard (line.Forward text n) = option_map call (frame_into n (words text.now))

-- only a forward's frame is still to be read, and it alone takes memory
abbrev pub Frameless : Line → Type 0
Frameless line.Nothing = Unit {0}
Frameless (line.Call c) = (frame_of (asked c) ≡ []) × (room_of (asked c) ≡ 0)
Frameless (line.Forward text n) = Unit {0}

-- the greatest number that a size can be
abbrev pub most : ℕ
most = 2 ^ 64 - 1

-- this is what the calls need, and their frames' words stand in memory if they fit
pub record Holds (cs : List Asked) (needs : Needs) (frames : List ℕ) : Type 0 where
  pub calls : needs.calls ≡ min most (length cs)
  pub words : needs.words ≡ min most (length (frames_of cs))
  pub room : needs.room ≡ min most (rooms_of cs)
  pub written : length (frames_of cs) ≤ length frames → take (length (frames_of cs)) frames ≡ frames_of cs

abbrev pub asked_in : Meaning → List Asked
asked_in nothing = []
asked_in (call c) = c ∷ []

-- so many calls were read, and stand in memory if they fit
pub record CallsRead (cs : List Asked) (count : ℕ) (calls : List Call) : Type 0 where
  pub counted : count ≡ min most (length cs)
  pub kept : length cs ≤ length calls → map asked (take (length cs) calls) ≡ cs
