-- What a line of a script says.
use Rattle.std.specs.Prelude.{ℕ, cond, List, [], ◌∷◌, Some, None, codes, Option, option_map, ◌==◌, slice_index}
use Rattle.std.specs.Option.{option_and_then}
use Rattle.std.specs.Str.{bytes_eq}
use Rattle.scripts.specs.Forwards.{frame_said, default_room}
use Rattle.scripts.specs.Numbers.{number_said, operand_said}
use Rattle.scripts.specs.Words.{words, unblanked, behind}
use Rattle.calls.specs.declared.Call.{Call}
use Rattle.calls.specs.declared.Call.TheVariants.{Compile, Union, Sequence, Star, Install, Forward}
use Rattle.calls.specs.declared.Operand.{Operand}
use Rattle.scripts.specs.declared.verbs.Verb.{Verb}
use Rattle.scripts.specs.declared.verbs.Verb.TheVariants as verb

-- a call, wherever its text or its frame lies in memory
pub data Asked : Type 0 where
  compile : List ℕ → Asked
  union : Operand → Operand → Asked
  sequence : Operand → Operand → Asked
  star : Operand → Asked
  install : Operand → Asked
  forward : List ℕ → ℕ → Asked

abbrev pub asked : Call → Asked
asked (Compile text) = compile text.now
asked (Union x y) = union x y
asked (Sequence x y) = sequence x y
asked (Star x) = star x
asked (Install x) = install x
asked (Forward ws n) = forward ws.now n

abbrev pub verb_named : List ℕ → Option Verb
verb_named w =
    cond (bytes_eq w (codes "compile")) (Some verb.Compile)
    (cond (bytes_eq w (codes "union")) (Some verb.Union)
    (cond (bytes_eq w (codes "sequence")) (Some verb.Sequence)
    (cond (bytes_eq w (codes "star")) (Some verb.Star)
    (cond (bytes_eq w (codes "install")) (Some verb.Install)
    (cond (bytes_eq w (codes "forward")) (Some verb.Forward) None)))))

abbrev pub one_said : List (List ℕ) → Option Operand
one_said [] = None
one_said (v ∷ []) = operand_said v
one_said (v ∷ w ∷ ws) = None

abbrev pub two_said : List (List ℕ) → Option (Operand × Operand)
two_said [] = None
two_said (v ∷ ws) = option_and_then (λ x. option_map (λ y. (x, y)) (one_said ws)) (operand_said v)

-- `into N`, or the memory that a forward has by default, and the words that name the frame
abbrev pub room_said : List (List ℕ) → Option (ℕ × List (List ℕ))
room_said [] = Some (default_room, [])
room_said (v ∷ []) = cond (bytes_eq v (codes "into")) None (Some (default_room, v ∷ []))
room_said (v ∷ w ∷ ws) = cond (bytes_eq v (codes "into")) (option_map (λ n. (n, ws)) (number_said w)) (Some (default_room, v ∷ w ∷ ws))

-- a frame to be forwarded into n words of memory
abbrev pub frame_into : ℕ → List (List ℕ) → Option Asked
frame_into n ws = option_map (λ frame. forward frame n) (frame_said ws)

abbrev pub forward_said : List (List ℕ) → Option Asked
forward_said ws = option_and_then (λ r. frame_into r.0 r.1) (room_said ws)

-- the call of a verb with these words behind it, and this text
abbrev pub call_said : List (List ℕ) → List ℕ → Verb → Option Asked
call_said ws text verb.Compile = Some (compile text)
call_said ws text verb.Union = option_map (λ p. union p.0 p.1) (two_said ws)
call_said ws text verb.Sequence = option_map (λ p. sequence p.0 p.1) (two_said ws)
call_said ws text verb.Star = option_map star (one_said ws)
call_said ws text verb.Install = option_map install (one_said ws)
call_said ws text verb.Forward = forward_said ws

-- what a line means: nothing, or a call
pub data Meaning : Type 0 where
  nothing : Meaning
  call : Asked → Meaning

-- by its words: none, a remark behind `#`, or a verb and its operands
abbrev pub meant : List (List ℕ) → List ℕ → Option Meaning
meant [] text = Some nothing
meant (w ∷ ws) text =
    cond (slice_index w 0 == 35) (Some nothing) (option_map call (option_and_then (call_said ws text) (verb_named w)))

-- what a line says, if it is no call neither empty nor a remark
abbrev pub line_said : List ℕ → Option Meaning
line_said bs = meant (words bs) (unblanked (behind bs))
