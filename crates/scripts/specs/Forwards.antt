-- Frames as a line of a script names them.
use Rattle.std.specs.Prelude.{ℕ, Bool, cond, List, [], ◌∷◌, replicate, Some, None, Option, option_map, ◌==◌, nat_lt, slice_set}
use Rattle.std.specs.Option.{option_and_then}
use Rattle.std.specs.List.{before_first, after_first}
use Rattle.format.specs.Fields.{fields, range}
use Rattle.frames.specs.Frames.{frame_words}
use Rattle.tokens.specs.Symbols.{symbol_named}
use Rattle.scripts.specs.Numbers.{number_said, word_said, field_in}

-- words in hexadecimal digits
abbrev pub words_said : List (List ℕ) → Option (List ℕ)
words_said [] = Some []
words_said (w ∷ ws) = option_and_then (λ bits. option_map (λ more. bits ∷ more) (words_said ws)) (word_said w)

abbrev pub is_equals : ℕ → Bool
is_equals b = b == 61

-- a field and one of its values
abbrev pub setting_of : ℕ → ℕ → Option (ℕ × ℕ)
setting_of f n = cond (nat_lt n (range f)) (Some (f, n)) None

-- as `pt=3`
abbrev pub setting_said : List ℕ → Option (ℕ × ℕ)
setting_said w =
    option_and_then (λ f. option_and_then (setting_of f) (number_said (after_first is_equals w)))
    (field_in (symbol_named (before_first is_equals w)))

-- the frame s with fields set, a later setting over an earlier one
abbrev pub settings_said : List ℕ → List (List ℕ) → Option (List ℕ)
settings_said s [] = Some s
settings_said s (w ∷ ws) = option_and_then (λ p. settings_said (slice_set s p.0 p.1) ws) (setting_said w)

abbrev pub zeros : List ℕ
zeros = replicate fields 0

abbrev pub either : Option (List ℕ) → Option (List ℕ) → Option (List ℕ)
either None other = other
either (Some ws) other = Some ws

-- a frame's words: themselves, or by the fields that are not 0
abbrev pub frame_said : List (List ℕ) → Option (List ℕ)
frame_said ws = either (words_said ws) (option_map frame_words (settings_said zeros ws))

-- so many words of memory take 256 emitted frames
abbrev pub default_room : ℕ
default_room = 2304
