-- Frames by the values of their fields, and the words in which a frame is stored.
use Rattle.std.specs.Prelude.{◌≡◌, ℕ, ◌+◌, ◌<◌, Bool, true, false, ◌&&◌, ◌||◌, List, [], ◌∷◌, length, Result, MatchResult, ◌==◌, nat_lt, slice_index}
use Rattle.faults.specs.declared.layers.FrameFault.{FrameFault}
use Rattle.faults.specs.declared.layers.FrameFault.TheVariants.{Length, BadWord, NoRoom}
use Rattle.format.specs.Fields.{fields, LegalValue}
use Rattle.format.specs.Words.{word, value_of}
use Rattle.frames.specs.declared.frame.Frame.{Frame}

-- the values of a frame: one for each field, field 0 first, each legal
pub record FrameValues (s : List ℕ) : Type 0 where
  pub one_each : length s ≡ fields
  pub in_range : (f : ℕ) → f < fields → LegalValue f (slice_index s f)

-- the words of the values of field f and those after it
abbrev pub words_from : ℕ → List ℕ → List ℕ
words_from f [] = []
words_from f (n ∷ s) = word 9 f n ∷ words_from (f + 1) s

-- the words of a frame: one for each field, field 0 first
abbrev pub frame_words : List ℕ → List ℕ
frame_words s = words_from 0 s

-- w is the word of field f with a legal value
abbrev pub FieldWord : ℕ → ℕ → Type 0
FieldWord f w = (w ≡ word 9 f (value_of w)) × LegalValue f (value_of w)

-- s comes before t: the first field in which they differ is smaller in s
abbrev pub before : List ℕ → List ℕ → Bool
before [] [] = false
before [] (n ∷ t) = true
before (m ∷ s) [] = false
before (m ∷ s) (n ∷ t) = nat_lt m n || (m == n && before s t)

-- why words are not those of a frame: there are more or fewer than fields, or one is the first wrong word
abbrev pub NoFrame : FrameFault → List ℕ → Type 0
NoFrame Length ws = length ws ≡ fields → ⊥
NoFrame (BadWord i) ws = (length ws ≡ fields) × (i < fields) × ((f : ℕ) → f < i → FieldWord f (slice_index ws f)) × (FieldWord i (slice_index ws i) → ⊥)
NoFrame NoRoom ws = ⊥

-- the words ws read as r: a frame with these words, or why there is none; the words of a frame are read back as it
pub record FrameRead (ws : List ℕ) (r : Result Frame FrameFault) : Type 0 where
  pub read : MatchResult r (λ s. ws ≡ frame_words s.values) (λ e. NoFrame e ws)
  pub back : (s : List ℕ) → FrameValues s → ws ≡ frame_words s → MatchResult r (λ t. t.values ≡ s) (λ _. ⊥)
