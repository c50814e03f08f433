-- What a table does with a frame. A frame is the list of its values, field 0 first.
use Rattle.std.specs.Prelude.{◌≡◌, ℕ, suc, Bool, true, false, cond, ◌&&◌, ◌⊎◌, List, [], ◌∷◌, map, ◌==◌, ◌≢◌, slice_index, slice_set}
use Rattle.frames.specs.Frames.{before, frame_words}
use Rattle.format.specs.Fields.{fields}
use Rattle.format.specs.Words.{word}
use Rattle.weights.specs.Weights.{Ops}
use Rattle.tables.specs.Rows.{Pair, Emission, Row}

-- every match holds of frame s
abbrev pub holds : List Pair → List ℕ → Bool
holds [] s = true
holds (p ∷ ps) s = slice_index s p.0 == p.1 && holds ps s

-- frame s with fields replaced
abbrev pub replaced : List Pair → List ℕ → List ℕ
replaced [] s = s
replaced (p ∷ ps) s = replaced ps (slice_set s p.0 p.1)

abbrev pub same : List ℕ → List ℕ → Bool
same [] [] = true
same [] (n ∷ t) = false
same (m ∷ s) [] = false
same (m ∷ s) (n ∷ t) = m == n && same s t

-- the weights of those emissions that turn frame s into frame t, joined to weight a
abbrev pub joins : Ops → List ℕ → List ℕ → ℕ → List Emission → ℕ
joins o s t a [] = a
joins o s t a (e ∷ es) = joins o s t (cond (same (replaced e.sets s) t) (o.join a e.weight) a) es

-- the weight at which a table turns frame s into frame t: the first row whose matches all hold decides
abbrev pub emits : Ops → List Row → List ℕ → List ℕ → ℕ
emits o [] s t = o.zero
emits o (r ∷ rows) s t = cond (holds r.matches s) (joins o s t o.zero r.emissions) (emits o rows s t)

-- an emitted frame and its weight
pub record Sent : Type 0 where
  pub frame : List ℕ
  pub weight : ℕ

-- how many words an emitted frame takes
abbrev pub sent_length : ℕ
sent_length = suc fields

-- a weight word and the frame's words
abbrev pub sent_words : Sent → List ℕ
sent_words x = word 12 0 x.weight ∷ frame_words x.frame

abbrev pub In : {X : Type 0} → X → List X → Type 0
In x [] = ⊥
In x (y ∷ ys) = (x ≡ y) ⊎ In x ys

-- each frame comes before all that follow
abbrev pub Ascending : List (List ℕ) → Type 0
Ascending [] = Unit {0}
Ascending (s ∷ ss) = ((t : List ℕ) → In t ss → before s t ≡ true) × Ascending ss

-- the answer to frame s: every frame of nonzero weight at its weight, ascending by values, and so each once
pub record Answer (o : Ops) (rows : List Row) (s : List ℕ) (answer : List Sent) : Type 0 where
  pub ascending : Ascending (map (λ x. x.frame) answer)
  pub sound : (x : Sent) → In x answer → (emits o rows s x.frame ≡ x.weight) × (x.weight ≢ o.zero)
  pub complete : (t : List ℕ) → (emits o rows s t ≢ o.zero) → In (record { frame = t; weight = emits o rows s t }) answer
