-- What a scan of words finds, whatever the words are.
use Rattle.std.specs.Prelude.{◌≡◌, ℕ, zero, suc, ◌+◌, ◌*◌, ◌%◌, ◌<◌, ◌≤◌, Bool, true, false, cond, ◌&&◌, ◌||◌, List, [], ◌∷◌, ◌++◌, map, length, take, drop, Some, None, Option, option_map, ◌==◌, nat_lt, slice_index, slice_set}
use Rattle.std.specs.List.{flat_map}
use Rattle.format.specs.Fields.{fields, range}
use Rattle.format.specs.Words.{kind_of, field_of, value_of}
use Rattle.frames.specs.Frames.{before}
use Rattle.frames.specs.declared.frame.Frame.{Frame}
use Rattle.weights.specs.Weights.{Ops}
use Rattle.tables.specs.declared.forward.Sent.{Sent as SentFrame}
use Rattle.tables.specs.Emits.{Sent, sent_length, sent_words, same, In, Ascending}

-- a head or an end, before which a row is over
abbrev pub closes : ℕ → Bool
closes w = kind_of w == 10 || kind_of w == 14

-- how many words stand before the next head or end
abbrev pub body_length : List ℕ → ℕ
body_length [] = 0
body_length (w ∷ ws) = cond (closes w) 0 (suc (body_length ws))

-- a match word holds of frame s; the field of a match is below the number of fields
abbrev pub match_holds : ℕ → List ℕ → Bool
match_holds w s = slice_index s (field_of w % fields) == value_of w

-- every one of these match words holds of frame s
abbrev pub matches_hold : List ℕ → List ℕ → Bool
matches_hold [] s = true
matches_hold (w ∷ ws) s = match_holds w s && matches_hold ws s

-- the matches that a head counts, behind it, hold of frame s
abbrev pub row_holds : List ℕ → List ℕ → Bool
row_holds [] s = false
row_holds (w ∷ ws) s = matches_hold (take (field_of w) ws) s

-- the head with which words begin and what stands before the next head or end
abbrev pub first_row : List ℕ → List ℕ
first_row [] = []
first_row (w ∷ ws) = w ∷ take (body_length ws) ws

-- how many matches and weights a head counts
abbrev pub counted : ℕ → ℕ
counted w = field_of w + value_of w

-- the words from each head on, up to an end: the first n words are passed over, and behind a head so many as it counts
abbrev pub heads_past : ℕ → List ℕ → List (List ℕ)
heads_past n [] = []
heads_past (suc n) (w ∷ ws) = heads_past n ws
heads_past zero (w ∷ ws) =
    cond (kind_of w == 10)
    (cond (nat_lt (length ws) (counted w)) [] ((w ∷ ws) ∷ heads_past (counted w) ws))
    (cond (kind_of w == 14) [] (heads_past zero ws))

-- frame s after one set word
abbrev pub put : ℕ → List ℕ → List ℕ
put w s = cond (nat_lt (field_of w) fields && nat_lt (value_of w) (range (field_of w))) (slice_set s (field_of w) (value_of w)) s

-- frame s after the set words with which the words begin
abbrev pub applied : List ℕ → List ℕ → List ℕ
applied [] s = s
applied (w ∷ ws) s = cond (kind_of w == 13) (applied ws (put w s)) s

-- what the words send: at each weight word, the frame that the set words behind it make
abbrev pub sends : List ℕ → List ℕ → List Sent
sends [] s = []
sends (w ∷ ws) s = cond (kind_of w == 12) (record { frame = applied ws s; weight = value_of w } ∷ sends ws s) (sends ws s)

-- the weights sent for frame t, joined to weight a
abbrev pub weight_in : Ops → List ℕ → ℕ → List Sent → ℕ
weight_in o t a [] = a
weight_in o t a (x ∷ xs) = weight_in o t (cond (same x.frame t) (o.join a x.weight) a) xs

abbrev pub above : Option (List ℕ) → List ℕ → Bool
above None t = true
above (Some s) t = before s t

-- t is sent and comes after the last one, and no such frame comes before it
pub record IsNext (last : Option (List ℕ)) (xs : List Sent) (t : List ℕ) : Type 0 where
  pub sent : In t (map (λ x. x.frame) xs)
  pub after : above last t ≡ true
  pub least : (u : List ℕ) → In u (map (λ x. x.frame) xs) → above last u ≡ true → before u t ≡ false

-- the least frame sent that comes after the last one, or none where none does
abbrev pub Next : Option (List ℕ) → List Sent → Option (List ℕ) → Type 0
Next last xs None = (t : List ℕ) → In t (map (λ x. x.frame) xs) → above last t ≡ false
Next last xs (Some t) = IsNext last xs t

-- the least frame sent that comes after the last one, with its joined weight, or none where none does
abbrev pub NextSent : Ops → Option (List ℕ) → List Sent → Option Sent → Type 0
NextSent o last xs None = Next last xs None
NextSent o last xs (Some x) = Next last xs (Some x.frame) × (x.weight ≡ weight_in o x.frame o.zero xs)

abbrev pub values_of : Option Frame → Option (List ℕ)
values_of = option_map (λ s. s.values)

-- a frame that is sent, by its values
abbrev pub sent_of : SentFrame → Sent
sent_of x = record { frame = x.frame.values; weight = x.weight }

-- what a row sends, written: its frames ascending, each once with its joined weight, and the words behind them as they were
pub record RowSent (o : Ops) (xs : List Sent) (was : List ℕ) (n : ℕ) (is : List ℕ) : Type 0 where
  pub list : List Sent
  pub ascending : Ascending (map (λ x. x.frame) list)
  pub weighed : (x : Sent) → In x list → x.weight ≡ value_of (weight_in o x.frame o.zero xs)
  pub only : (t : List ℕ) → In t (map (λ x. x.frame) list) → In t (map (λ x. x.frame) xs)
  pub every : (t : List ℕ) → In t (map (λ x. x.frame) xs) → In t (map (λ x. x.frame) list)
  pub count : n ≡ length (flat_map sent_words list)
  pub written : is ≡ flat_map sent_words list ++ drop n was
  pub fits : n ≤ length was

-- a row sends more frames than so many words hold
pub record RowFull (xs : List Sent) (room : ℕ) : Type 0 where
  pub frames : List (List ℕ)
  pub ascending : Ascending frames
  pub only : (t : List ℕ) → In t frames → In t (map (λ x. x.frame) xs)
  pub many : room < sent_length * length frames
