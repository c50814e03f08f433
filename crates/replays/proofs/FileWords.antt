-- The words of a file, four bytes at a time.
use Rattle.std.proofs.Common.{◌≡◌, ℕ, ◌<◌, ◌≤◌, min, List, [], ◌∷◌, ◌++◌, length, ap, arith}
use Rattle.std.specs.Int.{div_ceil}
use Rattle.replays.specs.Bytes.{words_of}

pub words_count : (bytes : List ℕ) → length (words_of bytes) ≡ div_ceil (length bytes) 4
words_count [] = omega arith
words_count (a ∷ []) = omega arith
words_count (a ∷ b ∷ []) = omega arith
words_count (a ∷ b ∷ c ∷ []) = omega arith
words_count (a ∷ b ∷ c ∷ d ∷ rest) = omega (arith, words_count rest)

-- four bytes, or all that there are, are the first word
pub first_word :
    (four left : List ℕ) (w : ℕ) →
    length four ≡ min 4 (length (four ++ left)) →
    0 < length (four ++ left) →
    (0 < length four → length four ≤ 4 → words_of four ≡ w ∷ []) →
    words_of (four ++ left) ≡ w ∷ words_of left
first_word [] [] w size some is = absurd (omega arith)
first_word [] (x ∷ left) w size some is = absurd (omega arith)
first_word (a ∷ []) [] w size some is = is (omega arith) (omega arith)
first_word (a ∷ []) (x ∷ left) w size some is = absurd (omega arith)
first_word (a ∷ b ∷ []) [] w size some is = is (omega arith) (omega arith)
first_word (a ∷ b ∷ []) (x ∷ left) w size some is = absurd (omega arith)
first_word (a ∷ b ∷ c ∷ []) [] w size some is = is (omega arith) (omega arith)
first_word (a ∷ b ∷ c ∷ []) (x ∷ left) w size some is = absurd (omega arith)
first_word (a ∷ b ∷ c ∷ d ∷ []) left w size some is = ap (λ ws. ws ++ words_of left) (is (omega arith) (omega arith))
first_word (a ∷ b ∷ c ∷ d ∷ e ∷ more) left w size some is = absurd (omega arith)
