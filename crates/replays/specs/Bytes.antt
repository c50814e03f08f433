-- The 32-bit words that a file holds.
use Rattle.std.specs.Prelude.{ℕ, ◌+◌, ◌*◌, List, [], ◌∷◌}
use Rattle.format.specs.Words.{word}

-- four bytes as a word, the most significant first
abbrev pub word_of : ℕ → ℕ → ℕ → ℕ → ℕ
word_of a b c d = a * 0x1000000 + b * 0x10000 + c * 0x100 + d

-- what stands for a last word of less than four bytes: a word of a kind that neither tables nor frames have
abbrev pub broken : ℕ
broken = word 15 0 0

-- the words of a file, its incomplete last word too
abbrev pub words_of : List ℕ → List ℕ
words_of [] = []
words_of (a ∷ []) = broken ∷ []
words_of (a ∷ b ∷ []) = broken ∷ []
words_of (a ∷ b ∷ c ∷ []) = broken ∷ []
words_of (a ∷ b ∷ c ∷ d ∷ rest) = word_of a b c d ∷ words_of rest
