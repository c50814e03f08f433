-- How numbers are written in the records that people read. Decimal numbers are the library's `decimal`.
use Rattle.std.specs.Prelude.{ℕ, ◌+◌, ◌/◌, ◌%◌, cond, List, [], ◌∷◌, nat_lt}

-- the character of a hexadecimal digit: 0 to 9, then A to F
abbrev pub hex_digit : ℕ → ℕ
hex_digit d = cond (nat_lt d 10) (48 + d) (55 + d)

-- the digit at a power of sixteen
abbrev hex_at : ℕ → ℕ → ℕ
hex_at n unit = hex_digit (n / unit % 16)

-- a 32-bit word as eight hexadecimal digits, the most significant first
abbrev pub hex_word : ℕ → List ℕ
hex_word n =
    hex_at n 0x10000000
    ∷ hex_at n 0x1000000
    ∷ hex_at n 0x100000
    ∷ hex_at n 0x10000
    ∷ hex_at n 0x1000
    ∷ hex_at n 0x100
    ∷ hex_at n 0x10
    ∷ hex_at n 0x1
    ∷ []
