-- The 32-bit words of which policies, frames and tables are made.
use Rattle.std.specs.Prelude.{ℕ, ◌+◌, ◌*◌, ◌/◌, ◌%◌}

-- a word's value is below this: it has 24 bits
abbrev pub value_end : ℕ
value_end = 16777216

-- a word is its kind (bits 31 to 28), its field (27 to 24) and its value (23 to 0)
abbrev pub word : ℕ → ℕ → ℕ → ℕ
word kind field value = kind * (16 * value_end) + field * value_end + value

abbrev pub kind_of : ℕ → ℕ
kind_of w = w / (16 * value_end)

abbrev pub field_of : ℕ → ℕ
field_of w = w / value_end % 16

abbrev pub value_of : ℕ → ℕ
value_of w = w % value_end
