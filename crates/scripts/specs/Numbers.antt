-- Numbers in a script, and the words and answers that they name.
use Rattle.std.specs.Prelude.{ℕ, zero, suc, ◌+◌, ◌-◌, ◌*◌, Bool, not, cond, ◌&&◌, List, [], ◌∷◌, length, drop, Some, None, Option, option_map, ◌==◌, nat_le, slice_index}
use Rattle.std.specs.Option.{option_and_then}
use Rattle.std.specs.List.{list_all}
use Rattle.tokens.specs.Symbols.{number_of}
use Rattle.tokens.specs.declared.tokens.Symbol.{Symbol}
use Rattle.tokens.specs.declared.tokens.Symbol.TheVariants.{Field}
use Rattle.calls.specs.declared.Operand.{Operand}
use Rattle.calls.specs.declared.Operand.TheVariants.{Word, Answer}

abbrev pub is_digit : ℕ → Bool
is_digit b = nat_le 48 b && nat_le b 57

-- a number in decimal digits, as a policy text has it
abbrev pub number_said : List ℕ → Option ℕ
number_said ds = cond (not (length ds == 0) && list_all is_digit ds) (number_of ds) None

-- the field that a symbol names
abbrev pub field_in : Option Symbol → Option ℕ
field_in (Some (Field f)) = Some f
field_in _ = None

-- 0 to 9, A to F or a to f
abbrev pub hex_digit : ℕ → Option ℕ
hex_digit b =
    cond (nat_le 48 b && nat_le b 57) (Some (b - 48))
    (cond (nat_le 65 b && nat_le b 70) (Some (b - 55)) (cond (nat_le 97 b && nat_le b 102) (Some (b - 87)) None))

-- hexadecimal digits, the most significant first, behind those that give n
abbrev pub hex_from : ℕ → List ℕ → Option ℕ
hex_from n [] = Some n
hex_from n (b ∷ bs) = option_and_then (λ d. hex_from (n * 16 + d) bs) (hex_digit b)

-- a word of 32 bits in eight hexadecimal digits
abbrev pub word_said : List ℕ → Option ℕ
word_said ds = cond (length ds == 8) (hex_from 0 ds) None

-- the answer of the call with this number, counted from 1
abbrev pub answer_of : ℕ → Option Operand
answer_of zero = None
answer_of (suc n) = Some (Answer n)

-- eight hexadecimal digits, or `$` and the number of a call
abbrev pub operand_said : List ℕ → Option Operand
operand_said w = cond (slice_index w 0 == 36) (option_and_then answer_of (number_said (drop 1 w))) (option_map Word (word_said w))
