-- What words and numbers stand for.
use Rattle.std.specs.Prelude.{ℕ, ◌+◌, ◌-◌, ◌*◌, cond, List, length, Some, None, Ok, Err, codes, fold, Option, Result, nat_lt}
use Rattle.std.specs.Str.{bytes_eq}
use Rattle.format.specs.Words.{value_end}
use Rattle.faults.specs.declared.layers.TokenFault.{TokenFault}
use Rattle.faults.specs.declared.layers.TokenFault.TheVariants.{NoToken, BigNumber}
use Rattle.tokens.specs.declared.tokens.Symbol.{Symbol}
use Rattle.tokens.specs.declared.tokens.Symbol.TheVariants.{Field, Number, Drop, Pass, Cost, Mark}
use Rattle.tokens.specs.Lexing.{Lexeme, word, number, mark}

-- a number has at most this many digits
abbrev pub digits_limit : ℕ
digits_limit = 8

-- the number of the field with this name, if there is one
abbrev pub field_named : List ℕ → Option ℕ
field_named w =
    cond (bytes_eq w (codes "sw")) (Some 0)
    (cond (bytes_eq w (codes "pt")) (Some 1)
    (cond (bytes_eq w (codes "vlan")) (Some 2)
    (cond (bytes_eq w (codes "type")) (Some 3)
    (cond (bytes_eq w (codes "srch")) (Some 4)
    (cond (bytes_eq w (codes "srcl")) (Some 5)
    (cond (bytes_eq w (codes "dsth")) (Some 6)
    (cond (bytes_eq w (codes "dstl")) (Some 7) None)))))))

abbrev pub field_symbol : Option ℕ → Option Symbol
field_symbol None = None
field_symbol (Some f) = Some (Field f)

-- what a word stands for, if it is known
abbrev pub symbol_named : List ℕ → Option Symbol
symbol_named w =
    cond (bytes_eq w (codes "drop")) (Some Drop)
    (cond (bytes_eq w (codes "pass")) (Some Pass)
    (cond (bytes_eq w (codes "cost")) (Some Cost) (field_symbol (field_named w))))

-- one digit more, most significant first
abbrev pub shifted : ℕ → ℕ → ℕ
shifted n d = n * 10 + (d - 48)

abbrev pub number_of : List ℕ → Option ℕ
number_of ds = cond (nat_lt digits_limit (length ds)) None (cond (nat_lt (fold shifted 0 ds) value_end) (Some (fold shifted 0 ds)) None)

abbrev pub word_judged : Option Symbol → ℕ → Result Symbol TokenFault
word_judged None place = Err (NoToken place)
word_judged (Some s) place = Ok s

abbrev pub number_judged : Option ℕ → ℕ → Result Symbol TokenFault
number_judged None place = Err (BigNumber place)
number_judged (Some n) place = Ok (Number n)

-- what a lexeme at a place stands for, or its fault
abbrev pub judged : Lexeme → ℕ → Result Symbol TokenFault
judged (word w) place = word_judged (symbol_named w) place
judged (number ds) place = number_judged (number_of ds) place
judged (mark m) place = Ok (Mark m)
