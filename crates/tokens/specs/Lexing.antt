-- How a text is cut into tokens.
use Rattle.std.specs.Prelude.{◌≡◌, ℕ, ◌+◌, ◌-◌, ◌<◌, ◌≤◌, Bool, cond, ◌&&◌, ◌||◌, List, [], ◌∷◌, length, take, drop, Some, None, Ok, Err, Option, Result, ◌==◌, nat_le, slice_index}
use Rattle.std.specs.List.{prefix_len}
use Rattle.faults.specs.declared.layers.TokenFault.{TokenFault}
use Rattle.faults.specs.declared.layers.TokenFault.TheVariants.{NoToken}
use Rattle.tokens.specs.declared.tokens.Class.{Class}
use Rattle.tokens.specs.declared.tokens.Class.TheVariants.{Blank, Letter, Digit}
use Rattle.tokens.specs.declared.tokens.Mark.{Mark}
use Rattle.tokens.specs.declared.tokens.Mark.TheVariants.{Plus, Semicolon, Star, Not, Open, Close, Equals, Assign}
use Rattle.tokens.specs.declared.tokens.Token.{Token}
use Rattle.tokens.specs.declared.tokens.Token.TheVariants.{Word, Number, Mark as MarkToken}
use Rattle.tokens.specs.declared.tokens.Placed.{Placed}

-- the bytes of each class: blanks are tab, line feed, carriage return and space
abbrev pub belongs_to : Class → ℕ → Bool
belongs_to Blank b = b == 9 || b == 10 || b == 13 || b == 32
belongs_to Letter b = (nat_le 97 b && nat_le b 122) || (nat_le 65 b && nat_le b 90)
belongs_to Digit b = nat_le 48 b && nat_le b 57

-- what a token says, wherever it stands
pub data Lexeme : Type 0 where
  word : List ℕ → Lexeme
  number : List ℕ → Lexeme
  mark : Mark → Lexeme

abbrev pub says : Token → Lexeme
says (Word s) = word s.now
says (Number s) = number s.now
says (MarkToken m) = mark m

-- the mark of one byte, if it is one: + ; * ! ( ) =
abbrev pub mark_of : ℕ → Option Mark
mark_of b =
    cond (b == 43) (Some Plus)
    (cond (b == 59) (Some Semicolon)
    (cond (b == 42) (Some Star)
    (cond (b == 33) (Some Not)
    (cond (b == 40) (Some Open)
    (cond (b == 41) (Some Close)
    (cond (b == 61) (Some Equals) None))))))

-- a lexeme and the number of its bytes
pub record Cut : Type 0 where
  pub lexeme : Lexeme
  pub size : ℕ

abbrev pub cut : Lexeme → ℕ → Cut
cut x n = record { lexeme = x; size = n }

-- the mark of one byte, cut
abbrev pub single : Option Mark → Option Cut
single None = None
single (Some m) = Some (cut (mark m) 1)

-- the lexeme with which bytes begin, if one does: the longest run of letters or of digits, `:=` or a mark of one byte
abbrev pub front : List ℕ → Option Cut
front [] = None
front (b ∷ bs) =
    let letters : ℕ = prefix_len (belongs_to Letter) (b ∷ bs) in
    let digits : ℕ = prefix_len (belongs_to Digit) (b ∷ bs) in
    cond (belongs_to Letter b) (Some (cut (word (take letters (b ∷ bs))) letters))
    (cond (belongs_to Digit b) (Some (cut (number (take digits (b ∷ bs))) digits))
    (cond (b == 58) (cond (slice_index bs 0 == 61) (Some (cut (mark Assign) 2)) None)
    (single (mark_of b))))

-- bytes begin with a lexeme of so many bytes
abbrev pub Starts : List ℕ → Lexeme → ℕ → Type 0
Starts bs x n = front bs ≡ Some (cut x n)

-- where the next token starts, or the text ends: after the blanks
abbrev pub start : List ℕ → ℕ → ℕ
start text at = at + prefix_len (belongs_to Blank) (drop at text)

-- the bytes from the next token on
abbrev pub ahead : List ℕ → ℕ → List ℕ
ahead text at = drop (start text at) text

-- what the lexer at place `at` gives, and where it stands then
abbrev pub Next : List ℕ → ℕ → Result (Option Placed) TokenFault → ℕ → Type 0
Next text at (Ok None) after = (length text ≤ start text at) × (after ≡ start text at)
Next text at (Ok (Some t)) after = Starts (ahead text at) (says t.token) (after - start text at) × (t.place ≡ start text at) × (start text at < length text) × (start text at < after)
Next text at (Err e) after = (start text at < length text) × (front (ahead text at) ≡ None) × (e ≡ NoToken (start text at)) × (after ≡ start text at)
