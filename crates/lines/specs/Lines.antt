-- The record of a replay as a technician reads it: what each word says, and the lines made of it.
use Rattle.std.specs.Prelude.{ℕ, cond, ◌&&◌, List, ◌++◌, length, codes, decimal, ◌==◌, nat_lt}
use Rattle.std.specs.List.{flat_map}
use Rattle.format.specs.Fields.{fields, field_name}
use Rattle.format.specs.Words.{kind_of, field_of, value_of}
use Rattle.numerals.specs.Numerals.{hex_word}

-- a label, a field, a sign and a value, as ` if pt=3`
abbrev pub setting : List ℕ → List ℕ → ℕ → List ℕ
setting label sign w = label ++ (field_name (field_of w) ++ (sign ++ decimal (value_of w)))

abbrev pub weight_said : ℕ → List ℕ
weight_said w = codes " at weight " ++ decimal (value_of w)

abbrev pub head_said : ℕ → List ℕ
head_said w =
    codes "\nrow with "
    ++ (decimal (field_of w) ++ (codes " matches and " ++ (decimal (value_of w) ++ codes " emissions:")))

abbrev pub end_said : ℕ → List ℕ
end_said w = codes "\nend of " ++ (decimal (value_of w) ++ codes " rows\n")

-- what a word of a table says; each head begins a line
abbrev pub table_word_said : ℕ → List ℕ
table_word_said w =
    cond (kind_of w == 10) (head_said w)
    (cond (kind_of w == 11) (setting (codes " if ") (codes "=") w)
    (cond (kind_of w == 12) (weight_said w)
    (cond (kind_of w == 13) (setting (codes " set ") (codes ":=") w)
    (cond (kind_of w == 14) (end_said w) (codes " ?")))))

-- the table: how many words it has, a line for each row, and the count of the rows
abbrev pub table_lines : List ℕ → List ℕ
table_lines ws = codes "table of " ++ (decimal (length ws) ++ (codes " words" ++ flat_map table_word_said ws))

-- what a word of a frame or of an answer says
abbrev pub frame_word_said : ℕ → List ℕ
frame_word_said w =
    cond (kind_of w == 9 && nat_lt (field_of w) fields) (setting (codes " ") (codes "=") w)
    (cond (kind_of w == 12) (weight_said w) (codes " ?"))

abbrev pub spaced_hex : ℕ → List ℕ
spaced_hex w = codes " " ++ hex_word w

-- words in hexadecimal digits, and beside them what they say, as `frame 90000001 ..: sw=1 ..`
abbrev pub words_line : List ℕ → List ℕ → List ℕ
words_line title ws = title ++ (flat_map spaced_hex ws ++ (codes ":" ++ (flat_map frame_word_said ws ++ codes "\n")))

abbrev pub frame_line : List ℕ → List ℕ
frame_line ws = words_line (codes "frame") ws

abbrev pub emit_line : List ℕ → List ℕ
emit_line ws = words_line (codes "emit") ws
