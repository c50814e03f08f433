-- The record of a policy as a technician reads it, line by line.
use Rattle.std.specs.Prelude.{ℕ, cond, List, [], ◌∷◌, ◌++◌, length, codes, decimal, ◌==◌}
use Rattle.std.specs.List.{flat_map}
use Rattle.format.specs.Fields.{field_name}
use Rattle.format.specs.Words.{kind_of, field_of, value_of}
use Rattle.numerals.specs.Numerals.{hex_word}

-- what each kind of policy word is called
abbrev pub kind_name : ℕ → List ℕ
kind_name k =
    cond (k == 0) (codes "drop")
    (cond (k == 1) (codes "pass")
    (cond (k == 2) (codes "test ")
    (cond (k == 3) (codes "set ")
    (cond (k == 4) (codes "cost ")
    (cond (k == 5) (codes "not")
    (cond (k == 6) (codes "union")
    (cond (k == 7) (codes "sequence")
    (cond (k == 8) (codes "star") (codes "unknown")))))))))

-- what a word says of a field and a value: `pt=3`, `pt:=3` or the number of a cost
abbrev pub details : ℕ → List ℕ
details w =
    cond (kind_of w == 2) (field_name (field_of w) ++ (codes "=" ++ decimal (value_of w)))
    (cond (kind_of w == 3) (field_name (field_of w) ++ (codes ":=" ++ decimal (value_of w)))
    (cond (kind_of w == 4) (decimal (value_of w)) []))

-- what a word says, to the end of its line, as ` test pt=1`
abbrev pub word_said : ℕ → List ℕ
word_said w = codes " " ++ (kind_name (kind_of w) ++ (details w ++ (10 ∷ [])))

-- as `word 21000001 test pt=1`
abbrev pub word_line : ℕ → List ℕ
word_line w = codes "word " ++ (hex_word w ++ (codes " " ++ (kind_name (kind_of w) ++ (details w ++ (10 ∷ [])))))

-- the record of an accepted text: bytes read, a line for each word, the verdict
abbrev pub accepted_record : List ℕ → List ℕ → List ℕ
accepted_record text words =
    codes "read "
    ++ (decimal (length text)
    ++ (codes " bytes\n" ++ (flat_map word_line words ++ (codes "accepted " ++ (decimal (length words) ++ codes " words\n")))))
