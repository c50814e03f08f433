-- The header fields of a frame and the values that each may hold.
use Rattle.std.specs.Prelude.{ℕ, ◌<◌, cond, List, codes, ◌==◌}

-- a frame has eight header fields, numbered from 0
abbrev pub fields : ℕ
fields = 8

-- what the fields are called in texts and records
abbrev pub field_name : ℕ → List ℕ
field_name f =
    cond (f == 0) (codes "sw")
    (cond (f == 1) (codes "pt")
    (cond (f == 2) (codes "vlan")
    (cond (f == 3) (codes "type")
    (cond (f == 4) (codes "srch") (cond (f == 5) (codes "srcl") (cond (f == 6) (codes "dsth") (codes "dstl")))))))

-- how many values field f has: the legal ones are those below
abbrev pub range : ℕ → ℕ
range f = 16777216

-- n is a legal value of field f
abbrev pub LegalValue : ℕ → ℕ → Type 0
LegalValue f n = n < range f
