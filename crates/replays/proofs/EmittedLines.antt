-- A line for each emitted frame.
use Rattle.std.proofs.Common.{◌≡◌, ℕ, suc, ◌/◌, List, [], ◌∷◌, ◌++◌, length, refl, ap, ◌∙◌, arith, length-append}
use Rattle.std.specs.List.{flat_map, AllByRecursion}
use Rattle.std.proofs.lemmas.List.{take_at, drop_at}
use Rattle.tables.specs.Emits.{Sent, sent_length, sent_words}
use Rattle.lines.specs.Lines.{emit_line}
use Rattle.replays.specs.Replays.{emit_lines}

-- the frame has as many values as there are fields
abbrev pub Wide : Sent → Type 0
Wide x = length (sent_words x) ≡ sent_length

abbrev pub line : Sent → List ℕ
line x = emit_line (sent_words x)

first_line : (here rest : List ℕ) → length here ≡ sent_length → emit_lines (here ++ rest) ≡ emit_line here ++ emit_lines rest
first_line here rest wide =
    let more : length (here ++ rest) / sent_length ≡ suc (length rest / sent_length) = omega (arith, length-append here rest)
    in rw (more, take_at here rest sent_length wide, drop_at here rest sent_length wide) refl

pub lines_of_answer : (answer : List Sent) → AllByRecursion Wide answer → emit_lines (flat_map sent_words answer) ≡ flat_map line answer
lines_of_answer [] wide = refl
lines_of_answer (x ∷ answer) wide =
    first_line (sent_words x) (flat_map sent_words answer) wide.0 ∙ ap (λ ls. line x ++ ls) (lines_of_answer answer wide.1)
