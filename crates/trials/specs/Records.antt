-- The record of calls as a technician reads it, line by line.
use Rattle.std.specs.Prelude.{ℕ, ◌+◌, ◌/◌, List, [], ◌∷◌, ◌++◌, take, drop, codes, decimal}
use Rattle.numerals.specs.Numerals.{hex_word}
use Rattle.faults.specs.Lines.{refused_line}
use Rattle.faults.specs.Shows.{bench_shown}
use Rattle.tables.specs.Emits.{sent_length}
use Rattle.lines.specs.Lines.{table_lines}
use Rattle.replays.specs.Replays.{emit_lines}
use Rattle.counts.specs.declared.Counts.{Counts}
use Rattle.calls.specs.declared.Call.{Call}
use Rattle.series.specs.Calls.{part_length}
use Rattle.series.specs.Series.{Lent}
use Rattle.series.specs.declared.answers.Answer.{Answer}
use Rattle.series.specs.declared.answers.Answer.TheVariants.{Word, Installed, Written, Refused}
use Rattle.series.specs.declared.ended.Ended.{Ended}

-- what an answer says, with the words in its part of memory
abbrev pub answer_said : Answer → List ℕ → List ℕ
answer_said (Word w) part = codes "word " ++ (hex_word w ++ (10 ∷ []))
answer_said (Installed n) part = codes "installed " ++ (decimal n ++ codes " words\n")
answer_said (Written n) part = codes "emitted " ++ (decimal (n / sent_length) ++ (codes " frames\n" ++ emit_lines (take n part)))
answer_said (Refused f) part = refused_line (bench_shown f)

-- behind the number of its call
abbrev pub numbered : ℕ → List ℕ → List ℕ
numbered n said = decimal n ++ (32 ∷ said)

-- the answers to calls from this number on, each with its part of the words
abbrev pub answers_said : ℕ → List Call → List Answer → List ℕ → List ℕ
answers_said n [] answers words = []
answers_said n (c ∷ cs) [] words = []
answers_said n (c ∷ cs) (a ∷ answers) words =
    numbered n (answer_said a (take (part_length c) words)) ++ answers_said (n + 1) cs answers (drop (part_length c) words)

-- how many actions, cells and nodes are held
abbrev pub records_line : Counts → List ℕ
records_line held =
    codes "records " ++ (decimal held.actions ++ (32 ∷ (decimal held.cells ++ (32 ∷ (decimal held.nodes ++ (10 ∷ []))))))

-- the record of calls that ended so, read from what was lent for it
abbrev pub record_said : List Call → Lent → Ended → List ℕ
record_said calls lent ended =
    answers_said 1 calls lent.answers lent.written
    ++ (records_line ended.records ++ table_lines (take ended.table_words lent.in_force))

-- the number of a line that is no call
abbrev pub no_call_line : ℕ → List ℕ
no_call_line n = codes "line " ++ (decimal n ++ codes ": no call\n")
