-- What each fault is to a person: its number, its layer and its place.
use Rattle.std.specs.Prelude.{ℕ}
use Rattle.format.specs.Fields.{fields}
use Rattle.format.specs.Limits.{text_limit, words_limit}
use Rattle.faults.specs.declared.Shown.{Shown}
use Rattle.faults.specs.declared.layers.TokenFault.{TokenFault}
use Rattle.faults.specs.declared.layers.TokenFault.TheVariants.{NoToken, BigNumber}
use Rattle.faults.specs.declared.layers.GrammarFault.{GrammarFault}
use Rattle.faults.specs.declared.layers.GrammarFault.TheVariants.{Token, Unexpected, TooDeep, NoRoom, LongText}
use Rattle.faults.specs.declared.layers.CheckFault.{CheckFault}
use Rattle.faults.specs.declared.layers.CheckFault.TheVariants.{LongPolicy, BadWord, BadOperands, NoPredicate, TooMany}
use Rattle.faults.specs.declared.layers.CompileFault.{CompileFault}
use Rattle.faults.specs.declared.layers.CompileFault.TheVariants.{Text, Check}
use Rattle.faults.specs.declared.layers.Memory.{Memory}
use Rattle.faults.specs.declared.layers.Memory.TheVariants.{Actions, Cells, Nodes, Table}
use Rattle.faults.specs.declared.layers.StoreFault.{StoreFault}
use Rattle.faults.specs.declared.layers.StoreFault.TheVariants.{Full, NotHeld, BadMemory}
use Rattle.faults.specs.declared.layers.TableFault.{TableFault}
use Rattle.faults.specs.declared.layers.TableFault.TheVariants.{Illegal}
use Rattle.faults.specs.declared.layers.TableFault.TheVariants as table
use Rattle.faults.specs.declared.layers.BenchFault.{BenchFault}
use Rattle.faults.specs.declared.layers.BenchFault.TheVariants as bench
use Rattle.faults.specs.declared.layers.FrameFault.{FrameFault}
use Rattle.faults.specs.declared.layers.FrameFault.TheVariants as frame

abbrev pub shown : ℕ → ℕ → ℕ → Shown
shown n l p = record { number = n; layer = l; place = p }

abbrev pub token_shown : TokenFault → Shown
token_shown (NoToken p) = shown 1 1 p
token_shown (BigNumber p) = shown 2 1 p

abbrev pub grammar_shown : GrammarFault → Shown
grammar_shown (Token f) = token_shown f
grammar_shown (Unexpected p) = shown 3 2 p
grammar_shown (TooDeep p) = shown 4 2 p
grammar_shown (NoRoom p) = shown 5 2 p
grammar_shown LongText = shown 5 2 text_limit

abbrev pub check_shown : CheckFault → Shown
check_shown LongPolicy = shown 5 3 words_limit
check_shown (BadWord p) = shown 6 3 p
check_shown (BadOperands p) = shown 7 3 p
check_shown (NoPredicate p) = shown 8 3 p
check_shown (TooMany p) = shown 4 3 p

abbrev pub compile_shown : CompileFault → Shown
compile_shown (Text f) = grammar_shown f
compile_shown (Check f) = check_shown f

abbrev pub table_shown : TableFault → Shown
table_shown (Illegal p) = shown 15 5 p
table_shown table.Full = shown 11 5 0

abbrev pub frame_shown : FrameFault → Shown
frame_shown frame.Length = shown 12 6 fields
frame_shown (frame.BadWord p) = shown 12 6 p
frame_shown frame.NoRoom = shown 13 6 0

-- the place at which a memory of the wrong size is shown
abbrev pub memory_number : Memory → ℕ
memory_number Actions = 1
memory_number Cells = 2
memory_number Nodes = 3
memory_number Table = 4

abbrev pub store_shown : StoreFault → Shown
store_shown Full = shown 9 4 0
store_shown (NotHeld p) = shown 10 4 p
store_shown (BadMemory m) = shown 14 4 (memory_number m)

abbrev pub bench_shown : BenchFault → Shown
bench_shown (bench.Text f) = compile_shown f
bench_shown (bench.Store f) = store_shown f
bench_shown (bench.Table f) = table_shown f
bench_shown (bench.Frame f) = frame_shown f
