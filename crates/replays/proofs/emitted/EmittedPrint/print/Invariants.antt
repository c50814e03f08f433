use Rattle.std.proofs.Common.{take}
use Rattle.std.specs.List.{flat_map}
use Rattle.pages.specs.Pages.{Says}
use Rattle.lines.specs.Lines.{emit_line}
use Rattle.replays.proofs.emitted.EmittedPrint.print.Given as goal

abbrev pub invariant-loop-words : goal.invariant-loop-words
invariant-loop-words l = Says l.initial.page (flat_map emit_line (take l.words-index l.frames)) l.page
