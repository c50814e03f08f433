use Rattle.std.proofs.Common.{◌≡◌, ◌+◌, min, length, sym, ◌∙◌, arith}
use Rattle.pages.specs.Pages.{most}
use Rattle.bench.specs.Sizes.{sizes}
use Rattle.trials.specs.Trials.{no_call, long_no_call, many, short, told, long, enough}
use Rattle.trials.proofs.run.try_script.Goals as goal

pub returns-in-Ok-tell_no_call : goal.returns-in-Ok-tell_no_call
returns-in-Ok-tell_no_call g c = no_call c.in-Err.ensures c.in-Ok-tell_no_call.ensures

pub returns-in-Err-tell_no_call : goal.returns-in-Err-tell_no_call
returns-in-Err-tell_no_call g c = long_no_call c.in-Err.ensures c.in-Err-tell_no_call.ensures

pub returns-then-needs-gt-CALLS : goal.returns-then-needs-gt-CALLS
returns-then-needs-gt-CALLS g c =
    let read = c.in-Ok.ensures in rw read.2.calls (many read.1 (omega (arith, read.2.calls)))

pub returns-then-words-wanted : goal.returns-then-words-wanted
returns-then-words-wanted g c =
    let read = c.in-Ok.ensures in
    let z = sizes c.args.actions.now c.args.cells.now c.args.nodes.now c.args.table.now in
    let wanted : c.saturating_add-wanted-2.result ≡ min most (enough read.0 z) = omega (arith, c.saturating_add-wanted-2.ensures, c.saturating_add-wanted.ensures, read.2.words, read.2.room) in
    rw wanted (short read.1 (omega (arith, read.2.calls)) (omega arith))

pub returns-in-Ok-told : goal.returns-in-Ok-told
returns-in-Ok-told g c = let h = c.in-Ok-told.ensures in told h.1 h.2

pub returns-in-Err-told : goal.returns-in-Err-told
returns-in-Err-told g c = let h = c.in-Err-told.ensures in long h.1 h.2
