use Rattle.std.proofs.Common.{[], take, sym, ap, get_or, ◌∙◌}
use Rattle.std.specs.List.{flat_map}
use Rattle.std.proofs.lemmas.List.{flat_map_more, take_more, take_all}
use Rattle.lines.specs.Lines.{emit_line}
use Rattle.pages.proofs.Saying.{◌>>◌, says_of_eq, nothing}
use Rattle.replays.proofs.emitted.EmittedPrint.print.Goals as goal

pub loop-words-init : goal.loop-words-init
loop-words-init c = nothing _

pub loop-words-preserved : goal.loop-words-preserved
loop-words-preserved c =
    let frames = c.as_chunks.result.0.now
    in let i = c.loop-words.words-index
    in let more = flat_map_more emit_line [] (take i frames) (get_or frames i []) ∙ ap (flat_map emit_line) (sym (take_more frames i [] c.loop-words-test.true))
    in says_of_eq more (c.loop-words.invariant >> c.print.ensures)

pub returns : goal.returns
returns c =
    let all = take_all c.loop-words.words-index c.as_chunks.result.0.now c.loop-words-test.false ∙ c.as_chunks.ensures.front
    in says_of_eq (ap (flat_map emit_line) all) c.loop-words.invariant
