use Rattle.std.proofs.Common.{refl, sym}
use Rattle.engine.proofs.InTurn.{pushed, puts_same, puts_then, cell_is}
use Rattle.engine.proofs.putting.put_cell.Goals as goal

pub returns : goal.returns
returns c =
    let p = c.push.ensures in
    puts_same (sym (cell_is c.args.kept.now.sets c.args.weight.number)) refl (puts_then (pushed {s' = c.push.new.self} c.from.ensures p.written p.rows p.lender) c.put_sets.ensures)
