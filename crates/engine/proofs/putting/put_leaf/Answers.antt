use Rattle.std.proofs.Common.{refl, sym, ap, ◌∙◌, arith}
use Rattle.format.specs.Words.{word}
use Rattle.engine.specs.Puts.{cells_from, way_words}
use Rattle.engine.proofs.Words.{long_cells}
use Rattle.engine.proofs.InTurn.{leaf_long, way_long, pushed, begun, leaf_put}
use Rattle.engine.proofs.putting.put_leaf.Goals as goal

pub count_cells-requires-clause-few : goal.count_cells-requires-clause-few
count_cells-requires-clause-few c =
    let l = cells_from c.args.counts.now c.args.stores.now c.args.first in
    omega (arith, long_cells l, leaf_long (way_words c.args.way.now) l, c.requires.room, c.requires.countable)

pub invariant_of-head : goal.invariant_of-head
invariant_of-head c =
    let l = cells_from c.args.counts.now c.args.stores.now c.args.first in
    record { field_fits = omega (arith, c.args.way.now.within); value_fits = omega (arith, c.count_cells.ensures, long_cells l, leaf_long (way_words c.args.way.now) l, c.requires.room, c.requires.countable) }

pub returns : goal.returns
returns c =
    let l = cells_from c.args.counts.now c.args.stores.now c.args.first in
    let p = c.push.ensures in
    leaf_put (way_words c.args.way.now) l
    (begun (pushed {s' = c.push.new.self} (c.from.ensures ∙ (ap (λ k. word 10 k c.count_cells.result) (sym (way_long c.args.way.now)) ∙ ap (word 10 _) c.count_cells.ensures)) p.written p.rows p.lender) refl refl refl)
    c.put_words.ensures c.put_cells.ensures
