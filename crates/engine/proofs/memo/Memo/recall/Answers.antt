use Rattle.std.proofs.Common.{sym, arith, ◌∙◌}
use Rattle.std.proofs.lemmas.Grind.{common_steps}
use Rattle.std.proofs.lemmas.Option.{slice_get-get_or}
use Rattle.engine.proofs.OperationsAlike.{operations_told}
use Rattle.engine.proofs.Remembering.{read_back}
use Rattle.engine.proofs.memo.Memo.recall.Goals as goal

pub returns-then-entry-from-2 : goal.returns-then-entry-from-2
returns-then-entry-from-2 c =
    rw c.ok.ensures.value
    (read_back _ c.args.self.now.entries c.place_of.result c.in_ok-entry.entry c.args.operation c.args.left c.args.right c.try_from.result
    (grind (arith, common_steps, slice_get-get_or, c.in_ok-entry.was, c.index-self-place_of.is, c.type_inv.self, c.place_of.ensures))
    ((operations_told _ _).0 (sym c.if-eq.ensures))
    (c.if-entry-from.true ∙ c.from.ensures.word)
    (c.if-entry-from-2.true ∙ c.from-then-entry-from.ensures.word)
    c.try_from.ensures)
