use Rattle.std.proofs.Common.{Err, ap, ◌∙◌, arith}
use Rattle.std.proofs.lemmas.Result.{err_from_is_err_and}
use Rattle.faults.proofs.PassedOn.{passed_on}
use Rattle.bench.specs.Sizes.{sizes}
use Rattle.series.specs.Series.{memory, lent}
use Rattle.series.proofs.Closing.{table_fits, performs}
use Rattle.series.proofs.Judging.{refused_exactly, performed_exactly}
use Rattle.series.proofs.perform.Goals as goal

pub returns-in_err-judge-clause-refused : goal.returns-in_err-judge-clause-refused
returns-in_err-judge-clause-refused g c =
    let z = sizes c.args.actions.now c.args.cells.now c.args.nodes.now c.args.table.now in
    let p = err_from_is_err_and c.from_residual.result c.from_residual.ensures.1 in
    refused_exactly z c.args.calls.now _ c.from_residual.result _ (p.1 ∙ ap Err p.2) (memory c.in_err-judge.ensures)

pub returns-in_err-judge_lent-clause-refused : goal.returns-in_err-judge_lent-clause-refused
returns-in_err-judge_lent-clause-refused g c =
    let z = sizes c.args.actions.now c.args.cells.now c.args.nodes.now c.args.table.now in
    refused_exactly z c.args.calls.now _ c.from_residual-in_err-judge_lent.result _ (passed_on c.from_residual-in_err-judge_lent.ensures.1) (lent c.in_ok-judge.ensures c.in_err-judge_lent.ensures)

pub end-requires : goal.end-requires
end-requires g c =
    let z = sizes c.args.actions.now c.args.cells.now c.args.nodes.now c.args.table.now in
    let w = c.answer_all.ensures in
    let h = table_fits g.K.WeightKind.ops z c.open-bench.result w.asked w.replies c.answer_all.new.bench c.in_ok-judge.ensures c.open-bench.ensures w.run in
    let e = c.in_ok-judge_lent.ensures.in_force in
    omega (arith, h, e)

pub returns-clause-refused : goal.returns-clause-refused
returns-clause-refused g c =
    let z = sizes c.args.actions.now c.args.cells.now c.args.nodes.now c.args.table.now in
    performed_exactly z c.args.calls.now _ _ c.in_ok-judge.ensures c.in_ok-judge_lent.ensures

pub returns-clause-performed : goal.returns-clause-performed
returns-clause-performed g c =
    let z = sizes c.args.actions.now c.args.cells.now c.args.nodes.now c.args.table.now in
    performs g.K.WeightKind.ops g.met.K.WeightKind.lawful z c.open-bench.result c.args.calls.now c.args.answers.now c.answer_all.new.answers c.args.written.now c.answer_all.new.written
    c.args.in_force.now c.end.new.in_force c.answer_all.new.bench c.end.result c.in_ok-judge.ensures c.open-bench.ensures c.answer_all.ensures c.end.ensures
