use Rattle.faults.proofs.PassedOn.{passed_on}
use Rattle.counts.specs.Memory.{FirstWrong}
use Rattle.counts.proofs.memory.Sizes.judge.Goals as goal

pub returns-in_err-judge : goal.returns-in_err-judge
returns-in_err-judge c =
    rw (passed_on c.from_residual.ensures.1, c.in_err-judge.ensures.0) (FirstWrong.actions_wrong c.in_err-judge.ensures.1)

pub returns-in_err-judge-2 : goal.returns-in_err-judge-2
returns-in_err-judge-2 c =
    rw (passed_on c.from_residual-in_err-judge-2.ensures.1, c.in_err-judge-2.ensures.0) (FirstWrong.cells_wrong c.in_ok-judge.ensures c.in_err-judge-2.ensures.1)

pub returns-in_err-judge-3 : goal.returns-in_err-judge-3
returns-in_err-judge-3 c =
    rw (passed_on c.from_residual-in_err-judge-3.ensures.1, c.in_err-judge-3.ensures.0) (FirstWrong.nodes_wrong c.in_ok-judge.ensures c.in_ok-judge-2.ensures c.in_err-judge-3.ensures.1)

pub returns-in_err-judge-4 : goal.returns-in_err-judge-4
returns-in_err-judge-4 c =
    rw (passed_on c.from_residual-in_err-judge-4.ensures.1, c.in_err-judge-4.ensures.0) (FirstWrong.table_wrong c.in_ok-judge.ensures c.in_ok-judge-2.ensures c.in_ok-judge-3.ensures c.in_err-judge-4.ensures.1)
