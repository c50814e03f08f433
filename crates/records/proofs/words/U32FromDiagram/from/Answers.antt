use Rattle.std.proofs.Common.{arith}
use Rattle.records.proofs.Alike.{its_word}
use Rattle.records.proofs.words.U32FromDiagram.from.Goals as goal

pub returns-in-Leaf : goal.returns-in-Leaf
returns-in-Leaf c = its_word c.args.diagram _ (rw c.in-Leaf.is (omega arith))

pub returns-in-Branch : goal.returns-in-Branch
returns-in-Branch c = its_word c.args.diagram _ (rw c.in-Branch.is (omega arith))
