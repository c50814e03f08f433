use Rattle.std.proofs.Common.{arith}
use Rattle.std.proofs.lemmas.Grind.{common_steps}
use Rattle.format.specs.declared.kinds.PolicyKind.TheVariants.{Drop, Pass, Test, Set, Cost, Not, Union, Sequence, Star}
use Rattle.reports.proofs.kind_name.Goals as goal

pub returns-in-Err : goal.returns-in-Err
returns-in-Err c =
    let none = c.in-Err.ensures.1
    in grind (arith, common_steps, none Drop, none Pass, none Test, none Set, none Cost, none Not, none Union, none Sequence, none Star)
