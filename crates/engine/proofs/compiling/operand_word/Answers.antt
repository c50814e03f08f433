use Rattle.std.proofs.Common.{refl}
use Rattle.engine.proofs.SimpleRules.{drop_done, pass_done}
use Rattle.engine.proofs.compiling.operand_word.Goals as goal

pub returns-in-Drop-clause-done : goal.returns-in-Drop-clause-done
returns-in-Drop-clause-done g c = rw c.in-Drop.is (drop_done c.requires.good refl)

pub returns-in-Pass-clause-done : goal.returns-in-Pass-clause-done
returns-in-Pass-clause-done g c = rw c.in-Pass.is (pass_done c.requires.good c.pass.ensures.done)
