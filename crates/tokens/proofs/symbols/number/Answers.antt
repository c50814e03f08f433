use Rattle.std.proofs.Common.{arith}
use Rattle.std.proofs.lemmas.Grind.{common_steps}
use Rattle.tokens.proofs.Numbers.{grows}
use Rattle.tokens.proofs.symbols.number.Goals as goal

pub returns-then-value-ge-VALUE_END : goal.returns-then-value-ge-VALUE_END
returns-then-value-ge-VALUE_END c = grind (arith, common_steps, grows)
