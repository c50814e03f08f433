use Rattle.std.proofs.Common.{ap}
use Rattle.std.specs.Int.{to_be_bytes, w32}
use Rattle.compiler.proofs.writing.print_words.Goals as goal

pub returns : goal.returns
returns c = c.print_each.ensures (to_be_bytes w32) (λ _ _ same. ap (to_be_bytes w32) same)
