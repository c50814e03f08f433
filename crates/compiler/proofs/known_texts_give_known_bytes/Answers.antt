use Rattle.compiler.proofs.KnownBytes.{known_texts}
use Rattle.compiler.proofs.known_texts_give_known_bytes.Goals as goal

pub returns : goal.returns
returns c = known_texts
