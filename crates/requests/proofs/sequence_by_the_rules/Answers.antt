use Rattle.requests.proofs.Claims.{sequence_gives}
use Rattle.requests.proofs.sequence_by_the_rules.Goals as goal

pub returns : goal.returns
returns c = sequence_gives
