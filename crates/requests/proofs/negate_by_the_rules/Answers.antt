use Rattle.requests.proofs.Claims.{negate_gives}
use Rattle.requests.proofs.negate_by_the_rules.Goals as goal

pub returns : goal.returns
returns c = negate_gives
