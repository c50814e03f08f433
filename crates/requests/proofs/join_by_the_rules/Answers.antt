use Rattle.requests.proofs.Claims.{join_gives}
use Rattle.requests.proofs.join_by_the_rules.Goals as goal

pub returns : goal.returns
returns c = join_gives
