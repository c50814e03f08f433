use Rattle.requests.proofs.Claims.{prefix_gives}
use Rattle.requests.proofs.prefix_by_the_rules.Goals as goal

pub returns : goal.returns
returns c = prefix_gives
