use Rattle.requests.proofs.Claims.{narrow_gives}
use Rattle.requests.proofs.narrow_by_the_rules.Goals as goal

pub returns : goal.returns
returns c = narrow_gives
