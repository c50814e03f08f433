use Rattle.requests.proofs.Claims.{make_gives}
use Rattle.requests.proofs.make_by_the_rules.Goals as goal

pub returns : goal.returns
returns c = make_gives
