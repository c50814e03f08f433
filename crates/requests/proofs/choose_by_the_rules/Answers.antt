use Rattle.requests.proofs.Claims.{choose_gives}
use Rattle.requests.proofs.choose_by_the_rules.Goals as goal

pub returns : goal.returns
returns c = choose_gives
