use Rattle.requests.proofs.Claims.{rules_cover}
use Rattle.requests.proofs.the_rules_cover_all_operands.Goals as goal

pub returns : goal.returns
returns c = rules_cover
