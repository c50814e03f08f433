use Rattle.requests.proofs.Claims.{rules_agree}
use Rattle.requests.proofs.the_rules_never_disagree.Goals as goal

pub returns : goal.returns
returns c = rules_agree
