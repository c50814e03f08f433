use Rattle.requests.proofs.Claims.{star_gives, star_answers}
use Rattle.requests.proofs.star_by_the_rules.Goals as goal

pub returns : goal.returns
returns c = record { given = star_gives; answered = star_answers }
