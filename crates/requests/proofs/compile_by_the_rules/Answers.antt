use Rattle.requests.proofs.Claims.{compile_gives, compile_answers}
use Rattle.requests.proofs.compile_by_the_rules.Goals as goal

pub returns : goal.returns
returns c = record { given = compile_gives; answered = compile_answers }
