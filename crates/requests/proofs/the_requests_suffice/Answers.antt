use Rattle.requests.proofs.Claims.{requests_suffice}
use Rattle.requests.proofs.the_requests_suffice.Goals as goal

pub returns : goal.returns
returns c = requests_suffice
