use Rattle.pages.proofs.Saying.{nothing}
use Rattle.replays.proofs.print_title.Goals as goal

pub returns-else-titled : goal.returns-else-titled
returns-else-titled c = rw c.if-titled.false (nothing _)
