use Rattle.pages.specs.Pages.{Answered}
use Rattle.pages.proofs.page.Page.finish.Goals as goal

pub returns-then-self-clause-answer : goal.returns-then-self-clause-answer
returns-then-self-clause-answer c = Answered.all c.if-self.true

pub returns-else-self-clause-answer : goal.returns-else-self-clause-answer
returns-else-self-clause-answer c = Answered.part c.if-self.false
