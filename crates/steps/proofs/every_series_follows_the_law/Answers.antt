use Rattle.steps.proofs.Performing.{every_series}
use Rattle.steps.proofs.every_series_follows_the_law.Goals as goal

pub returns : goal.returns
returns c = record { law = every_series }
