use Rattle.std.proofs.Common.{arith}
use Rattle.policy.specs.Reading.{Rejected}
use Rattle.policy.proofs.Lengths.{scanned}
use Rattle.policy.proofs.reader.scan.Goals as goal

pub returns-then-text-gt-TEXT_LIMIT : goal.returns-then-text-gt-TEXT_LIMIT
returns-then-text-gt-TEXT_LIMIT c = Rejected.too_long (omega arith)

pub returns : goal.returns
returns c = search (arith, scanned)
