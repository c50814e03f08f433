use Rattle.std.proofs.Common.{rules}
use Rattle.listing.proofs.Legal.{lists_legally}
use Rattle.listing.proofs.end_word.Goals as goal

pub returns-clause-some : goal.returns-clause-some
returns-clause-some g c = search (rules, lists_legally)
