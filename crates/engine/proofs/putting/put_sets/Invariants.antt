use Rattle.std.proofs.Common.{drop}
use Rattle.engine.specs.Listing.{set_words}
use Rattle.engine.proofs.InTurn.{Putting}
use Rattle.engine.proofs.putting.put_sets.Given as goal

abbrev pub invariant-fields : goal.invariant-fields
invariant-fields l = Putting l.fn.sheet (set_words 0 l.kept.sets) (set_words l.field (drop l.field l.kept.sets)) 0 l.sheet
