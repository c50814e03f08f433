use Rattle.stores.specs.Numbers.{Absent, held}
use Rattle.stores.proofs.Numbered.{absent_unfound, added}
use Rattle.stores.proofs.store.Store.enter.Given as given
use Rattle.stores.proofs.store.Store.enter.Goals as goal

entry_absent : (g : given.Over) (c : goal.After-add g) → Absent (held c.args.count.now c.args.self.now.slots.now) c.args.entry
entry_absent g c = absent_unfound _ c.args.entry (rw c.held.ensures at c.in-None.ensures)

pub returns-in-None-clause-answer : goal.returns-in-None-clause-answer
returns-in-None-clause-answer g c =
    (added _ _ _ _ _ (entry_absent g c) _ c.add.ensures.added c.add.ensures.counted c.add.ensures.written).0

pub returns-in-None-clause-distinct : goal.returns-in-None-clause-distinct
returns-in-None-clause-distinct g c =
    (added _ _ _ _ _ (entry_absent g c) _ c.add.ensures.added c.add.ensures.counted c.add.ensures.written).1
