use Rattle.std.proofs.lemmas.Bool.Decides.{Decides-not}
use Rattle.engine.proofs.Negated.{denied}
use Rattle.engine.proofs.NarrowRules.{leaf_word}
use Rattle.engine.proofs.Unchanged.{no_leaf}
use Rattle.engine.proofs.leaf_narrowing.stays.Goals as goal

pub returns-in-Leaf : goal.returns-in-Leaf
returns-in-Leaf c = rw (leaf_word c.args.counts.now c.args.stores.now c.args.diagram c.in-Leaf.is) (Decides-not c.leaf_changes.result c.leaf_changes.ensures)

pub returns-in-Branch : goal.returns-in-Branch
returns-in-Branch c = denied (no_leaf c.args.test.field c.args.test.value c.requires.good c.requires.present c.in-Branch.is)
