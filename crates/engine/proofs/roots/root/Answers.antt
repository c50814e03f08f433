use Rattle.std.proofs.Common.{ap, sym}
use Rattle.meaning.specs.Constructions.{root}
use Rattle.engine.proofs.NarrowRules.{node_counted, leaf_word}
use Rattle.engine.proofs.roots.root.Goals as goal

pub node-requires-clause-held : goal.node-requires-clause-held
node-requires-clause-held c = node_counted _ _ c.requires.good _ _ c.in-Branch.is c.requires.present

pub returns-in-Leaf : goal.returns-in-Leaf
returns-in-Leaf c = sym (ap root (leaf_word c.args.counts.now c.args.stores.now c.args.diagram c.in-Leaf.is))
