use Rattle.std.proofs.Common.{◌∙◌, ap, sym}
use Rattle.meaning.specs.Constructions.{root}
use Rattle.requests.proofs.Unique.{none_some}
use Rattle.engine.proofs.NarrowRules.{node_counted, leaf_word}
use Rattle.engine.proofs.roots.split.Goals as goal

pub node-root-requires-clause-held : goal.node-root-requires-clause-held
node-root-requires-clause-held c = node_counted _ _ c.requires.good _ _ c.in-Branch.is c.requires.present

pub returns-in-Leaf : goal.returns-in-Leaf
returns-in-Leaf c = λ e. none_some (sym (ap root (leaf_word c.args.counts.now c.args.stores.now c.args.diagram c.in-Leaf.is)) ∙ e)
