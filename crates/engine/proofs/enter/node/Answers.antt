use Rattle.engine.proofs.Entering.{slot_numbered, read_node}
use Rattle.engine.proofs.enter.node.Goals as goal

pub returns : goal.returns
returns c =
    let r = c.requires in
    read_node _ r.good.sound c.args.number _ (slot_numbered c.args.counts.now c.args.stores.now r.good.counted c.args.number.number c.index-stores-number.result r.held.0 r.held.1)
