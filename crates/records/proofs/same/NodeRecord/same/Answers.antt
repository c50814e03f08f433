use Rattle.std.proofs.Common.{ap}
use Rattle.std.proofs.lemmas.Bool.Decides.{Decides-at, Decides-like, Decides-and}
use Rattle.records.specs.declared.kinds.Node.{Node}
use Rattle.records.proofs.Alike.{settings_told, diagrams_told}
use Rattle.records.proofs.same.NodeRecord.same.Goals as goal

pub returns : goal.returns
returns c =
    let a = c.args.self.now in
    let b = c.args.node.now in
    Decides-like _
    (λ e i. record { test = e.0 i; yes = e.1.0 i; no = e.1.1 i })
    (λ e. (ap (λ (x : Node). x.test) e, (ap (λ (x : Node). x.yes) e, ap (λ (x : Node). x.no) e)))
    (Decides-at _ _ c.eq.ensures (Decides-and _ _ (settings_told a.test b.test) (Decides-and _ _ (diagrams_told a.yes b.yes) (diagrams_told a.no b.no))))
