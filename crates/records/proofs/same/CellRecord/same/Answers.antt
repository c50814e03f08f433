use Rattle.std.proofs.Common.{ap}
use Rattle.std.proofs.lemmas.Bool.Decides.{Decides-at, Decides-like, Decides-and}
use Rattle.records.specs.declared.kinds.Cell.{Cell}
use Rattle.records.proofs.Alike.{amounts_told}
use Rattle.records.proofs.same.CellRecord.same.Goals as goal

pub returns : goal.returns
returns c =
    let a = c.args.self.now in
    let b = c.args.cell.now in
    Decides-like _
    (λ e i. record { action = e.0 i; weight = e.1.0 i; rest = e.1.1 i })
    (λ e. (ap (λ (x : Cell). x.action) e, (ap (λ (x : Cell). x.weight) e, ap (λ (x : Cell). x.rest) e)))
    (Decides-at _ _ c.eq.ensures (Decides-and _ _ (amounts_told a.action b.action) (Decides-and _ _ (amounts_told a.weight b.weight) (amounts_told a.rest b.rest))))
