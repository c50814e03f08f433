use Rattle.std.proofs.Common.{ℕ, ◌≤◌, List, length, take, sym, subst}
use Rattle.tables.specs.Rows.{LegalTable}
use Rattle.bench.proofs.InForce.{table_listed, now_in_force, still_in_force, unchanged}
use Rattle.bench.proofs.installing.put_in_force.Goals as goal

pub invariant_of-table : goal.invariant_of-table
invariant_of-table g c =
    let a = unchanged c.in_err-count.ensures in
    let t = c.args.table.now in
    record {
      within = subst (λ (ws : List ℕ). t.count ≤ length ws) (sym a) t.within;
      legal = subst (λ (ws : List ℕ). ∥ LegalTable g.K.WeightKind.ops (take t.count ws) ∥₁) (sym a) t.legal;
    }

pub returns-in_err-count-clause-installs : goal.returns-in_err-count-clause-installs
returns-in_err-count-clause-installs g c = still_in_force c.requires c.from_residual.result c.args.table.now.count c.from_residual.ensures.1 c.in_err-count.ensures

pub invariant_of-table-2 : goal.invariant_of-table-2
invariant_of-table-2 g c = let l = table_listed c.requires c.in_ok-count.ensures in record { within = l.0; legal = ∣ l.1 ∣₁ }

pub returns-clause-installs : goal.returns-clause-installs
returns-clause-installs g c = now_in_force c.requires c.args.table.now.count c.in_ok-count.ensures
