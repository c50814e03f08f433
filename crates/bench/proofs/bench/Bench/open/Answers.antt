use Rattle.std.proofs.Common.{ℕ, ◌≤◌, refl, sym, subst}
use Rattle.bench.proofs.Opening.{as_long, drop_legal, opened_table, opened_state}
use Rattle.bench.proofs.bench.Bench.open.Goals as goal

pub invariant_of-result : goal.invariant_of-result
invariant_of-result g c =
    let t = c.args.memories.fit.table_fits.0 in
    record {
      within = subst (λ (n : ℕ). 2 ≤ n) (sym (as_long c.args.memories.table.now c.drop_table-words.result t)) t;
      legal = ∣ drop_legal g.K.WeightKind.ops c.args.memories.table.now c.drop_table-words.result t c.drop_table-words.ensures.words c.drop_table-words.ensures.legal ∣₁;
    }

pub invariant_of-result-2 : goal.invariant_of-result-2
invariant_of-result-2 g c = opened_table c.args.memories.actions.now c.args.memories.cells.now c.args.memories.nodes.now c.args.memories.table.now c.args.memories.fit c.drop_table-words.ensures.words refl refl g.K.WeightKind.ops

pub returns : goal.returns
returns g c = opened_state c.args.memories.actions.now c.args.memories.cells.now c.args.memories.nodes.now c.args.memories.table.now c.args.memories.fit c.drop_table-words.ensures.words refl refl c.open.ensures.stored c.open.ensures.rooms
