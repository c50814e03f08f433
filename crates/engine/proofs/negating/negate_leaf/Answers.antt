use Rattle.std.proofs.Common.{◌∙◌, ap, sym, true≢false}
use Rattle.engine.specs.Leaves.{leaf_at}
use Rattle.engine.proofs.LeafRules.{here}
use Rattle.engine.proofs.Negated.{not_empty, drop_negated, pass_negated, other_negated}
use Rattle.engine.proofs.negating.negate_leaf.Goals as goal

pub returns-then-first-eq0-clause-done : goal.returns-then-first-eq0-clause-done
returns-then-first-eq0-clause-done g c = drop_negated g.K.WeightKind.ops (ap (leaf_at (here c.args.counts.now c.args.stores.now)) c.if-first-eq0.true) c.keep_all.ensures c.one.ensures.value c.one_cell.ensures.done

pub returns-then-is_pass-clause-done : goal.returns-then-is_pass-clause-done
returns-then-is_pass-clause-done g c =
    let r = c.requires in
    pass_negated r.good (not_empty _ _ r.good c.args.first.number r.present c.if-first-eq0.false) (c.is_pass.ensures.0 c.if-is_pass.true) c.no_cell.ensures

pub returns-clause-done : goal.returns-clause-done
returns-clause-done g c =
    let r = c.requires in
    other_negated r.good r.present (not_empty _ _ r.good c.args.first.number r.present c.if-first-eq0.false) (λ e. true≢false (sym (c.is_pass.ensures.1 e) ∙ c.if-is_pass.false))
