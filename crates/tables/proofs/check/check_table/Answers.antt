use Rattle.std.proofs.Common.{◌≡◌, Some, None, Err, refl, subst, arith}
use Rattle.std.proofs.lemmas.Result.{err_from_is_err_and}
use Rattle.faults.specs.declared.layers.TableFault.TheVariants.{Illegal}
use Rattle.tables.specs.Checking.{Takes}
use Rattle.tables.proofs.Reached.{start_reached, reached_more, stuck_stops, early_stops, end_legal}
use Rattle.tables.proofs.check.check_table.Goals as goal

pub loop-place-init : goal.loop-place-init
loop-place-init g c =
    rw c.start-checker.ensures.0 (rw c.start-checker.ensures.1 (start_reached g.K.WeightKind.ops c.args.words.now))

pub loop-place-preserved : goal.loop-place-preserved
loop-place-preserved g c =
    let at = c.loop-place.checker in
    let some : c.step.result ≡ Some c.in_ok-checker.checker = grind arith in
    reached_more g.K.WeightKind.ops c.args.words.now c.loop-place.place at.rows at.state c.in_ok-checker.checker c.loop-place-test.true
    c.loop-place.invariant (subst (Takes g.K.WeightKind.ops at.rows at.state _) some c.step.ensures)

pub returns-in_err-checker : goal.returns-in_err-checker
returns-in_err-checker g c =
    let at = c.loop-place.checker in
    let none : c.step.result ≡ None = grind arith in
    let stops =
    stuck_stops g.met.K.WeightKind.lawful c.args.words.now c.loop-place.place at.rows at.state c.loop-place-test.true c.loop-place.invariant
    (subst (Takes g.K.WeightKind.ops at.rows at.state _) none c.step.ensures) in
    let p = err_from_is_err_and c.from_residual.result c.from_residual.ensures.1 in
    let is : c.from_residual.result ≡ Err (Illegal c.loop-place.place) = grind arith in
    rw is stops

pub returns-in-End : goal.returns-in-End
returns-in-End g c = (
  refl,
  end_legal g.met.K.WeightKind.lawful c.args.words.now c.loop-place.place c.loop-place.checker.rows c.loop-place.checker.state
      (omega arith) c.loop-place.invariant c.in-End.is,
)

pub returns-in_default : goal.returns-in_default
returns-in_default g c =
    early_stops g.met.K.WeightKind.lawful c.args.words.now c.loop-place.place c.loop-place.checker.rows c.loop-place.checker.state
    (omega arith) c.loop-place.invariant c.in_default.not-End

pub invariant_of-result : goal.invariant_of-result
invariant_of-result g c =
    record {
      legal = ∣ end_legal g.met.K.WeightKind.lawful c.args.words.now c.loop-place.place c.loop-place.checker.rows c.loop-place.checker.state
          (omega arith) c.loop-place.invariant c.in-End.is ∣₁;
    }
