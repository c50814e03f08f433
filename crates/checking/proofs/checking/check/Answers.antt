use Rattle.std.proofs.Common.{◌≡◌, length, arith}
use Rattle.std.proofs.lemmas.List.{length-reverse}
use Rattle.faults.proofs.PassedOn.{passed_on}
use Rattle.checking.specs.Flags.{flags}
use Rattle.checking.proofs.Verdicts.{started, advanced, accepted, unfinished, bad_word, blocked}
use Rattle.checking.proofs.checking.check.Goals as goal

pub loop-place-init : goal.loop-place-init
loop-place-init c = started _ _ c.none-waiting.ensures

pub returns-in_err-word-clause-verdict : goal.returns-in_err-word-clause-verdict
returns-in_err-word-clause-verdict c =
    let h = c.in_err-word.ensures in let k = c.in_ok-keep.ensures in
    rw (passed_on c.from_residual-in_err-word.ensures.1, h.0) (bad_word _ _ _ k.1 (omega arith) c.loop-place.invariant h.1)

pub returns-in_err-accept-clause-verdict : goal.returns-in_err-accept-clause-verdict
returns-in_err-accept-clause-verdict c =
    let h = c.in_ok-word.ensures in let k = c.in_ok-keep.ensures in
    rw (passed_on c.from_residual-in_err-accept.ensures.1) (blocked _ _ _ _ _ k.1 (omega arith) h.0 h.1 c.loop-place.invariant c.in_err-accept.ensures)

pub loop-place-preserved : goal.loop-place-preserved
loop-place-preserved c =
    let h = c.in_ok-word.ensures in
    advanced _ _ _ _ _ (omega arith) h.0 h.1 (omega (arith, length-reverse c.accept.new.self.predicates.items, c.accept.new.self.fits))
    c.loop-place.invariant c.in_ok-accept.ensures

pub returns-then-len-ne1-clause-verdict : goal.returns-then-len-ne1-clause-verdict
returns-then-len-ne1-clause-verdict c =
    let k = c.in_ok-keep.ensures in
    let e : c.loop-place.place ≡ length c.args.words.now = omega arith in
    rw e at (unfinished _ _ _ k.1 e (omega (arith, c.len.ensures)) c.loop-place.invariant)

pub of-requires : goal.of-requires
of-requires c =
    let k = c.in_ok-keep.ensures in
    rw k.0 (accepted _ _ (flags c.loop-place.waiting) k.1 (omega arith) (omega (arith, c.len.ensures)) c.loop-place.invariant)

pub returns-clause-verdict : goal.returns-clause-verdict
returns-clause-verdict c =
    let same : c.of.result.words.items ≡ c.args.words.now = cc (c.of.ensures, c.in_ok-keep.ensures.0) in
    (same, rw same at c.of.result.legal)
