use Rattle.std.proofs.Common.{Err, arith, ltb-false, ltb-true}
use Rattle.faults.specs.declared.layers.FrameFault.TheVariants.{Length}
use Rattle.frames.proofs.Words.{reads, eight}
use Rattle.frames.proofs.FrameTryFromRefSliceU32.try_from.Goals as goal

pub returns-in_default-2 : goal.returns-in_default-2
returns-in_default-2 c = reads c.args.words.now (Err Length) (λ e. omega (arith, ltb-true, ltb-false))

pub returns : goal.returns
returns c =
    let e = eight c.args.words.now (omega (arith, ltb-true, ltb-false)) in
    reads c.args.words.now c.of.result (rw (← e) at c.of.ensures)
