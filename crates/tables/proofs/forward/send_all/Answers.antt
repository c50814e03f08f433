use Rattle.std.proofs.Common.{◌≡◌, suc, ◌+◌, ◌≤◌, Err, length, refl, ap, ◌∙◌, arith}
use Rattle.std.proofs.lemmas.Result.{err_from_is_err_and}
use Rattle.faults.specs.declared.layers.FrameFault.TheVariants.{NoRoom}
use Rattle.frames.specs.Frames.{frame_words}
use Rattle.frames.proofs.Words.{length_words}
use Rattle.tables.specs.Scans.{sends, values_of}
use Rattle.tables.proofs.Listed.{listed_more, listed_full, listed_all}
use Rattle.tables.proofs.Puts.{put_front}
use Rattle.tables.proofs.forward.send_all.Goals as goal

pub returns-in_err-put : goal.returns-in_err-put
returns-in_err-put g c =
    let p = err_from_is_err_and c.from_residual.result c.from_residual.ensures.1 in
    let is : c.from_residual.result ≡ Err NoRoom = grind (arith, c.in_err-put.ensures.0) in
    rw is (
      refl,
      listed_full g.K.WeightKind.ops (sends c.args.emissions.row.now c.args.emissions.frame.values) (values_of c.loop-next.last) c.args.out.now c.loop-next.count
          c.loop-next.out c.in-Some.next.frame.values c.loop-next.invariant c.in-Some.ensures.0
          (omega (arith, c.in_err-put.ensures.1, c.loop-next.auto.out)),
    )

pub loop-next-preserved : goal.loop-next-preserved
loop-next-preserved g c =
    let t = c.in-Some.next.frame.values in
    let eight : length t ≡ 8 = omega arith in
    let size : suc (length (frame_words t)) ≡ 9 = ap suc (length_words 0 t ∙ eight) in
    let room : c.loop-next.count + 9 ≤ length c.args.out.now = omega (arith, c.in_ok-put.ensures.0, c.loop-next.auto.out) in
    listed_more g.K.WeightKind.ops (sends c.args.emissions.row.now c.args.emissions.frame.values) (values_of c.loop-next.last) c.args.out.now c.loop-next.count
    c.loop-next.out _ t c.in-Some.next.weight c.loop-next.invariant c.in-Some.ensures.0 c.in-Some.ensures.1 size room
    (put_front c.loop-next.count 9 c.loop-next.out _ _ _ c.in_ok-put.ensures.1 c.sent_words.ensures)

pub returns : goal.returns
returns g c =
    listed_all g.K.WeightKind.ops (sends c.args.emissions.row.now c.args.emissions.frame.values) (values_of c.loop-next.last) c.args.out.now c.loop-next.count
    c.loop-next.out c.loop-next.invariant c.in_default.ensures
