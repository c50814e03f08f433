use Rattle.std.proofs.Common.{refl, ap, sym, ◌+◌, ◌∙◌, arith}
use Rattle.series.specs.Series.{none}
use Rattle.series.proofs.Going.{rooms_next, room_next, went_more}
use Rattle.series.proofs.answering.answer_all.Goals as goal

pub loop-place-init : goal.loop-place-init
loop-place-init g c = record { went = record { given = _; words = _; asked = _; replies = _; turns = none; run = refl; answers_told = refl; words_written = refl }; from = refl }

pub slice_bounds-answer-end-in-loop-place-2 : goal.slice_bounds-answer-end-in-loop-place-2
slice_bounds-answer-end-in-loop-place-2 g c =
    let m = room_next c.args.calls.now c.loop-place.place _ c.part_len.result c.loop-place-test.true c.part_len.ensures in
    let f = c.loop-place.invariant.from in
    let w = c.requires.written in
    let k = c.loop-place.auto.written in
    omega (arith, m, f, w, k)

pub loop-place-preserved : goal.loop-place-preserved
loop-place-preserved g c =
    let inv = c.loop-place.invariant in
    record {
      went =
          went_more g.K.WeightKind.ops c.args.bench.now c.args.calls.now c.loop-place.place _ c.args.answers.now c.loop-place.answers c.args.written.now c.loop-place.written c.loop-place.from
          c.part_len.result c.loop-place.bench c.loop-place-test.true c.requires.answers c.requires.written inv.went inv.from c.part_len.ensures c.loop-place.auto.written
          c.answer-given.new.words c.answer-given.result c.answer-given.new.bench c.answer-given.auto.words c.answer-given.ensures;
      from = ap (λ k. k + c.part_len.result) inv.from ∙ sym (rooms_next c.args.calls.now c.loop-place.place _ c.part_len.result c.loop-place-test.true c.part_len.ensures);
    }
