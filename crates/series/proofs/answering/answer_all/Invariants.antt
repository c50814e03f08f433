use Rattle.std.proofs.Common.{◌≡◌, take}
use Rattle.series.specs.Calls.{parts_length}
use Rattle.series.specs.Turns.{Went}
use Rattle.series.proofs.answering.answer_all.Given as goal

-- the calls so far were answered so
abbrev pub invariant-loop-place : goal.invariant-loop-place
invariant-loop-place g l =
    record {
      went : Went g.K.WeightKind.ops l.fn.bench (take l.place l.calls) l.fn.answers l.answers l.fn.written l.written l.bench;
      from : l.from ≡ parts_length (take l.place l.calls);
    }
