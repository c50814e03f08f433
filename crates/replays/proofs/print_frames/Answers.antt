use Rattle.std.proofs.Common.{ℕ, List, [], ◌++◌, min, length, sym, ap, ◌∙◌, append_assoc, append-nil, subst, arith}
use Rattle.std.specs.Slice.Iter.{chunks_rest, chunks_size}
use Rattle.std.proofs.lemmas.List.{nil_from_length}
use Rattle.pages.proofs.Saying.{◌>>◌, nothing}
use Rattle.replays.specs.Replays.{FramesSaid}
use Rattle.replays.proofs.Frames.{frame_then_rest}
use Rattle.replays.proofs.print_frames.Goals as goal

pub loop-frame-init : goal.loop-frame-init
loop-frame-init g c =
    let gives = c.into_iter-frame-iterator.ensures.into_iter_gives
    in let size = ap chunks_size gives ∙ c.chunks-frame-items.ensures.size
    in let rest = ap chunks_rest gives ∙ c.chunks-frame-items.ensures.rest
    in record {
      can_next = omega (arith, size);
      is_finite = tt;
      size = size;
      told = λ rows legal e.
          ([], nothing c.args.page.now, λ said h. subst (λ (ws : List ℕ). FramesSaid g.K.WeightKind.ops rows (length c.args.room.now) ws said) rest h);
    }

pub loop-frame-preserved : goal.loop-frame-preserved
loop-frame-preserved g c =
    let known = c.loop-frame.invariant
    in let steps = c.in-Some.ensures.steps
    in record {
      can_next = omega (arith, steps.0, known.size);
      is_finite = tt;
      size = steps.0 ∙ known.size;
      told = λ rows legal e.
          let so = known.told rows legal e
          in let here = c.print_frame.ensures rows legal e
          in let P : List ℕ → Type 0 = λ text. FramesSaid g.K.WeightKind.ops rows (length c.args.room.now) c.args.frames.now text
          in (
            so.0 ++ here.0,
            so.1 >> here.2,
            λ rest later.
                subst
                P
                (sym (append_assoc so.0 here.0 rest))
                (so.2 (here.0 ++ rest)
                (frame_then_rest
                g.K.WeightKind.ops
                rows
                (length c.loop-frame.room)
                (length c.args.room.now)
                (chunks_rest c.loop-frame.frame-iterator)
                c.in-Some.frame.now
                (chunks_rest c.next.new.self)
                here.0
                rest
                c.loop-frame.auto.room
                steps.1.0
                (steps.1.1 ∙ ap (λ n. min n (length (chunks_rest c.loop-frame.frame-iterator))) known.size)
                steps.1.2
                here.1
                later)),
          );
    }

pub returns : goal.returns
returns g c = λ rows legal e.
    let none = nil_from_length (chunks_rest c.loop-frame.frame-iterator) c.in-None.ensures.steps.1.0
    in let so = c.loop-frame.invariant.told rows legal e
    in let P : List ℕ → Type 0 = λ ws. FramesSaid g.K.WeightKind.ops rows (length c.args.room.now) ws []
    in let Q : List ℕ → Type 0 = λ text. FramesSaid g.K.WeightKind.ops rows (length c.args.room.now) c.args.frames.now text
    in (so.0, subst Q (append-nil so.0) (so.2 [] (subst P (sym none) FramesSaid.no_frame)), so.1)
