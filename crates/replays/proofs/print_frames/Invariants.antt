use Rattle.std.proofs.Common.{◌≡◌, ◌<◌, List, ℕ, ◌++◌, length}
use Rattle.std.specs.Slice.Iter.{chunks_rest, chunks_size}
use Rattle.format.specs.Fields.{fields}
use Rattle.tables.specs.Rows.{Row, LegalRows, table_words}
use Rattle.pages.specs.Pages.{Says}
use Rattle.replays.specs.Replays.{FramesSaid}
use Rattle.replays.proofs.print_frames.Given as goal

abbrev pub invariant-loop-frame : goal.invariant-loop-frame
invariant-loop-frame g l =
    record {
      can_next : 0 < chunks_size l.frame-iterator;
      is_finite : Unit {0};
      size : chunks_size l.frame-iterator ≡ fields;
      told :
          (rows : List Row) →
          LegalRows g.K.WeightKind.ops rows →
          l.table.words.now ≡ table_words rows →
          (said : List ℕ) × Says l.initial.page said l.page
          × ((rest : List ℕ) →
          FramesSaid g.K.WeightKind.ops rows (length l.initial.room) (chunks_rest l.frame-iterator) rest →
          FramesSaid g.K.WeightKind.ops rows (length l.initial.room) l.frames (said ++ rest));
    }
