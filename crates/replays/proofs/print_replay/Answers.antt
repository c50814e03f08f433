use Rattle.std.proofs.Common.{◌*◌, length, ap, ◌∙◌, arith, length-take}
use Rattle.faults.specs.Lines.{refused_line}
use Rattle.tables.specs.Emits.{sent_length}
use Rattle.pages.proofs.Saying.{says_of_eq}
use Rattle.replays.specs.Replays.{title}
use Rattle.replays.proofs.Records.{recorded, table_refused, refused_not_legal}
use Rattle.replays.proofs.print_replay.Goals as goal

pub returns-else-room-table : goal.returns-else-room-table
returns-else-room-table g c =
    let (same, legal) = rw c.in-Ok.is at c.requires
    in let room = c.if-room-table.false
    in (
      λ _. omega (arith, room),
      recorded
          g.K.WeightKind.ops
          (title c.args.titled c.args.table.now)
          c.args.table.now
          c.args.frames.now
          _
          legal
          (omega (arith, room, length-take (length c.args.table.now * sent_length) c.args.room.now))
          c.print_title.ensures
          (c.print_frames.ensures legal.0 legal.1 (same ∙ legal.2)),
    )

pub returns-in-Err : goal.returns-in-Err
returns-in-Err g c =
    let refused = rw c.in-Err.is at c.requires
    in (
      λ legal. absurd (refused_not_legal g.K.WeightKind.ops c.args.table.now c.in-Err.fault refused legal),
      table_refused
          g.K.WeightKind.ops
          (title c.args.titled c.args.table.now)
          c.args.table.now
          c.args.frames.now
          c.in-Err.fault
          refused
          (says_of_eq (ap refused_line c.from.ensures) c.print.ensures),
    )
