use Rattle.std.proofs.Common.{◌≡◌, ◌+◌, ◌-◌, length, refl, ap, arith}
use Rattle.pages.proofs.Saying.{copied, cut_off}
use Rattle.pages.proofs.page.Page.push_bytes.Goals.{then-bytes-room, else-bytes-room}
use Rattle.pages.proofs.page.Page.push_bytes.Goals as goal

pub returns : goal.returns
returns c =
    let start = c.min-start.result
    in let bytes = c.args.bytes.now
    in let count = c.saturating_add-self.ensures
    in elim c.if-bytes-room.branch [
      | then-bytes-room w ↦
          let size : start + length bytes - start ≡ length bytes = omega arith
          in copied _ _ bytes _ start _ c.min-start.ensures w.if-bytes-room.true size w.copy_from_slice.ensures.after (rw w.self-is at count) (ap (λ s. s.1.0.now) w.self-is) (ap (λ s. s.1.0.ghost_name) w.self-is)
      | else-bytes-room w ↦
          cut_off _ _ bytes _ start _ c.min-start.ensures (omega (arith, w.if-bytes-room.false)) refl w.copy_from_slice-else-bytes-room.ensures.after (rw w.self-is at count) (ap (λ s. s.1.0.now) w.self-is) (ap (λ s. s.1.0.ghost_name) w.self-is)
    ]
