-- What is said of a frame, and of frames one after another.
use Rattle.std.proofs.Common.{◌≡◌, ℕ, ◌<◌, ◌≤◌, min, List, [], ◌++◌, length, take, drop, ap, ◌∙◌, append-nil, arith, length-append}
use native.Mathlib.Decide.{dec_le}
use Rattle.std.proofs.lemmas.List.{take_at, drop_at, take_all, drop_all, nil_from_length}
use Rattle.std.specs.List.{flat_map}
use Rattle.faults.specs.declared.layers.FrameFault.{FrameFault}
use Rattle.faults.specs.Lines.{refused_line}
use Rattle.faults.specs.Shows.{frame_shown}
use Rattle.format.specs.Fields.{fields}
use Rattle.tables.specs.Forwards.{Answered, Refused}
use Rattle.lines.specs.Lines.{frame_line}
use Rattle.pages.specs.declared.page.Page.{Page}
use Rattle.pages.specs.Pages.{Says, SaysSome}
use Rattle.pages.proofs.Saying.{◌>>◌, says_of_eq}
use Rattle.replays.proofs.EmittedLines.{line, lines_of_answer}
use Rattle.replays.proofs.Widths.{answer_wide}
use Rattle.weights.specs.Weights.{Ops}
use Rattle.tables.specs.Rows.{Row}
use Rattle.replays.specs.Replays.{FrameSaid, FramesSaid, emit_lines}

-- the frame and its answer
pub frame_answered :
    {p q r : Page} (o : Ops) (rows : List Row) (room : ℕ) (ws held holds part : List ℕ) (count : ℕ) →
    Answered o rows ws held count holds →
    part ≡ take count holds →
    Says p (frame_line ws) q →
    Says q (emit_lines part) r →
    SaysSome (FrameSaid o rows room ws) p r
frame_answered o rows room ws held holds part count a e s t =
    let w = a.3
    in let lines : emit_lines part ≡ flat_map line w.answer =
    ap emit_lines (e ∙ w.front) ∙ lines_of_answer w.answer (answer_wide o rows a.0 w.answer a.1.one_each w.right.sound)
    in (frame_line ws ++ flat_map line w.answer, FrameSaid.forwarded a.0 w.answer a.1 a.2 w.right, s >> says_of_eq lines t)

-- the frame and why it is refused
pub frame_refused :
    {p q r : Page} (o : Ops) (rows : List Row) (room : ℕ) (ws : List ℕ) (fault : FrameFault) →
    Refused o rows ws room fault →
    Says p (frame_line ws) q →
    Says q (refused_line (frame_shown fault)) r →
    SaysSome (FrameSaid o rows room ws) p r
frame_refused o rows room ws fault r s t =
    (frame_line ws ++ refused_line (frame_shown fault), FrameSaid.refused fault r, s >> t)

-- a piece of n elements, or of all that there are, with which a list begins
cut :
    (n : ℕ) (front left : List ℕ) →
    length front ≡ min n (length (front ++ left)) →
    (take n (front ++ left) ≡ front) × (drop n (front ++ left) ≡ left)
cut n front left size = go (dec_le n (length front))
  where
    go : Dec (n ≤ length front) → (take n (front ++ left) ≡ front) × (drop n (front ++ left) ≡ left)
    go (yes h) =
        let e : length front ≡ n = omega (arith, length-append front left) in (take_at front left n e, drop_at front left n e)
    go (no h) =
        let none : left ≡ [] = nil_from_length left (omega (arith, length-append front left))
        in rw (none, append-nil) (take_all n front (omega arith), drop_all n front (omega arith))

-- the frame with which the words begin, and what is said of the words behind it
pub frame_then_rest :
    (o : Ops) (rows : List Row) (lent room : ℕ) (ws frame left here rest : List ℕ) →
    lent ≡ room →
    ws ≡ frame ++ left →
    length frame ≡ min fields (length ws) →
    0 < length ws →
    FrameSaid o rows lent frame here →
    FramesSaid o rows room left rest →
    FramesSaid o rows room ws (here ++ rest)
frame_then_rest o rows lent room ws frame left here rest same parts size some said later =
    let c = cut fields frame left (size ∙ ap (λ l. min fields (length l)) parts)
    in let first : FrameSaid o rows room (take fields ws) here = rw (parts, c.0) (rw same at said)
    in let then : FramesSaid o rows room (drop fields ws) rest = rw (parts, c.1) later
    in FramesSaid.frame_first ws here rest some first then
