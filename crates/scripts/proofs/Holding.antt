-- Calls counted, and the words of their frames behind one another.
use Rattle.std.proofs.Common.{◌≡◌, ℕ, ◌+◌, ◌-◌, ◌<◌, ◌≤◌, min, List, [], ◌∷◌, ◌++◌, length, take, refl, sym, ap, ◌∙◌, arith, length-append, append-nil, take-add, ap₂, Some, None, Option, option_map}
use Rattle.std.proofs.lemmas.List.{length_push, length-take-le, take_at, drop_at, take-append-le}
use Rattle.std.proofs.lemmas.List.Concat.{flat_map-append}
use Rattle.std.proofs.lemmas.List.Sums.{sum_by-append}
use Rattle.scripts.specs.Heard.{Holds, most}
use Rattle.scripts.specs.Forwards.{frame_said}
use Rattle.scripts.specs.Lines.{Asked, forward, call, frame_into}
use Rattle.scripts.specs.Scripts.{frame_of, frames_of, room_of, rooms_of}
use Rattle.scripts.specs.Words.{words}
use Rattle.scripts.specs.declared.needs.Needs.{Needs}

pub frames_push : (cs : List Asked) (c : Asked) → frames_of (cs ++ c ∷ []) ≡ frames_of cs ++ frame_of c
frames_push cs c = flat_map-append frame_of cs (c ∷ []) ∙ ap (λ ws. frames_of cs ++ ws) (append-nil (frame_of c))

pub rooms_push : (cs : List Asked) (c : Asked) → rooms_of (cs ++ c ∷ []) ≡ rooms_of cs + room_of c
rooms_push cs c = omega (arith, sum_by-append room_of cs (c ∷ []))

-- memory whose part from a place on is written anew
front_kept : (old out post : List ℕ) (start n : ℕ) → start ≤ length old → n ≤ length out → take (start + n) (take start old ++ (out ++ post)) ≡ take start old ++ take n out
front_kept old out post start n h l =
    let long : length (take start old) ≡ start = length-take-le start old h in
    take-add start n (take start old ++ (out ++ post))
    ∙ ap₂ ◌++◌ (take_at (take start old) (out ++ post) start long) (ap (take n) (drop_at (take start old) (out ++ post) start long) ∙ take-append-le n out post l)

pub one_more : {cs : List Asked} {needs : Needs} {frames : List ℕ} → Holds cs needs frames → (c : Asked) (k : ℕ) → (frame_of c ≡ []) × (room_of c ≡ 0) → k ≡ min (needs.calls + 1) most →
    Holds (cs ++ c ∷ []) (record { calls = k; words = needs.words; room = needs.room }) frames
one_more {cs} {needs} {frames} h c k (none, no_room) e =
    let same : frames_of (cs ++ c ∷ []) ≡ frames_of cs = frames_push cs c ∙ ap (λ ws. frames_of cs ++ ws) none ∙ append-nil (frames_of cs) in
    record {
      calls = omega (arith, e, h.calls, length_push cs c);
      words = h.words ∙ ap (λ ws. min most (length ws)) (sym same);
      room = omega (arith, h.room, rooms_push cs c, no_room);
      written = rw same h.written;
    }

pub one_framed :
    {cs : List Asked} {needs : Needs} {frames : List ℕ} →
    Holds cs needs frames →
    (c : Asked) (out post : List ℕ) (start k w r : ℕ) →
    start ≡ min needs.words (length frames) →
    length frames < most →
    length out ≡ length frames - start →
    length post ≡ 0 →
    (length (frame_of c) ≤ length out → take (length (frame_of c)) out ≡ frame_of c) →
    k ≡ min (needs.calls + 1) most →
    w ≡ min (needs.words + length (frame_of c)) most →
    r ≡ min (needs.room + room_of c) most →
    Holds (cs ++ c ∷ []) (record { calls = k; words = w; room = r }) (take start frames ++ (out ++ post))
one_framed {cs} {needs} {frames} h c out post start k w r s small l p f e g q =
    let n : length (frames_of (cs ++ c ∷ [])) ≡ length (frames_of cs) + length (frame_of c) = ap length (frames_push cs c) ∙ length-append (frames_of cs) (frame_of c) in
    let long : length (take start frames) ≡ start = length-take-le start frames (omega arith) in
    let all : length (take start frames ++ (out ++ post)) ≡ start + (length out + length post) = length-append (take start frames) (out ++ post) ∙ ap₂ ◌+◌ long (length-append out post) in
    record {
      calls = omega (arith, e, h.calls, length_push cs c);
      words = omega (arith, g, h.words, n);
      room = omega (arith, q, h.room, rooms_push cs c);
      written = λ le.
          let at : start ≡ length (frames_of cs) = omega (arith, h.words) in
          let front : take start frames ≡ frames_of cs = ap (λ k. take k frames) at ∙ h.written (omega arith) in
          ap (λ k. take k (take start frames ++ (out ++ post))) (n ∙ ap (λ k. k + length (frame_of c)) (sym at))
          ∙ front_kept frames out post start (length (frame_of c)) (omega arith) (omega arith)
          ∙ ap₂ ◌++◌ front (f (omega arith)) ∙ sym (frames_push cs c);
    }

pub some_length : (o : Option (List ℕ)) (n : ℕ) → Some n ≡ option_map length o → (ws : List ℕ) × (o ≡ Some ws) × (n ≡ length ws)
some_length None n e = absurd (cc)
some_length (Some ws) n e = (ws, refl, cc)

pub framed_line : (text ws : List ℕ) (room : ℕ) → frame_said (words text) ≡ Some ws → option_map call (frame_into room (words text)) ≡ Some (call (forward ws room))
framed_line text ws room e = rw e refl
