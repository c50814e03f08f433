-- The calls of a script read for the second time.
use Rattle.std.proofs.Common.{◌≡◌, ℕ, ◌+◌, ◌<◌, ◌≤◌, min, List, [], ◌∷◌, ◌++◌, length, map, take, set, Some, None, Ok, Err, Option, Result, refl, sym, ap, ◌∙◌, arith, append_assoc, append-nil, inl, inr, ◌⊎◌}
use Rattle.std.proofs.lemmas.List.{length_push, take_more_set, map-append}
use Rattle.scripts.specs.Heard.{CallsRead, most}
use Rattle.scripts.specs.Lines.{Asked, asked, Meaning, nothing, call, line_said}
use Rattle.scripts.specs.Scripts.{line_first, asked_from, frame_of, frames_of}
use Rattle.calls.specs.declared.Call.{Call}

-- some of the calls cs are read and kept where there is room; these lines and words are left
pub record Retrieved (cs : List Asked) (more : List ℕ) (lines : List (List ℕ)) (unread : List ℕ) (count : ℕ) (calls : List Call) : Type 0 where
  pub done : List Asked
  pub left : List Asked
  pub number : ℕ
  pub parts : cs ≡ done ++ left
  pub read : asked_from number lines ≡ Ok left
  pub words : unread ≡ frames_of left ++ more
  pub counted : count ≡ min most (length done)
  pub kept : length done ≤ length calls → map asked (take (length done) calls) ≡ done

pub begun : (cs : List Asked) (more : List ℕ) (lines : List (List ℕ)) (unread : List ℕ) (calls : List Call) → asked_from 1 lines ≡ Ok cs → unread ≡ frames_of cs ++ more → Retrieved cs more lines unread 0 calls
begun cs more lines unread calls e f = record { done = []; left = cs; number = 1; parts = refl; read = e; words = f; counted = refl; kept = λ _. refl }

-- the first line left is nothing, or the first call left
pub data Turn (cs : List Asked) (more : List ℕ) (line : List ℕ) (lines : List (List ℕ)) (unread : List ℕ) (count : ℕ) (calls : List Call) : Type 0 where
  none : line_said line ≡ Some nothing → Retrieved cs more lines unread count calls → Turn cs more line lines unread count calls
  some : (c : Asked) (others : List ℕ) → line_said line ≡ Some (call c) → unread ≡ frame_of c ++ others →
      ((here : Call) → asked here ≡ c → (k : ℕ) → k ≡ min (count + 1) most → (count < length calls → Retrieved cs more lines others k (set calls count here)) × (length calls ≤ count → Retrieved cs more lines others k calls)) →
      Turn cs more line lines unread count calls

first_left : (m : Option Meaning) (n : ℕ) (r : Result (List Asked) ℕ) (left : List Asked) → line_first n m r ≡ Ok left →
    ((m ≡ Some nothing) × (r ≡ Ok left)) ⊎ ((c : Asked) × (others : List Asked) × (m ≡ Some (call c)) × (r ≡ Ok others) × (left ≡ c ∷ others))
first_left None n r left e = absurd (cc)
first_left (Some nothing) n r left e = inl (refl, e)
first_left (Some (call c)) n (Ok others) left e = inr (c, others, refl, refl, cc)
first_left (Some (call c)) n (Err k) left e = absurd (cc)

pub turn : {cs : List Asked} {more : List ℕ} {line : List ℕ} {lines : List (List ℕ)} {unread : List ℕ} {count : ℕ} {calls : List Call} →
    Retrieved cs more (line ∷ lines) unread count calls → length calls < most → Turn cs more line lines unread count calls
turn {cs} {more} {line} {lines} {unread} {count} {calls} h small =
    elim (first_left (line_said line) h.number (asked_from (h.number + 1) lines) h.left h.read) [
      | inl p ↦ none p.0 (record { done = h.done; left = h.left; number = h.number + 1; parts = h.parts; read = p.1; words = h.words; counted = h.counted; kept = h.kept })
      | inr p ↦
          let c = p.0 in
          let parts : cs ≡ (h.done ++ c ∷ []) ++ p.1 = h.parts ∙ ap (λ ls. h.done ++ ls) p.4 ∙ sym (append_assoc h.done (c ∷ []) p.1) in
          let n : length (h.done ++ c ∷ []) ≡ length h.done + 1 = length_push h.done c in
          some c (frames_of p.1 ++ more) p.2 (h.words ∙ ap (λ ls. frames_of ls ++ more) p.4 ∙ append_assoc (frame_of c) (frames_of p.1) more)
          (λ here same k e. (
            λ room. record {
              done = h.done ++ c ∷ [];
              left = p.1;
              number = h.number + 1;
              parts = parts;
              read = p.3;
              words = refl;
              counted = omega (arith, e, h.counted, n);
              kept = λ le.
                  let at : count ≡ length h.done = omega (arith, h.counted) in
                  ap (λ k. map asked (take k (set calls count here))) (n ∙ ap (λ k. k + 1) (sym at))
                  ∙ ap (map asked) (take_more_set calls count here room)
                  ∙ map-append asked (take count calls) (here ∷ [])
                  ∙ ap (λ ls. ls ++ asked here ∷ []) (ap (λ k. map asked (take k calls)) at ∙ h.kept (omega arith))
                  ∙ ap (λ x. h.done ++ x ∷ []) same;
            },
            λ full. record {
              done = h.done ++ c ∷ [];
              left = p.1;
              number = h.number + 1;
              parts = parts;
              read = p.3;
              words = refl;
              counted = omega (arith, e, h.counted, n);
              kept = λ le. absurd (omega (arith, n, h.counted));
            },
          ))
    ]

pub ended : {cs : List Asked} {more : List ℕ} {unread : List ℕ} {count : ℕ} {calls : List Call} → Retrieved cs more [] unread count calls → CallsRead cs count calls
ended {cs} {more} {unread} {count} {calls} h =
    let none : h.left ≡ [] = cc (h.read) in
    let all : cs ≡ h.done = h.parts ∙ ap (λ ls. h.done ++ ls) none ∙ append-nil h.done in
    record { counted = rw all h.counted; kept = rw all h.kept }
