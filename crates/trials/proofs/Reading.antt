-- The calls of a script, read into memory.
use Rattle.std.proofs.Common.{◌≡◌, ℕ, ◌≤◌, min, List, [], ◌∷◌, ◌++◌, length, take, map, Ok, refl, sym, ap, ap₂, ◌+◌, ◌∙◌, subst, arith, append-nil, length-take}
use Rattle.std.proofs.lemmas.List.Sums.{sum_by-append}
use Rattle.calls.specs.declared.Call.{Call}
use Rattle.calls.specs.declared.Call.TheVariants.{Compile, Union, Sequence, Star, Install, Forward}
use Rattle.scripts.specs.Heard.{CallsRead}
use Rattle.scripts.specs.Lines.{Asked, asked}
use Rattle.scripts.specs.Scripts.{script_said, frames_of, room_of, rooms_of}
use Rattle.series.specs.Calls.{part_length, parts_length}
use Rattle.trials.specs.Ready.{Ready}
use Rattle.trials.specs.Trials.{calls_limit}
use Rattle.trials.proofs.Answering.{both}

same_room : (c : Call) → room_of (asked c) ≡ part_length c
same_room (Compile text) = refl
same_room (Union x y) = refl
same_room (Sequence x y) = refl
same_room (Star x) = refl
same_room (Install x) = refl
same_room (Forward ws n) = refl

rooms_are : (cs : List Call) → rooms_of (map asked cs) ≡ parts_length cs
rooms_are [] = refl
rooms_are (c ∷ cs) = omega (arith, sum_by-append room_of (asked c ∷ []) (map asked cs), both c cs, same_room c, rooms_are cs)

-- so many calls stand first in memory
pub record Read (script : List ℕ) (room count : ℕ) (calls : List Call) : Type 0 where
  pub few : count ≤ calls_limit
  pub said : script_said script ≡ Ok (map asked (take count calls))
  pub roomy : parts_length (take count calls) ≤ room

pub calls_read :
    {script frames : List ℕ} {room count : ℕ} {calls : List Call} →
    Ready script frames room →
    length calls ≡ calls_limit →
    ((cs : List Asked) (more : List ℕ) → script_said script ≡ Ok cs → frames ≡ frames_of cs ++ more → CallsRead cs count calls) →
    Read script room count calls
calls_read {script} {frames} {room} {count} {calls} h long reads =
    let r = reads h.asks [] h.said (h.frames_first ∙ sym (append-nil (frames_of h.asks))) in
    let n : count ≡ length h.asks = omega (arith, r.counted, h.few) in
    let kept : map asked (take count calls) ≡ h.asks = ap (λ k. map asked (take k calls)) n ∙ r.kept (omega (arith, h.few)) in
    record {
      few = omega (arith, h.few);
      said = h.said ∙ ap (λ cs. Ok cs) (sym kept);
      roomy = omega (arith, sym (rooms_are (take count calls)), ap rooms_of kept, h.roomy);
    }
