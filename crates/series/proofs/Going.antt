-- A run and its answers go on by a call. Assumes nothing.
use Rattle.std.proofs.Common.{◌≡◌, ℕ, suc, ◌+◌, ◌-◌, ◌<◌, ◌≤◌, List, [], ◌∷◌, ◌++◌, length, take, drop, get_or, set, refl, sym, ap, ap₂, ◌∙◌, subst, append_assoc, arith, length-append, add-one, zero-add}
use Rattle.std.proofs.lemmas.List.{take_more, length-take-le, drop-drop, length-drop}
use Rattle.std.proofs.lemmas.List.Sums.{sum_by-append, sum_by_more, sum_by_more_le}
use Rattle.std.proofs.Math.Seq.{take-add, take-append_seam, drop-append_seam, drop-cons, set-append_seam}
use borrow.Rule.Slice.PartMut.{put_mid}
use Rattle.weights.specs.Weights.{Ops}
use Rattle.steps.specs.States.{State}
use Rattle.steps.specs.Steps as bench
use Rattle.calls.specs.declared.Call.{Call}
use Rattle.series.specs.declared.answers.Answer.{Answer}
use Rattle.series.specs.Calls.{part_length, parts_length}
use Rattle.series.specs.Series.{Turns, none, next}
use Rattle.series.specs.Turns.{Answered, Went}

run_then :
    (o : Ops) (s : State) (cs : List bench.Call) (rs : List bench.Reply) (m : State) (ds : List bench.Call) (qs : List bench.Reply) (s' : State) →
    bench.Run o s cs rs m → bench.Run o m ds qs s' → bench.Run o s (cs ++ ds) (rs ++ qs) s'
run_then o s [] [] m ds qs s' h k = subst (λ (x : State). bench.Run o x ds qs s') h k
run_then o s [] (r ∷ rs) m ds qs s' h k = absurd h
run_then o s (c ∷ cs) [] m ds qs s' h k = absurd h
run_then o s (c ∷ cs) (r ∷ rs) m ds qs s' h k = (h.0, h.1, run_then o h.0 cs rs m ds qs s' h.2 k)

-- an answer for each call, and as many words as there were
turns_lengths :
    (calls : List Call) (answers : List Answer) (was is : List ℕ) (cs : List bench.Call) (rs : List bench.Reply) → Turns calls answers was is cs rs →
    (length answers ≡ length calls) × (length is ≡ length was)
turns_lengths _ _ _ _ _ _ none = (refl, refl)
turns_lengths _ _ _ _ _ _ (next {calls = calls} {answers = answers} {was = was} {is = is} {call = call} {answer = answer} {part = part} {part' = part'} h p q t) =
    let k = turns_lengths calls answers was is _ _ h in (
      omega (arith, k.0, length-append calls (call ∷ []), length-append answers (answer ∷ [])),
      omega (arith, k.1, p, q, length-append was part, length-append is part'),
    )

rooms_more : (calls : List Call) (call : Call) → parts_length (calls ++ (call ∷ [])) ≡ parts_length calls + part_length call
rooms_more calls call = sum_by-append part_length calls (call ∷ []) ∙ ap (λ (k : ℕ). parts_length calls + k) (zero-add (part_length call))

went_next :
    (o : Ops) (s : State) (cs : List Call) (call : Call) (A0 A : List Answer) (W0 W part' : List ℕ) (m : State) (a : Answer) (m' : State) →
    (w : Went o s cs A0 A W0 W m) → Answered o w.given call m a (take (part_length call) (drop (parts_length cs) W0)) part' m' →
    parts_length cs + part_length call ≤ length W0 → length part' ≡ part_length call →
    Went o s (cs ++ (call ∷ [])) A0 (w.given ++ (a ∷ drop (length cs + 1) A0)) W0 (w.words ++ (part' ++ drop (parts_length cs + part_length call) W0)) m'
went_next o s cs call A0 A W0 W part' m a m' w h fits n =
    record {
      given = w.given ++ (a ∷ []);
      words = w.words ++ part';
      asked = w.asked ++ h.asked;
      replies = w.replies ++ h.replies;
      turns =
          subst (λ (x : List ℕ). Turns (cs ++ (call ∷ [])) (w.given ++ (a ∷ [])) x (w.words ++ part') (w.asked ++ h.asked) (w.replies ++ h.replies))
          (sym (take-add (parts_length cs) (part_length call) W0) ∙ ap (λ (k : ℕ). take k W0) (sym (rooms_more cs call)))
          (next w.turns (length-take-le (part_length call) (drop (parts_length cs) W0) (let d = length-drop (parts_length cs) W0 in omega (arith, d, fits))) n h.turn);
      run = run_then o s w.asked w.replies m h.asked h.replies m' w.run h.run;
      answers_told =
          sym (append_assoc w.given (a ∷ []) (drop (length cs + 1) A0)) ∙ ap (λ (k : ℕ). (w.given ++ (a ∷ [])) ++ drop k A0) (sym (length-append cs (call ∷ [])));
      words_written = sym (append_assoc w.words part' (drop (parts_length cs + part_length call) W0)) ∙ ap (λ (k : ℕ). (w.words ++ part') ++ drop k W0) (sym (rooms_more cs call));
    }

-- what stood in front of the rest
front_of : {X : Type 0} (n : ℕ) (xs ys all : List X) → length xs ≡ n → all ≡ xs ++ ys → take n all ≡ xs
front_of n xs ys all l e = ap₂ take (sym l) e ∙ take-append_seam xs ys

rest_of : {X : Type 0} (n : ℕ) (xs ys all : List X) → length xs ≡ n → all ≡ xs ++ ys → drop n all ≡ ys
rest_of n xs ys all l e = ap₂ drop (sym l) e ∙ drop-append_seam xs ys

answer_put : (n : ℕ) (xs A0 all : List Answer) (a : Answer) → length xs ≡ n → n < length A0 → all ≡ xs ++ drop n A0 → set all n a ≡ xs ++ (a ∷ drop (n + 1) A0)
answer_put n xs A0 all a l h e =
    ap₂ (λ (y : List Answer) (k : ℕ). set y k a) (e ∙ ap (λ (y : List Answer). xs ++ y) (drop-cons A0 n a h)) (sym l)
    ∙ set-append_seam xs (get_or A0 n a) (drop (suc n) A0) a ∙ ap (λ (k : ℕ). xs ++ (a ∷ drop k A0)) (sym (add-one n))

words_put :
    (r k : ℕ) (xs W0 all part : List ℕ) → length xs ≡ r → all ≡ xs ++ drop r W0 → put_mid r k all part ≡ xs ++ (part ++ drop (r + k) W0)
words_put r k xs W0 all part l e =
    ap₂ (λ (y z : List ℕ). y ++ (part ++ drop k z)) (front_of r xs (drop r W0) all l e) (rest_of r xs (drop r W0) all l e) ∙ ap (λ (z : List ℕ). xs ++ (part ++ z)) (drop-drop k r W0)

-- the rooms so far and that of the next call
pub rooms_next : (calls : List Call) (i : ℕ) (d : Call) (n : ℕ) → i < length calls → n ≡ part_length (get_or calls i d) → parts_length (take (i + 1) calls) ≡ parts_length (take i calls) + n
rooms_next calls i d n l e = sum_by_more part_length calls i d l ∙ ap (λ (k : ℕ). parts_length (take i calls) + k) (sym e)

pub room_next : (calls : List Call) (i : ℕ) (d : Call) (n : ℕ) → i < length calls → n ≡ part_length (get_or calls i d) → parts_length (take i calls) + n ≤ parts_length calls
room_next calls i d n l e = let h = sum_by_more_le part_length calls i d l in omega (arith, h, e)

module _ (o : Ops) (s : State) (calls : List Call) (i : ℕ) (d : Call) (A0 A : List Answer) (W0 W : List ℕ) (from n : ℕ) (m : State) where
  pub went_more :
      i < length calls → length calls ≤ length A0 → parts_length calls ≤ length W0 →
      (w : Went o s (take i calls) A0 A W0 W m) → from ≡ parts_length (take i calls) → n ≡ part_length (get_or calls i d) → length W ≡ length W0 →
      (part' : List ℕ) (a : Answer) (m' : State) → length part' ≡ length (take ((from + n) - from) (drop from W)) →
      Answered o (take i A) (get_or calls i d) m a (take ((from + n) - from) (drop from W)) part' m' →
      Went o s (take (i + 1) calls) A0 (set A i a) W0 (put_mid from ((from + n) - from) W part') m'
  went_more l q f w e room same part' a m' long h =
      subst (λ (x : List Call). Went o s x A0 (set A i a) W0 (put_mid from k W part') m') (sym (take_more calls i d l))
      (subst (λ (x : List Answer). Went o s (cs ++ (call ∷ [])) A0 x W0 (put_mid from k W part') m') (sym (answer_put i w.given A0 A a given_long (omega (arith, l, q)) told))
      (subst (λ (j : ℕ). Went o s (cs ++ (call ∷ [])) A0 (w.given ++ (a ∷ drop (j + 1) A0)) W0 (put_mid from k W part') m') cs_long
      (subst (λ (x : List ℕ). Went o s (cs ++ (call ∷ [])) A0 (w.given ++ (a ∷ drop (length cs + 1) A0)) W0 x m') (sym written)
      (went_next o s cs call A0 A W0 W part' m a m' w
      (subst (λ (x : List Answer). Answered o x call m a (take (part_length call) (drop (parts_length cs) W0)) part' m') (front_of i w.given (drop i A0) A given_long told)
      (subst (λ (x : List ℕ). Answered o (take i A) call m a x part' m') part h)) fits (long ∙ part_long)))))
    where
      k : ℕ
      k = (from + n) - from

      z : k ≡ part_length (get_or calls i d)
      z = omega (arith, room)

      fits : parts_length (take i calls) + part_length (get_or calls i d) ≤ length W0
      fits = let h = room_next calls i d n l room in omega (arith, h, room, f)

      part_long : length (take k (drop from W)) ≡ part_length (get_or calls i d)
      part_long = length-take-le k (drop from W) (let h = length-drop from W in omega (arith, h, z, same, fits, e)) ∙ z

      cs : List Call
      cs = take i calls

      call : Call
      call = get_or calls i d

      cs_long : length cs ≡ i
      cs_long = length-take-le i calls (omega (arith, l))

      lengths : (length w.given ≡ length cs) × (length w.words ≡ length (take (parts_length cs) W0))
      lengths = turns_lengths cs w.given (take (parts_length cs) W0) w.words w.asked w.replies w.turns

      given_long : length w.given ≡ i
      given_long = lengths.0 ∙ cs_long

      words_long : length w.words ≡ parts_length cs
      words_long = lengths.1 ∙ length-take-le (parts_length cs) W0 (omega (arith, fits))

      told : A ≡ w.given ++ drop i A0
      told = w.answers_told ∙ ap (λ (j : ℕ). w.given ++ drop j A0) cs_long

      written : put_mid from k W part' ≡ w.words ++ (part' ++ drop (parts_length cs + part_length call) W0)
      written = ap₂ (λ (x y : ℕ). put_mid x y W part') e z ∙ words_put (parts_length cs) (part_length call) w.words W0 W part' words_long w.words_written

      part : take k (drop from W) ≡ take (part_length call) (drop (parts_length cs) W0)
      part = ap₂ take z (ap (λ (x : ℕ). drop x W) e ∙ rest_of (parts_length cs) w.words (drop (parts_length cs) W0) W words_long w.words_written)
