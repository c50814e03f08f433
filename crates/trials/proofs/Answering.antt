-- Answers printed one by one.
use Rattle.std.proofs.Common.{◌≡◌, ℕ, ◌+◌, ◌<◌, ◌≤◌, List, [], ◌∷◌, ◌++◌, length, take, drop, get_or, refl, sym, ap, ◌∙◌, arith, append_assoc, append-nil, length-drop}
use Rattle.std.specs.List.{sum_by}
use Rattle.std.proofs.lemmas.List.{drop_more, drop_all}
use Rattle.std.proofs.lemmas.List.Sums.{sum_by-append}
use Rattle.calls.specs.declared.Call.{Call}
use Rattle.pages.specs.Pages.{Says}
use Rattle.pages.specs.declared.page.Page.{Page}
use Rattle.pages.proofs.Saying.{nothing, ◌>>◌, says_of_eq}
use Rattle.series.specs.Calls.{part_length, parts_length}
use Rattle.series.specs.declared.answers.Answer.{Answer}
use Rattle.trials.specs.Records.{answer_said, numbered, answers_said}

-- the answers up to this place are said, and these words are left for the others
pub record Progress (first : Page) (calls : List Call) (answers : List Answer) (words : List ℕ) (place : ℕ) (rest : List ℕ) (page : Page) : Type 0 where
  pub said : List ℕ
  pub whole : answers_said 1 calls answers words ≡ said ++ answers_said (place + 1) (drop place calls) (drop place answers) rest
  pub says : Says first said page
  pub room : parts_length (drop place calls) ≤ length rest

pub begun : (page : Page) (calls : List Call) (answers : List Answer) (words : List ℕ) → parts_length calls ≤ length words → Progress page calls answers words 0 words page
begun page calls answers words room = record { said = []; whole = refl; says = nothing page; room = room }

pub both : (call : Call) (calls : List Call) → parts_length (call ∷ calls) ≡ part_length call + parts_length calls
both call calls = omega (arith, sum_by-append part_length (call ∷ []) calls)

room_left : (call : Call) (calls : List Call) (rest : List ℕ) → parts_length (call ∷ calls) ≤ length rest → parts_length calls ≤ length (drop (part_length call) rest)
room_left call calls rest h = omega (arith, both call calls, length-drop (part_length call) rest)

first_fits : (call : Call) (calls : List Call) (rest : List ℕ) → parts_length (call ∷ calls) ≤ length rest → part_length call ≤ length rest
first_fits call calls rest h = omega (arith, both call calls)

-- one answer more
pub step :
    {first page : Page} {calls : List Call} {answers : List Answer} {words : List ℕ} {i : ℕ} {rest : List ℕ} →
    Progress first calls answers words i rest page →
    (some_call : Call) (some_answer : Answer) (next : Page) →
    i < length calls →
    i < length answers →
    Says page (numbered (i + 1) (answer_said (get_or answers i some_answer) (take (part_length (get_or calls i some_call)) rest))) next →
    Progress first calls answers words (i + 1) (drop (part_length (get_or calls i some_call)) rest) next
step {first} {page} {calls} {answers} {words} {i} {rest} h some_call some_answer next lc la s =
    let call = get_or calls i some_call in
    let answer = get_or answers i some_answer in
    let cs : drop i calls ≡ call ∷ drop (i + 1) calls = drop_more calls i some_call lc in
    let as' : drop i answers ≡ answer ∷ drop (i + 1) answers = drop_more answers i some_answer la in
    let said = numbered (i + 1) (answer_said answer (take (part_length call) rest)) in
    record {
      said = h.said ++ said;
      whole =
          h.whole
          ∙ ap (λ ls. h.said ++ answers_said (i + 1) ls (drop i answers) rest) cs
          ∙ ap (λ ls. h.said ++ answers_said (i + 1) (call ∷ drop (i + 1) calls) ls rest) as'
          ∙ sym (append_assoc h.said said (answers_said (i + 1 + 1) (drop (i + 1) calls) (drop (i + 1) answers) (drop (part_length call) rest)));
      says = h.says >> s;
      room = room_left call (drop (i + 1) calls) rest (rw cs at h.room);
    }

pub fits : {first page : Page} {calls : List Call} {answers : List Answer} {words : List ℕ} {i : ℕ} {rest : List ℕ} →
    Progress first calls answers words i rest page → (some_call : Call) → i < length calls → part_length (get_or calls i some_call) ≤ length rest
fits {calls = calls} {i = i} {rest = rest} h some_call lc =
    let cs : drop i calls ≡ get_or calls i some_call ∷ drop (i + 1) calls = drop_more calls i some_call lc in
    first_fits (get_or calls i some_call) (drop (i + 1) calls) rest (rw cs at h.room)

pub ended :
    {first page : Page} {calls : List Call} {answers : List Answer} {words : List ℕ} {i : ℕ} {rest : List ℕ} →
    Progress first calls answers words i rest page → length calls ≤ i → Says first (answers_said 1 calls answers words) page
ended {calls = calls} {answers = answers} {i = i} {rest = rest} h le =
    says_of_eq (sym (h.whole ∙ ap (λ ls. h.said ++ answers_said (i + 1) ls (drop i answers) rest) (drop_all i calls le) ∙ append-nil h.said)) h.says
