-- One call and its answer. Assumes nothing.
use Rattle.std.proofs.Common.{◌≡◌, ℕ, ◌≤◌, List, [], ◌∷◌, length, drop, replicate, Result, Ok, Err, Bor, refl, sym, ap, ◌∙◌, subst, arith}
use Rattle.std.specs.Prelude.{IfOk, OnErr, MatchResult, IsOkAnd}
use Rattle.faults.specs.declared.layers.BenchFault.{BenchFault}
use Rattle.faults.specs.declared.layers.BenchFault.TheVariants.{Text}
use Rattle.checking.specs.Checked.{policy_words}
use Rattle.weights.specs.Weights.{Ops}
use Rattle.bench.specs.Replies.{word_reply, install_reply, forward_reply}
use Rattle.steps.specs.States.{State}
use Rattle.steps.specs.Steps as bench
use Rattle.calls.specs.declared.Call.{Call}
use Rattle.calls.specs.declared.Call.TheVariants.{Compile}
use Rattle.series.specs.declared.answers.Answer.{Answer}
use Rattle.series.specs.declared.answers.Answer.TheVariants.{Word, Installed, Written, Refused}
use Rattle.series.specs.Calls.{part_length, Asks, told, Leaves}
use Rattle.series.specs.Series.{unread, asked}
use Rattle.series.specs.Turns.{answer_of, Answered}
use Rattle.bench.specs.Texts.{CompilesText, text_refused, compiled}

-- the answer that is made of what the bench gave
abbrev answer_by : {A : Type 0} → (A → Answer) → Result A BenchFault → Answer
answer_by f (Ok x) = f x
answer_by f (Err e) = Refused e

abbrev Maps : {A : Type 0} → (A → Answer) → Result A BenchFault → Result Answer BenchFault → Type 0
Maps f r q = MatchResult r (λ x. IsOkAnd q (λ a. a ≡ f x)) (λ e. q ≡ Err e)

mapped : {A : Type 0} (f : A → Answer) (r : Result A BenchFault) (q : Result Answer BenchFault) → Maps f r q → answer_of q ≡ answer_by f r
mapped f (Ok w) (Ok a) h = h
mapped f (Ok w) (Err e) h = absurd h
mapped f (Err e) q h = ap answer_of h

none_left : (was : List ℕ) → length was ≡ 0 → was ≡ replicate (length was) 0
none_left [] e = refl
none_left (x ∷ xs) e = absurd (omega (arith, e))

word_told : (r : Result ℕ BenchFault) (is : List ℕ) → word_reply r ≡ told (answer_by Word r) is
word_told (Ok w) is = refl
word_told (Err f) is = refl

word_leaves : (r : Result ℕ BenchFault) (was : List ℕ) → length was ≡ 0 → Leaves (answer_by Word r) was was
word_leaves (Ok w) was e = refl
word_leaves (Err f) was e = none_left was e

install_told : (r : Result ℕ BenchFault) (is : List ℕ) → install_reply r ≡ told (answer_by Installed r) is
install_told (Ok n) is = refl
install_told (Err f) is = refl

install_leaves : (r : Result ℕ BenchFault) (was : List ℕ) → length was ≡ 0 → Leaves (answer_by Installed r) was was
install_leaves (Ok n) was e = refl
install_leaves (Err f) was e = none_left was e

forward_told : (r : Result ℕ BenchFault) (is : List ℕ) → forward_reply r is ≡ told (answer_by Written r) is
forward_told (Ok n) is = refl
forward_told (Err f) is = refl

forward_leaves :
    (r : Result ℕ BenchFault) (was is : List ℕ) → IfOk r (λ n. (n ≤ length was) × (drop n is ≡ drop n was)) → OnErr r (is ≡ replicate (length was) 0) →
    Leaves (answer_by Written r) was is
forward_leaves (Ok n) was is past zeros = past
forward_leaves (Err f) was is past zeros = zeros

module _ (o : Ops) (answers : List Answer) (call call' : Call) (s : State) (same : call ≡ call') where
  -- what the bench was asked, its step, and the answer made of what it gave
  answered :
      {A : Type 0} (f : A → Answer) (r : Result A BenchFault) (q : Result Answer BenchFault) (was is : List ℕ) (s' : State) (c : bench.Call) (x : bench.Reply) →
      Asks answers call' (Ok c) → Maps f r q → Leaves (answer_by f r) was is → x ≡ told (answer_by f r) is → bench.Step o s c x s' →
      Answered o answers call s (answer_of q) was is s'
  answered f r q was is s' c x asks maps leaves e step =
      subst (λ (a : Answer). Answered o answers call s a was is s') (sym (mapped f r q maps))
      (record {
        asked = c ∷ [];
        replies = told (answer_by f r) is ∷ [];
        turn = asked (subst (λ (y : Call). Asks answers y (Ok c)) (sym same) asks) leaves;
        run = (s', subst (λ (y : bench.Reply). bench.Step o s c y s') e step, refl);
      })

  pub answered_word :
      (r : Result ℕ BenchFault) (q : Result Answer BenchFault) (was : List ℕ) (s' : State) (c : bench.Call) →
      length was ≡ part_length call → part_length call' ≡ 0 → Asks answers call' (Ok c) → Maps Word r q → bench.Step o s c (word_reply r) s' →
      Answered o answers call s (answer_of q) was was s'
  answered_word r q was s' c n z asks maps step = answered Word r q was was s' c (word_reply r) asks maps (word_leaves r was (n ∙ ap part_length same ∙ z)) (word_told r was) step

  pub answered_install :
      (r : Result ℕ BenchFault) (q : Result Answer BenchFault) (was : List ℕ) (s' : State) (c : bench.Call) →
      length was ≡ part_length call → part_length call' ≡ 0 → Asks answers call' (Ok c) → Maps Installed r q → bench.Step o s c (install_reply r) s' →
      Answered o answers call s (answer_of q) was was s'
  answered_install r q was s' c n z asks maps step =
      answered Installed r q was was s' c (install_reply r) asks maps (install_leaves r was (n ∙ ap part_length same ∙ z)) (install_told r was) step

  pub answered_forward :
      (r : Result ℕ BenchFault) (q : Result Answer BenchFault) (was is : List ℕ) (c : bench.Call) →
      Asks answers call' (Ok c) → Maps Written r q → bench.Step o s c (forward_reply r is) s →
      IfOk r (λ n. (n ≤ length was) × (drop n is ≡ drop n was)) → OnErr r (is ≡ replicate (length was) 0) →
      Answered o answers call s (answer_of q) was is s
  answered_forward r q was is c asks maps step past zeros = answered Written r q was is s c (forward_reply r is) asks maps (forward_leaves r was is past zeros) (forward_told r is) step

pub answered_text :
    (o : Ops) (answers : List Answer) (call : Call) (text : Bor (List ℕ)) (s : State) (r : Result ℕ BenchFault) (q : Result Answer BenchFault) (was : List ℕ) (s' : State) →
    call ≡ Compile text → length was ≡ part_length call → Maps Word r q → CompilesText o text.now s r s' →
    Answered o answers call s (answer_of q) was was s'
answered_text o answers call text s _ q was _ same n maps (text_refused {f} is judged) =
    let told_so = mapped {A = ℕ} Word (Err (Text f)) q maps in
    record {
      asked = [];
      replies = [];
      turn =
          unread (subst (λ (y : Call). Asks answers y (Err f)) (sym same) (Err f, record { words = is; judged = judged }, refl)) told_so
          (subst (λ (a : Answer). Leaves a was was) (sym told_so) (none_left was (n ∙ ap part_length same)));
      run = refl;
    }
answered_text o answers call text s r q was s' same n maps (compiled {p = policy} is judged step) =
    answered_word o answers call (Compile text) s same r q was s' (bench.Compile (policy_words policy)) n refl (Ok policy, record { words = is; judged = judged }, refl) maps step
