-- A text has one verdict, whatever memory it is read into.
use Rattle.std.proofs.Common.{◌≡◌, ℕ, List, [], length, take, MatchResult, Ok, Err, Result, sym, refl, ap, ◌∙◌, subst, arith}
use Rattle.std.proofs.lemmas.List.{drop_all, take_all}
use Rattle.faults.specs.declared.layers.CompileFault.{CompileFault}
use Rattle.faults.specs.declared.layers.CompileFault.TheVariants.{Text, Check}
use Rattle.faults.specs.declared.layers.GrammarFault.{GrammarFault}
use Rattle.format.specs.Limits.{words_limit}
use Rattle.grammar.specs.Reading.{Written, room_in}
use Rattle.grammar.proofs.Determined.{one_result}
use Rattle.checking.specs.Checked.{policy_words}
use Rattle.checking.specs.Checking.{LegalWords, Refused}
use Rattle.checking.specs.declared.checked.CheckedPolicy.{CheckedPolicy}
use Rattle.checking.proofs.Determinism.{determined}
use Rattle.policy.specs.Reading.{Rejected}
use Rattle.policy.specs.Texts.{Judged}
use Rattle.policy.specs.Verdicts.{Reads, NoPolicy, no_sentence, not_legal}
use Rattle.policy.proofs.OneAnswer.{not_rejected, one_rejection}

alone : (text : List ℕ) (room n : ℕ) (was is ws : List ℕ) → Written text room n was is → ws ≡ take n is → Written text room (length ws) [] ws
alone text room n was is ws w e =
    let words : ws ≡ _ = e ∙ w.words in
    record {
      symbols = w.symbols;
      bytes = w.bytes;
      lexed = w.lexed;
      ended = w.ended;
      accepted = w.accepted;
      tree = w.tree;
      sentence = w.sentence;
      unique = w.unique;
      count = ap length words;
      words = take_all (length ws) ws (omega arith) ∙ words;
      past = drop_all (length ws) ws (omega arith) ∙ sym (drop_all (length ws) [] (omega arith));
    }

module _ (text was is : List ℕ) (full : length was ≡ words_limit) where
  at_limit : (n : ℕ) (is ws : List ℕ) → Written text (room_in (length was)) n was is → ws ≡ take n is → Written text words_limit (length ws) [] ws
  at_limit n is ws w e = alone text words_limit n was is ws (subst (λ (k : ℕ). Written text (room_in k) n was is) full w) e

  rejected : (f : GrammarFault) → Rejected text (room_in (length was)) f → Rejected text words_limit f
  rejected f r = subst (λ (k : ℕ). Rejected text (room_in k) f) full r

  pub verdict : (r : Result CheckedPolicy CompileFault) → Judged text r was is → MatchResult r (λ c. Reads text (policy_words c) × LegalWords (policy_words c)) (λ f. NoPolicy text f)
  verdict (Ok c) j = (record { short = j.short; written = at_limit (length (policy_words c)) is (policy_words c) j.written j.words }, j.legal)
  verdict (Err (Text f)) j = no_sentence (rejected f j.0)
  verdict (Err (Check f)) j = not_legal (record { short = j.0.short; written = at_limit j.0.count j.0.memory (take j.0.count j.0.memory) j.0.written refl }) j.0.refused

pub one_reading : {text ws vs : List ℕ} → Reads text ws → Reads text vs → ws ≡ vs
one_reading r q = (one_result r.written q.written).1

pub read_or_not : {text ws : List ℕ} {f : CompileFault} → Reads text ws → LegalWords ws → NoPolicy text f → ⊥
read_or_not r a (no_sentence x) = not_rejected r.short r.written x
read_or_not {ws = ws} r a (not_legal {f = f} q x) =
    (determined ws).not_both f a (subst (λ (us : List ℕ). Refused us f) (one_reading q r) x)

pub one_fault : {text : List ℕ} {f g : CompileFault} → NoPolicy text f → NoPolicy text g → f ≡ g
one_fault (no_sentence x) (no_sentence y) = ap {B = CompileFault} Text (one_rejection x y)
one_fault (no_sentence x) (not_legal q y) = absurd (not_rejected q.short q.written x)
one_fault (not_legal r x) (no_sentence y) = absurd (not_rejected r.short r.written y)
one_fault (not_legal {words = ws} {f = f} r x) (not_legal {f = g} q y) =
    ap {B = CompileFault} Check ((determined ws).one_fault f g x (subst (λ (us : List ℕ). Refused us g) (one_reading q r) y))
