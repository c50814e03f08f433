-- Words that are read and written one by one.
use Rattle.std.proofs.Common.{◌≡◌, ℕ, ◌+◌, ◌<◌, ◌≤◌, List, [], ◌∷◌, ◌++◌, length, take, set, Some, None, Option, option_map, refl, sym, ap, ◌∙◌, arith, append_assoc, append-nil}
use Rattle.std.proofs.lemmas.List.{take_more_set, length_push}
use Rattle.std.proofs.lemmas.Option.{same_Some}
use Rattle.scripts.specs.Numbers.{word_said}
use Rattle.scripts.specs.Forwards.{words_said}
use Rattle.scripts.specs.Words.{words}

-- some words of a text are read, and stand in memory where it has room
pub record WordsRead (text rest out : List ℕ) (count : ℕ) : Type 0 where
  pub done : List ℕ
  pub read : words_said (words text) ≡ option_map (λ more. done ++ more) (words_said (words rest))
  pub counted : length done ≡ count
  pub written : count ≤ length out → take count out ≡ done
  pub left : count + length rest ≤ length text

none_done : (o : Option (List ℕ)) → o ≡ option_map (λ more. [] ++ more) o
none_done None = refl
none_done (Some ws) = refl

pub begun : (text out : List ℕ) → WordsRead text text out 0
begun text out = record { done = []; read = none_done (words_said (words text)); counted = refl; written = λ _. refl; left = omega arith }

-- where the next word is none
pub failed : {text rest out : List ℕ} {count : ℕ} → WordsRead text rest out count → (said behind : List ℕ) → words rest ≡ said ∷ words behind → word_said said ≡ None → words_said (words text) ≡ None
failed h said behind e n = h.read ∙ rw (e, n) refl

one_more : (done : List ℕ) (bits : ℕ) (o : Option (List ℕ)) → option_map (λ more. done ++ more) (option_map (λ more. bits ∷ more) o) ≡ option_map (λ more. (done ++ bits ∷ []) ++ more) o
one_more done bits None = refl
one_more done bits (Some ws) = ap Some (sym (append_assoc done (bits ∷ []) ws))

pub read_more : {text rest out : List ℕ} {count : ℕ} → (h : WordsRead text rest out count) → (said behind : List ℕ) (bits : ℕ) → words rest ≡ said ∷ words behind → word_said said ≡ Some bits →
    words_said (words text) ≡ option_map (λ more. (h.done ++ bits ∷ []) ++ more) (words_said (words behind))
read_more h said behind bits e n = h.read ∙ rw (e, n) (one_more h.done bits (words_said (words behind)))

-- the next word, with its place in memory
pub stored : {text rest out : List ℕ} {count : ℕ} → WordsRead text rest out count → (said behind : List ℕ) (bits : ℕ) → words rest ≡ said ∷ words behind → word_said said ≡ Some bits →
    0 < length said → length said + length behind ≤ length rest → count < length out → WordsRead text behind (set out count bits) (count + 1)
stored {text} {rest} {out} {count} h said behind bits e n some' shorter room = record {
  done = h.done ++ bits ∷ [];
  read = read_more h said behind bits e n;
  counted = omega (arith, length_push h.done bits, h.counted);
  written = λ _. take_more_set out count bits room ∙ ap (λ ws. ws ++ bits ∷ []) (h.written (omega arith));
  left = omega (arith, h.left);
}

-- the next word, for which there is no room
pub passed : {text rest out : List ℕ} {count : ℕ} → WordsRead text rest out count → (said behind : List ℕ) (bits : ℕ) → words rest ≡ said ∷ words behind → word_said said ≡ Some bits →
    0 < length said → length said + length behind ≤ length rest → length out ≤ count → WordsRead text behind out (count + 1)
passed {text} {rest} {out} {count} h said behind bits e n some' shorter room = record {
  done = h.done ++ bits ∷ [];
  read = read_more h said behind bits e n;
  counted = omega (arith, length_push h.done bits, h.counted);
  written = λ le. absurd (omega arith);
  left = omega (arith, h.left);
}

pub ended : {text rest out : List ℕ} {count : ℕ} → (h : WordsRead text rest out count) → words rest ≡ [] → words_said (words text) ≡ Some h.done
ended h e = h.read ∙ rw e (ap Some (append-nil h.done))

-- what stands in memory then
pub memory : {text rest out : List ℕ} {count : ℕ} → (h : WordsRead text rest out count) → words rest ≡ [] → (ws : List ℕ) → words_said (words text) ≡ Some ws → length ws ≤ length out → take (length ws) out ≡ ws
memory {text} {rest} {out} {count} h e ws f l =
    let same : h.done ≡ ws = same_Some h.done ws (sym (ended h e) ∙ f) in
    let n : count ≡ length ws = sym h.counted ∙ ap length same in
    ap (λ k. take k out) (sym n) ∙ h.written (omega arith) ∙ same
