-- The words of a policy, one after the other.
use Rattle.std.proofs.Common.{◌≡◌, ℕ, zero, suc, ◌<◌, List, [], ◌∷◌, ◌++◌, drop, sym, refl, ap, ap₂, ◌∙◌, subst, subst₂, append_assoc, arith}
use Rattle.weights.specs.Weights.{Ops, Laws}
use Rattle.format.specs.Words.{word, kind_of, field_of, value_of, value_end}
use Rattle.format.specs.Policy.{Policy, postfix, Legal}
use Rattle.format.specs.Policy.Policy.{Drop, Pass, Test, Set, Cost, Not, Union, Sequence, Star}
use Rattle.format.specs.PolicyWords.{bits_of, LegalWord}
use Rattle.format.specs.declared.settings.PolicyWord.{PolicyWord}
use Rattle.checking.specs.Waiting.{operands}
use Rattle.meaning.specs.Leaves.{Each}
use Rattle.meaning.specs.Diagrams.{Diagram as MDiagram, Formed}
use Rattle.meaning.proofs.Compiling.{compiled, named_in_either, uses_first}
use Rattle.meaning.proofs.Joining.{joined}
use Rattle.meaning.proofs.Sequencing.{sequenced}
use Rattle.meaning.proofs.Starring.{round_good}
use Rattle.requests.specs.Requests.{Request}
use Rattle.requests.specs.Rules.{Compiled, compiled_not, compiled_union, compiled_sequence, compiled_star}
use Rattle.requests.specs.Claims.{Construction, AtMostOne}
use Rattle.requests.proofs.Claims.{rules_agree, compile_answers, negate_gives, join_gives, sequence_gives, star_answers}
use Rattle.requests.proofs.Compiled.{negate_formed}
use Rattle.engine.specs.Words.{by_kind, by_bits, by_word, taken, Runs}

parts : (k f n : ℕ) → f < 16 → n < value_end → (kind_of (word k f n) ≡ k) × (field_of (word k f n) ≡ f) × (value_of (word k f n) ≡ n)
parts k f n a b = (omega arith, omega arith, omega arith)

words_flat : (a b c d : List ℕ) → (a ++ (b ++ c)) ++ d ≡ a ++ (b ++ (c ++ d))
words_flat a b c d = append_assoc a (b ++ c) d ∙ ap (λ (x : List ℕ). a ++ x) (append_assoc b c d)

asks_flat : (a b c d : List Request) → (a ++ (b ++ c)) ++ d ≡ a ++ (b ++ (c ++ d))
asks_flat a b c d = append_assoc a (b ++ c) d ∙ ap (λ (x : List Request). a ++ x) (append_assoc b c d)

module _ (o : Ops) where
  by_parts : (k f n : ℕ) → f < 16 → n < value_end → (ds : List MDiagram) → ◌≡◌ {A = Construction} (by_bits o (word k f n) ds) (by_kind o k f n ds)
  by_parts k f n a b ds = let e = parts k f n a b in λ i. by_kind o (e.0 i) (e.1 i) (e.2 i) ds

  -- the bits of a word say what it does
  pub word_bits : (w : PolicyWord) (ds : List MDiagram) → ◌≡◌ {A = Construction} (by_bits o (bits_of w) ds) (by_word o w ds)
  word_bits PolicyWord.Drop ds = refl
  word_bits PolicyWord.Pass ds = refl
  word_bits (PolicyWord.Test s) ds = let a = s.exists in let b = s.legal in by_parts 2 s.field s.value (omega arith) (omega arith) ds
  word_bits (PolicyWord.Set s) ds = let a = s.exists in let b = s.legal in by_parts 3 s.field s.value (omega arith) (omega arith) ds
  word_bits (PolicyWord.Cost n) ds = let a = n.fits in by_parts 4 0 n.number (omega arith) (omega arith) ds
  word_bits PolicyWord.Not [] = refl
  word_bits PolicyWord.Not (d ∷ ds) = refl
  word_bits PolicyWord.Union [] = refl
  word_bits PolicyWord.Union (e ∷ []) = refl
  word_bits PolicyWord.Union (e ∷ (d ∷ ds)) = refl
  word_bits PolicyWord.Sequence [] = refl
  word_bits PolicyWord.Sequence (e ∷ []) = refl
  word_bits PolicyWord.Sequence (e ∷ (d ∷ ds)) = refl
  word_bits PolicyWord.Star [] = refl
  word_bits PolicyWord.Star (d ∷ ds) = refl

  by_kind_once : (k f n : ℕ) (ds : List MDiagram) → AtMostOne (by_kind o k f n ds)
  by_kind_once zero f n ds = (rules_agree o).compile_once Drop
  by_kind_once (suc zero) f n ds = (rules_agree o).compile_once Pass
  by_kind_once (suc (suc zero)) f n ds = (rules_agree o).compile_once (Test f n)
  by_kind_once (suc (suc (suc zero))) f n ds = (rules_agree o).compile_once (Set f n)
  by_kind_once (suc (suc (suc (suc zero)))) f n ds = (rules_agree o).compile_once (Cost n)
  by_kind_once (suc (suc (suc (suc (suc zero))))) f n [] = λ r s a b p q. absurd p
  by_kind_once (suc (suc (suc (suc (suc zero))))) f n (d ∷ ds) = (rules_agree o).negate_once d
  by_kind_once (suc (suc (suc (suc (suc (suc zero)))))) f n [] = λ r s a b p q. absurd p
  by_kind_once (suc (suc (suc (suc (suc (suc zero)))))) f n (e ∷ []) = λ r s a b p q. absurd p
  by_kind_once (suc (suc (suc (suc (suc (suc zero)))))) f n (e ∷ (d ∷ ds)) = (rules_agree o).join_once d e
  by_kind_once (suc (suc (suc (suc (suc (suc (suc zero))))))) f n [] = λ r s a b p q. absurd p
  by_kind_once (suc (suc (suc (suc (suc (suc (suc zero))))))) f n (e ∷ []) = λ r s a b p q. absurd p
  by_kind_once (suc (suc (suc (suc (suc (suc (suc zero))))))) f n (e ∷ (d ∷ ds)) = (rules_agree o).sequence_once d e
  by_kind_once (suc (suc (suc (suc (suc (suc (suc (suc zero)))))))) f n [] = λ r s a b p q. absurd p
  by_kind_once (suc (suc (suc (suc (suc (suc (suc (suc zero)))))))) f n (d ∷ ds) = (rules_agree o).star_once d
  by_kind_once (suc (suc (suc (suc (suc (suc (suc (suc (suc k))))))))) f n ds = λ r s a b p q. absurd p

  pub by_bits_once : (b : ℕ) (ds : List MDiagram) → AtMostOne (by_bits o b ds)
  by_bits_once b ds = by_kind_once (kind_of b) (field_of b) (value_of b) ds

  abbrev first_of : List MDiagram → MDiagram → MDiagram
  first_of [] d = d
  first_of (e ∷ ds) d = e

  pub runs_once : (ws : List ℕ) (ds : List MDiagram) → AtMostOne (Runs o ws ds)
  runs_once [] ds r s a b p q = (ap (λ (l : List MDiagram). first_of l r) (sym p.0 ∙ q.0), p.1 ∙ sym q.1)
  runs_once (w ∷ ws) ds r s a b p q =
      let U = by_bits_once w ds p.between q.between p.asks q.asks p.first q.first in
      let V = runs_once ws (q.between ∷ drop (taken (kind_of w)) ds) r s p.more q.more (subst (λ (d : MDiagram). Runs o ws (d ∷ drop (taken (kind_of w)) ds) r p.more) U.0 p.second) q.second in
      (V.0, p.whole ∙ (ap₂ {C = List Request} (λ (x y : List Request). x ++ y) U.1 V.1 ∙ sym q.whole))

  -- a word before other words
  word_run : (k f n : ℕ) → f < 16 → n < value_end → (ws : List ℕ) (ds : List MDiagram) (d r : MDiagram) (a x : List Request) → by_kind o k f n ds d a → Runs o ws (d ∷ drop (taken k) ds) r x → Runs o (word k f n ∷ ws) ds r (a ++ x)
  word_run k f n h h' ws ds d r a x p q =
      record {
        between = d;
        asks = a;
        more = x;
        first = subst (λ (R : Construction). R d a) (sym (by_parts k f n h h' ds)) p;
        second = subst (λ (j : ℕ). Runs o ws (d ∷ drop (taken j) ds) r x) (sym (parts k f n h h').0) q;
        whole = refl;
      }

  small : 0 < 16
  small = omega arith

  small_value : 0 < value_end
  small_value = omega arith

  -- the words of a policy before other words leave its diagram
  pub policy_run : (p : Policy) → Legal p → (ws : List ℕ) (ds : List MDiagram) {d : MDiagram} {a : List Request} (r : MDiagram) (x : List Request) → Compiled o p d a → Runs o ws (d ∷ ds) r x → Runs o (postfix p ++ ws) ds r (a ++ x)
  policy_run Drop l ws ds r x c q = word_run 0 0 0 small small_value ws ds _ r _ x c q
  policy_run Pass l ws ds r x c q = word_run 1 0 0 small small_value ws ds _ r _ x c q
  policy_run (Test f n) l ws ds r x c q = word_run 2 f n (omega arith) (omega arith) ws ds _ r _ x c q
  policy_run (Set f n) l ws ds r x c q = word_run 3 f n (omega arith) (omega arith) ws ds _ r _ x c q
  policy_run (Cost n) l ws ds r x c q = word_run 4 0 n small (omega arith) ws ds _ r _ x c q
  policy_run (Not p) l ws ds r x (compiled_not {a = a} {b = b} c m) q =
      subst₂ (λ (v : List ℕ) (y : List Request). Runs o v ds r y) (sym (append_assoc (postfix p) (word 5 0 0 ∷ []) ws)) (sym (append_assoc a b x))
      (policy_run p l.1 (word 5 0 0 ∷ ws) ds r (b ++ x) c (word_run 5 0 0 small small_value ws (_ ∷ ds) _ r b x m q))
  policy_run (Star p) l ws ds r x (compiled_star {a = a} {b = b} c m) q =
      subst₂ (λ (v : List ℕ) (y : List Request). Runs o v ds r y) (sym (append_assoc (postfix p) (word 8 0 0 ∷ []) ws)) (sym (append_assoc a b x))
      (policy_run p l (word 8 0 0 ∷ ws) ds r (b ++ x) c (word_run 8 0 0 small small_value ws (_ ∷ ds) _ r b x m q))
  policy_run (Union p q) l ws ds r x (compiled_union {d = d} {e = e} {a = a} {b = b} {c = g} c c' m) h =
      subst₂ (λ (v : List ℕ) (y : List Request). Runs o v ds r y) (sym (words_flat (postfix p) (postfix q) (word 6 0 0 ∷ []) ws)) (sym (asks_flat a b g x))
      (policy_run p l.0 (postfix q ++ (word 6 0 0 ∷ ws)) ds r (b ++ (g ++ x)) c (policy_run q l.1 (word 6 0 0 ∷ ws) (d ∷ ds) r (g ++ x) c' (word_run 6 0 0 small small_value ws (e ∷ (d ∷ ds)) _ r g x m h)))
  policy_run (Sequence p q) l ws ds r x (compiled_sequence {d = d} {e = e} {a = a} {b = b} {c = g} c c' m) h =
      subst₂ (λ (v : List ℕ) (y : List Request). Runs o v ds r y) (sym (words_flat (postfix p) (postfix q) (word 7 0 0 ∷ []) ws)) (sym (asks_flat a b g x))
      (policy_run p l.0 (postfix q ++ (word 7 0 0 ∷ ws)) ds r (b ++ (g ++ x)) c (policy_run q l.1 (word 7 0 0 ∷ ws) (d ∷ ds) r (g ++ x) c' (word_run 7 0 0 small small_value ws (e ∷ (d ∷ ds)) _ r g x m h)))

taken_bits : (k f n : ℕ) → f < 16 → n < value_end → taken (kind_of (word k f n)) ≡ taken k
taken_bits k f n a b = ap taken (parts k f n a b).0

pub taken_is : (w : PolicyWord) → taken (kind_of (bits_of w)) ≡ operands w
taken_is PolicyWord.Drop = refl
taken_is PolicyWord.Pass = refl
taken_is (PolicyWord.Test s) = let a = s.exists in let b = s.legal in taken_bits 2 s.field s.value (omega arith) (omega arith)
taken_is (PolicyWord.Set s) = let a = s.exists in let b = s.legal in taken_bits 3 s.field s.value (omega arith) (omega arith)
taken_is (PolicyWord.Cost n) = let a = n.fits in taken_bits 4 0 n.number (omega arith) (omega arith)
taken_is PolicyWord.Not = refl
taken_is PolicyWord.Union = refl
taken_is PolicyWord.Sequence = refl
taken_is PolicyWord.Star = refl

module _ {o : Ops} (L : Laws o) where
  -- a legal policy's diagram is well-formed
  pub compiled_formed : (p : Policy) → Legal p → {r : MDiagram} {x : List Request} → Compiled o p r x → Formed o r
  compiled_formed p l {r} {x} c =
      let A = compile_answers o L p l in
      subst (Formed o) (sym (A.2.nothing_else r x c).0) (compiled (named_in_either p p) L p A.0 A.1 l (uses_first p p)).formed

  -- and so is what a word makes of well-formed operands
  pub by_word_formed : (w : PolicyWord) → LegalWord w → (ds : List MDiagram) → Each (Formed o) ds → (r : MDiagram) (x : List Request) → by_word o w ds r x → Formed o r
  by_word_formed PolicyWord.Drop l ds h r x c = compiled_formed Drop tt c
  by_word_formed PolicyWord.Pass l ds h r x c = compiled_formed Pass tt c
  by_word_formed (PolicyWord.Test s) l ds h r x c = compiled_formed (Test s.field s.value) (s.exists, s.legal) c
  by_word_formed (PolicyWord.Set s) l ds h r x c = compiled_formed (Set s.field s.value) (s.exists, s.legal) c
  by_word_formed (PolicyWord.Cost n) l ds h r x c = compiled_formed (Cost n.number) l c
  by_word_formed PolicyWord.Not l [] h r x c = absurd c
  by_word_formed PolicyWord.Not l (d ∷ ds) h r x c = subst (Formed o) (sym ((negate_gives o L d h.0).nothing_else r x c).0) (negate_formed L d h.0)
  by_word_formed PolicyWord.Union l [] h r x c = absurd c
  by_word_formed PolicyWord.Union l (e ∷ []) h r x c = absurd c
  by_word_formed PolicyWord.Union l (e ∷ (d ∷ ds)) h r x c = subst (Formed o) (sym ((join_gives o L d e h.1.0 h.0).nothing_else r x c).0) (joined L d e h.1.0 h.0).formed
  by_word_formed PolicyWord.Sequence l [] h r x c = absurd c
  by_word_formed PolicyWord.Sequence l (e ∷ []) h r x c = absurd c
  by_word_formed PolicyWord.Sequence l (e ∷ (d ∷ ds)) h r x c = subst (Formed o) (sym ((sequence_gives o L d e h.1.0 h.0).nothing_else r x c).0) (sequenced L e h.0 d h.1.0).formed
  by_word_formed PolicyWord.Star l [] h r x c = absurd c
  by_word_formed PolicyWord.Star l (d ∷ ds) h r x c =
      let A = star_answers o L d h.0 in
      subst (Formed o) (sym (A.1.nothing_else r x c).0) (round_good L d h.0 A.0)
