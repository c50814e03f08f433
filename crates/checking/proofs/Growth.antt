-- One word more: what it makes of the waiting operands.
use Rattle.std.proofs.Common.{◌≡◌, ℕ, ◌+◌, ◌<◌, ◌≤◌, List, [], ◌∷◌, ◌++◌, length, get_or, sym, refl, ap, ◌∙◌, subst, ap₂, arith}
use Rattle.std.proofs.lemmas.List.{length-append}
use Rattle.format.specs.Words.{word, kind_of, value_end}
use Rattle.format.specs.Policy.{Policy, Predicate, Legal}
use Rattle.format.specs.PolicyWords.{bits_of, LegalWord}
use Rattle.format.specs.declared.settings.PolicyWord.{PolicyWord}
use Rattle.checking.specs.Waiting.{AllLegal, Waits, operands}
use Rattle.checking.proofs.Operands.{Grows, waits_before, waits_unique, after, after_root, kids, root, spelled_root}

rest_legal : (ts ps : List Policy) → AllLegal (ts ++ ps) → AllLegal ps
rest_legal [] ps l = l
rest_legal (t ∷ ts) ps l = rest_legal ts ps l.1

pub grows_waits : (ws : List ℕ) (w : ℕ) (ps qs : List Policy) → Waits ws ps → Grows w ps qs → Waits (ws ++ (w ∷ [])) qs
grows_waits ws w ps qs a g =
    let before = rw g.took at a in
    rw g.left (record {
      legal = (g.legal, rest_legal (kids g.tree) g.rest before.legal);
      words = spelled_root g.tree g.rest ∙ cc (before.words, g.root);
    })

-- operands wait after one word more only as that word makes them
pub waits_grows : (ws : List ℕ) (w : ℕ) (ps qs : List Policy) → Waits ws ps → Waits (ws ++ (w ∷ [])) qs → Grows w ps qs
waits_grows ws w ps qs a b =
    let d = waits_before ws w qs b in
    let P : List Policy → Type 0 = λ us. Grows w us qs in subst P (waits_unique ws d.0 ps d.1 a) d.2

-- how many operands a word takes, by its kind
abbrev arity : ℕ → ℕ
arity k = get_or (0 ∷ 0 ∷ 0 ∷ 0 ∷ 0 ∷ 1 ∷ 2 ∷ 2 ∷ 1 ∷ []) k 0

kind_told : (k f n : ℕ) → f < 16 → n < value_end → arity k ≡ arity (kind_of (word k f n))
kind_told k f n a b = ap arity (omega arith)

pub operands_by_kind : (w : PolicyWord) → operands w ≡ arity (kind_of (bits_of w))
operands_by_kind PolicyWord.Drop = refl
operands_by_kind PolicyWord.Pass = refl
operands_by_kind (PolicyWord.Test s) = let a = s.exists in let b = s.legal in kind_told 2 s.field s.value (omega arith) (omega arith)
operands_by_kind (PolicyWord.Set s) = let a = s.exists in let b = s.legal in kind_told 3 s.field s.value (omega arith) (omega arith)
operands_by_kind (PolicyWord.Cost n) = let a = n.fits in kind_told 4 0 n.number (omega arith) (omega arith)
operands_by_kind PolicyWord.Not = refl
operands_by_kind PolicyWord.Union = refl
operands_by_kind PolicyWord.Sequence = refl
operands_by_kind PolicyWord.Star = refl

-- words of the same bits take as many operands
pub same_operands : (v w : PolicyWord) → bits_of v ≡ bits_of w → operands v ≡ operands w
same_operands v w e = operands_by_kind v ∙ ap (λ b. arity (kind_of b)) e ∙ sym (operands_by_kind w)

-- a legal policy's last word is a legal policy word, which takes the policy's parts
pub root_word : (p : Policy) → Legal p → (w : PolicyWord) × LegalWord w × (bits_of w ≡ root p) × (operands w ≡ length (kids p))
root_word Policy.Drop l = (PolicyWord.Drop, tt, refl, refl)
root_word Policy.Pass l = (PolicyWord.Pass, tt, refl, refl)
root_word (Policy.Test f n) l =
    (PolicyWord.Test (record { field = f; value = n; exists = l.0; legal = l.1 }), tt, refl, refl)
root_word (Policy.Set f n) l =
    (PolicyWord.Set (record { field = f; value = n; exists = l.0; legal = l.1 }), tt, refl, refl)
root_word (Policy.Cost n) l = (PolicyWord.Cost (record { number = n; fits = omega arith }), l, refl, refl)
root_word (Policy.Not p) l = (PolicyWord.Not, tt, refl, refl)
root_word (Policy.Union p q) l = (PolicyWord.Union, tt, refl, refl)
root_word (Policy.Sequence p q) l = (PolicyWord.Sequence, tt, refl, refl)
root_word (Policy.Star p) l = (PolicyWord.Star, tt, refl, refl)

-- a word takes its operands and leaves one
pub grows_count : (w : PolicyWord) (ps qs : List Policy) → Grows (bits_of w) ps qs → length qs + operands w ≡ length ps + 1
grows_count w ps qs g =
    let r = root_word g.tree g.legal in
    let takes : operands w ≡ length (kids g.tree) = same_operands w r.0 (sym (r.2 ∙ g.root)) ∙ r.3 in
    omega (arith, ap length g.left, ap length g.took, length-append (kids g.tree) g.rest)

pub grows_enough : (w : PolicyWord) (ps qs : List Policy) → Grows (bits_of w) ps qs → operands w ≤ length ps
grows_enough w ps qs g = omega (arith, grows_count w ps qs g, ap length g.left)

-- what is negated is a predicate
pub grows_not : (p : Policy) (ps qs : List Policy) → Grows (bits_of PolicyWord.Not) (p ∷ ps) qs → Predicate p
grows_not p ps qs g =
    let same : g.tree ∷ g.rest ≡ Policy.Not p ∷ ps =
    sym (after_root g.tree g.legal g.rest) ∙ ap₂ after g.root (sym g.took) in
    let negation : g.tree ≡ Policy.Not p = cc in
    (subst Legal negation g.legal).0
