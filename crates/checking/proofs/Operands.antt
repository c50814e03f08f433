-- The operands that wait after some words: there is at most one such list, and a word changes it in one way.
use Rattle.std.proofs.Common.{◌≡◌, ℕ, zero, suc, ◌<◌, ◌≤◌, List, [], ◌∷◌, ◌++◌, length, get_or, take, drop, sym, refl, ap, ◌∙◌, ap₂, append_assoc, arith}
use Rattle.std.proofs.lemmas.List.{append-nil, length_push, same_from_push, take-append-drop, take-take}
use Rattle.format.specs.Words.{word, kind_of, field_of, value_of, value_end}
use Rattle.format.specs.Policy.{Policy, postfix, Legal}
use Rattle.format.specs.Policy.Policy.{Drop, Pass, Test, Set, Cost, Not, Union, Sequence, Star}
use Rattle.checking.specs.Waiting.{spelled, AllLegal, Waits, Viable}

-- the operands of a policy's last word, the last one first
abbrev pub kids : Policy → List Policy
kids Drop = []
kids Pass = []
kids (Test f n) = []
kids (Set f n) = []
kids (Cost n) = []
kids (Not p) = p ∷ []
kids (Union p q) = q ∷ p ∷ []
kids (Sequence p q) = q ∷ p ∷ []
kids (Star p) = p ∷ []

-- a policy's last word
abbrev pub root : Policy → ℕ
root Drop = word 0 0 0
root Pass = word 1 0 0
root (Test f n) = word 2 f n
root (Set f n) = word 3 f n
root (Cost n) = word 4 0 n
root (Not p) = word 5 0 0
root (Union p q) = word 6 0 0
root (Sequence p q) = word 7 0 0
root (Star p) = word 8 0 0

regroup : (a b c d : List ℕ) → a ++ (b ++ (c ++ d)) ≡ ((a ++ b) ++ c) ++ d
regroup a b c d = simp append_assoc

pub spelled_root : (p : Policy) (ps : List Policy) → spelled (p ∷ ps) ≡ spelled (kids p ++ ps) ++ (root p ∷ [])
spelled_root Drop ps = refl
spelled_root Pass ps = refl
spelled_root (Test f n) ps = refl
spelled_root (Set f n) ps = refl
spelled_root (Cost n) ps = refl
spelled_root (Not p) ps = sym (append_assoc (spelled ps) (postfix p) (word 5 0 0 ∷ []))
spelled_root (Union p q) ps = regroup (spelled ps) (postfix p) (postfix q) (word 6 0 0 ∷ [])
spelled_root (Sequence p q) ps = regroup (spelled ps) (postfix p) (postfix q) (word 7 0 0 ∷ [])
spelled_root (Star p) ps = sym (append_assoc (spelled ps) (postfix p) (word 8 0 0 ∷ []))

pub kids_legal : (p : Policy) (ps : List Policy) → AllLegal (p ∷ ps) → AllLegal (kids p ++ ps)
kids_legal Drop ps l = l.1
kids_legal Pass ps l = l.1
kids_legal (Test f n) ps l = l.1
kids_legal (Set f n) ps l = l.1
kids_legal (Cost n) ps l = l.1
kids_legal (Not p) ps l = (l.0.1, l.1)
kids_legal (Union p q) ps l = (l.0.1, (l.0.0, l.1))
kids_legal (Sequence p q) ps l = (l.0.1, (l.0.0, l.1))
kids_legal (Star p) ps l = l

-- one operand, or two, joined by an operator
abbrev one : (Policy → Policy) → List Policy → List Policy
one f [] = []
one f (p ∷ ps) = f p ∷ ps

abbrev two : (Policy → Policy → Policy) → List Policy → List Policy
two f [] = []
two f (q ∷ []) = []
two f (q ∷ (p ∷ ps)) = f p q ∷ ps

-- what a word of this field and value makes of the operands that wait, by its kind
abbrev pub makes : ℕ → ℕ → List (List Policy → List Policy)
makes f n =
    (λ ps. Drop ∷ ps) ∷ (λ ps. Pass ∷ ps) ∷ (λ ps. Test f n ∷ ps) ∷ (λ ps. Set f n ∷ ps) ∷ (λ ps. Cost n ∷ ps)
    ∷ one Not ∷ two Union ∷ two Sequence ∷ one Star ∷ []

abbrev pub joined : ℕ → ℕ → ℕ → List Policy → List Policy
joined k f n = get_or (makes f n) k (λ ps. ps)

abbrev pub after : ℕ → List Policy → List Policy
after w ps = joined (kind_of w) (field_of w) (value_of w) ps

parts : (k f n : ℕ) → f < 16 → n < value_end → (kind_of (word k f n) ≡ k) × (field_of (word k f n) ≡ f) × (value_of (word k f n) ≡ n)
parts k f n a b = (omega arith, omega arith, omega arith)

pub after_parts : (k f n : ℕ) → f < 16 → n < value_end → (ps : List Policy) → after (word k f n) ps ≡ joined k f n ps
after_parts k f n a b ps =
    let e = parts k f n a b in
    ap (λ (x : ℕ). joined x (field_of (word k f n)) (value_of (word k f n)) ps) e.0
    ∙ ap (λ (x : ℕ). joined k x (value_of (word k f n)) ps) e.1 ∙ ap (λ (x : ℕ). joined k f x ps) e.2

pub after_root : (p : Policy) → Legal p → (ps : List Policy) → after (root p) (kids p ++ ps) ≡ p ∷ ps
after_root Drop l ps = refl
after_root Pass l ps = refl
after_root (Test f n) l ps = after_parts 2 f n (omega arith) (omega arith) ps
after_root (Set f n) l ps = after_parts 3 f n (omega arith) (omega arith) ps
after_root (Cost n) l ps = after_parts 4 0 n (omega arith) (omega arith) ps
after_root (Not p) l ps = refl
after_root (Union p q) l ps = refl
after_root (Sequence p q) l ps = refl
after_root (Star p) l ps = refl

-- words end in the last word of what waits
pub not_empty : (ws : List ℕ) (w : ℕ) → [] ≡ ws ++ (w ∷ []) → ⊥
not_empty ws w e = omega (arith, ap length e, length_push ws w)

pub waits_same : (n : ℕ) (ps qs : List Policy) → length (spelled ps) ≤ n → AllLegal ps → AllLegal qs → spelled ps ≡ spelled qs → ps ≡ qs
waits_same n [] [] h l m e = refl
waits_same n [] (q ∷ qs) h l m e = absurd (not_empty (spelled (kids q ++ qs)) (root q) (e ∙ spelled_root q qs))
waits_same n (p ∷ ps) [] h l m e = absurd (not_empty (spelled (kids p ++ ps)) (root p) (sym e ∙ spelled_root p ps))
waits_same zero (p ∷ ps) (q ∷ qs) h l m e =
    absurd (omega (arith, ap length (spelled_root p ps), length_push (spelled (kids p ++ ps)) (root p)))
waits_same (suc n) (p ∷ ps) (q ∷ qs) h l m e =
    let f = ap length (spelled_root p ps) ∙ length_push (spelled (kids p ++ ps)) (root p) in
    let d = same_from_push (spelled (kids p ++ ps)) (spelled (kids q ++ qs)) (root p) (root q)
    (sym (spelled_root p ps) ∙ e ∙ spelled_root q qs) in
    let i = waits_same n (kids p ++ ps) (kids q ++ qs) (omega arith) (kids_legal p ps l) (kids_legal q qs m) d.0 in
    sym (after_root p l.0 ps) ∙ ap₂ after d.1 i ∙ after_root q m.0 qs

-- the operands that wait after some words are determined by the words
pub waits_unique : (ws : List ℕ) (ps qs : List Policy) → Waits ws ps → Waits ws qs → ps ≡ qs
waits_unique ws ps qs a b =
    waits_same (length (spelled ps)) ps qs (omega arith) a.legal b.legal (a.words ∙ sym b.words)

-- a policy alone waits after its own words
pub waits_alone : (p : Policy) → Legal p → Waits (postfix p) (p ∷ [])
waits_alone p l = record { legal = (l, tt); words = refl }

pub policy_unique : (p q : Policy) → Legal p → Legal q → postfix p ≡ postfix q → p ≡ q
policy_unique p q l m e =
    let b = waits_unique (postfix q) (p ∷ []) (q ∷ []) (record { legal = (l, tt); words = e }) (waits_alone q m) in cc

-- a last word takes of the operands ps what its tree needs, and leaves the tree: so the operands qs wait
pub record Grows (word : ℕ) (ps qs : List Policy) : Type 0 where
  pub tree : Policy
  pub rest : List Policy
  pub legal : Legal tree
  pub root : root tree ≡ word
  pub took : ps ≡ kids tree ++ rest
  pub left : qs ≡ tree ∷ rest

-- before the last word other operands wait
pub waits_before : (ws : List ℕ) (w : ℕ) (qs : List Policy) → Waits (ws ++ (w ∷ [])) qs → (ps : List Policy) × Waits ws ps × Grows w ps qs
waits_before ws w [] a = absurd (not_empty ws w a.words)
waits_before ws w (q ∷ qs) a =
    let d = same_from_push (spelled (kids q ++ qs)) ws (root q) w (sym (spelled_root q qs) ∙ a.words) in (
      kids q ++ qs,
      record { legal = kids_legal q qs a.legal; words = d.0 },
      record { tree = q; rest = qs; legal = a.legal.0; root = d.1; took = refl; left = refl },
    )

-- so operands wait after any first words of such words
pub waits_front : (ws rest : List ℕ) (qs : List Policy) → Waits (ws ++ rest) qs → (ps : List Policy) × Waits ws ps
waits_front ws [] qs a = (qs, record { legal = a.legal; words = a.words ∙ append-nil ws })
waits_front ws (w ∷ rest) qs a =
    let b = waits_front (ws ++ (w ∷ [])) rest qs
    (record { legal = a.legal; words = a.words ∙ sym (append_assoc ws (w ∷ []) rest) }) in
    let d = waits_before ws w b.0 b.1 in (d.0, d.1)

-- the words of a legal policy's beginning leave operands waiting
pub viable_waits : (ws : List ℕ) → Viable ws → (ps : List Policy) × Waits ws ps
viable_waits ws v =
    waits_front ws v.rest (v.policy ∷ []) (record { legal = (v.legal, tt); words = v.words })

-- all operands joined by unions
abbrev united : Policy → List Policy → Policy
united p [] = p
united p (q ∷ ps) = united (Union q p) ps

united_legal : (p : Policy) (ps : List Policy) → Legal p → AllLegal ps → Legal (united p ps)
united_legal p [] l m = l
united_legal p (q ∷ ps) l m = united_legal (Union q p) ps (m.0, l) m.1

united_words : (p : Policy) (ps : List Policy) → (rest : List ℕ) × (postfix (united p ps) ≡ spelled (p ∷ ps) ++ rest)
united_words p [] = ([], sym (append-nil (postfix p)))
united_words p (q ∷ ps) =
    let b = united_words (Union q p) ps in (
      word 6 0 0 ∷ b.0,
      b.1 ∙ ap (λ (l : List ℕ). l ++ b.0) (regroup (spelled ps) (postfix q) (postfix p) (word 6 0 0 ∷ []))
          ∙ append_assoc (spelled (p ∷ (q ∷ ps))) (word 6 0 0 ∷ []) b.0,
    )

-- and whatever waits can be finished to a legal policy
pub waits_viable : (ws : List ℕ) (ps : List Policy) → Waits ws ps → Viable ws
waits_viable ws [] a =
    record { policy = Drop; rest = postfix Drop; legal = tt; words = ap (λ (l : List ℕ). l ++ postfix Drop) a.words }
waits_viable ws (p ∷ ps) a =
    let b = united_words p ps in
    record {
      policy = united p ps;
      rest = b.0;
      legal = united_legal p ps a.legal.0 a.legal.1;
      words = b.1 ∙ ap (λ (l : List ℕ). l ++ b.0) a.words;
    }

pub viable_front : (ws rest : List ℕ) → Viable (ws ++ rest) → Viable ws
viable_front ws rest v =
    record { policy = v.policy; rest = rest ++ v.rest; legal = v.legal; words = v.words ∙ append_assoc ws rest v.rest }

pub viable_shorter : (ws : List ℕ) (i j : ℕ) → i ≤ j → Viable (take j ws) → Viable (take i ws)
viable_shorter ws i j h v =
    let parts = take-append-drop i (take j ws) in
    viable_front (take i ws) (drop i (take j ws)) (rw (← take-take i j ws h, parts) v)
