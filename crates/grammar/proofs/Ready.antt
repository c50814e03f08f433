-- What is decided can be done, and the words that it writes are those of what is read then.
use Rattle.std.proofs.Common.{◌≡◌, ℕ, ◌<◌, Bool, true, false, cond, List, [], ◌∷◌, ◌++◌, length, Some, None, Option, sym, refl, ap, ◌∙◌, subst, append_assoc, append-nil}
use Rattle.format.specs.Limits.{nesting_limit}
use Rattle.format.specs.Policy.{Policy, postfix}
use Rattle.format.specs.Words.{word}
use Rattle.tokens.specs.declared.tokens.Mark.TheVariants.{Plus, Semicolon, Star, Not, Open, Close, Equals, Assign}
use Rattle.tokens.specs.declared.tokens.Symbol.{Symbol}
use Rattle.tokens.specs.declared.tokens.Symbol.TheVariants.{Field, Number, Drop, Pass, Cost, Mark}
use Rattle.grammar.specs.declared.machine.Mode.{Mode}
use Rattle.grammar.specs.declared.machine.Mode.TheVariants.{Operator, Relation}
use Rattle.grammar.specs.Trees.{Act, expect, operand, negate, opening, starring, chaining, adding, closing, Parse, parse, Opened, negation, group, rest, negated, closes, chained, united, summed, act, first, later, relation, value, legal, decision, nested}
use Rattle.grammar.specs.Outlines.{held, frame_words, operand_words, words_of, extra, Idle, Ready, waits, level_of, level_words, chain_words, sum_words, not_words, outer, opens}
use Rattle.grammar.proofs.Complete.{Settled}
use Rattle.grammar.proofs.Sound.{Reads}

-- a decided action is ready, where a frame that it opens has its place
abbrev Allowed : Option Act → Parse → Type 0
Allowed None g = Unit {0}
Allowed (Some a) g = Ready a g

allowed_cond : (b : Bool) (a : Act) (g : Parse) → Ready a g → Allowed (cond b (Some a) None) g
allowed_cond true a g r = r
allowed_cond false a g r = tt

abbrev FitsFrame : Symbol → Parse → Type 0
FitsFrame s g = opens s ≡ true → length g.frames < nesting_limit

first_allowed : (s : Symbol) (g : Parse) → Idle g.mode → FitsFrame s g → Allowed (first s) g
first_allowed (Field f) g i h = allowed_cond _ (expect (Relation f)) g (i, tt)
first_allowed Drop g i h = i
first_allowed Pass g i h = i
first_allowed Cost g i h = (i, tt)
first_allowed (Mark Not) g i h = (i, h refl)
first_allowed (Mark Open) g i h = (i, h refl)
first_allowed _ g i h = tt

close_allowed : (l e : Option Policy) (fs : List Opened) (p : Policy) → Settled fs → Allowed (cond (nested fs) (Some closing) None) (parse Operator l e fs p)
close_allowed l e [] p h = tt
close_allowed l e (negation ∷ fs) p h = absurd h
close_allowed l e (group m d ∷ fs) p h = (refl, m, d, fs, refl)

later_allowed : (s : Symbol) (l e : Option Policy) (fs : List Opened) (p : Policy) → Settled fs → Allowed (later (nested fs) s) (parse Operator l e fs p)
later_allowed (Mark Plus) l e fs p h = refl
later_allowed (Mark Semicolon) l e fs p h = refl
later_allowed (Mark Star) l e fs p h = refl
later_allowed (Mark Close) l e fs p h = close_allowed l e fs p h
later_allowed _ l e fs p h = tt

relation_allowed : (f : ℕ) (s : Symbol) (g : Parse) → Idle g.mode → Allowed (relation f s) g
relation_allowed f (Mark Equals) g i = (i, tt)
relation_allowed f (Mark Assign) g i = (i, tt)
relation_allowed f _ g i = tt

value_allowed : (ok : ℕ → Bool) (make : ℕ → Policy) (s : Symbol) (g : Parse) → Idle g.mode → Allowed (value ok make s) g
value_allowed ok make (Number n) g i = allowed_cond _ (operand (make n)) g i
value_allowed ok make _ g i = tt

allowed : {ss : List Symbol} {g : Parse} → Reads ss g → (s : Symbol) → FitsFrame s g → Allowed (decision g.mode (nested g.frames) s) g
allowed (Reads.at_operand_lem b) s h = first_allowed s _ tt h
allowed (Reads.at_operator_lem {l} {e} {fs} {p} b k u) s h = later_allowed s l e fs p k
allowed (Reads.at_relation_lem {f} b k) s h = relation_allowed f s _ tt
allowed (Reads.at_tested {f} b k) s h = value_allowed (legal f) (Policy.Test f) s _ tt
allowed (Reads.at_assigned {f} b k) s h = value_allowed (legal f) (Policy.Set f) s _ tt
allowed (Reads.at_price_lem b) s h = value_allowed _ Policy.Cost s _ tt

pub ready : {ss : List Symbol} {g : Parse} → Reads ss g → (s : Symbol) (a : Act) → decision g.mode (nested g.frames) s ≡ Some a → FitsFrame s g → Ready a g
ready {g} r s a e h = subst (λ o. Allowed o g) e (allowed r s h)

idle_words : (m : Mode) (p : Policy) → Idle m → operand_words m p ≡ []
idle_words Operator p i = absurd i
idle_words _ p i = refl

rest_words : (fs : List Opened) → frame_words (rest fs) ≡ frame_words fs
rest_words [] = refl
rest_words (negation ∷ fs) = rest_words fs
rest_words (group l e ∷ fs) = refl

negated_words : (fs : List Opened) (p : Policy) → postfix (negated fs p) ≡ postfix p ++ not_words fs
negated_words [] p = sym (append-nil _)
negated_words (negation ∷ fs) p = negated_words fs (Policy.Not p) ∙ append_assoc (postfix p) (word 5 0 0 ∷ []) (not_words fs)
negated_words (group l e ∷ fs) p = sym (append-nil _)

chained_words : (e : Option Policy) (p : Policy) → postfix (chained e p) ≡ (held e ++ postfix p) ++ chain_words (waits e)
chained_words None p = sym (append-nil _)
chained_words (Some q) p = sym (append_assoc (postfix q) (postfix p) (word 7 0 0 ∷ []))

united_words : (l : Option Policy) (p : Policy) → postfix (united l p) ≡ (held l ++ postfix p) ++ sum_words (waits l)
united_words None p = sym (append-nil _)
united_words (Some q) p = sym (append_assoc (postfix q) (postfix p) (word 6 0 0 ∷ []))

pub summed_words : (l e : Option Policy) (p : Policy) → postfix (summed l e p) ≡ ((held l ++ held e) ++ postfix p) ++ level_words (level_of l e)
summed_words l e p = united_words l (chained e p) ∙ ap (λ x. (held l ++ x) ++ sum_words (waits l)) (chained_words e p) ∙ simp append_assoc

idle_is : (g : Parse) → Idle g.mode → words_of g ≡ frame_words g.frames ++ ((held g.left ++ held g.early) ++ [])
idle_is g i = ap (λ x. frame_words g.frames ++ ((held g.left ++ held g.early) ++ x)) (idle_words g.mode g.tree i)

after_is : (g : Parse) → g.mode ≡ Operator → words_of g ≡ frame_words g.frames ++ ((held g.left ++ held g.early) ++ postfix g.tree)
after_is g i = ap (λ m. frame_words g.frames ++ ((held g.left ++ held g.early) ++ operand_words m g.tree)) i

regroup_operand : (a b c d : List ℕ) → a ++ (b ++ (c ++ d)) ≡ (a ++ (b ++ [])) ++ (c ++ d)
regroup_operand a b c d = simp (append-nil, append_assoc)

regroup_last : (a b c d : List ℕ) → a ++ (b ++ (c ++ d)) ≡ (a ++ (b ++ c)) ++ d
regroup_last a b c d = simp append_assoc

regroup_chain : (a b c d e : List ℕ) → a ++ ((b ++ ((c ++ d) ++ e)) ++ []) ≡ (a ++ ((b ++ c) ++ d)) ++ e
regroup_chain a b c d e = simp (append-nil, append_assoc)

regroup_sum : (a b c d : List ℕ) → a ++ ((((b ++ c) ++ d) ++ []) ++ []) ≡ (a ++ (b ++ c)) ++ d
regroup_sum a b c d = simp (append-nil, append_assoc)

regroup_close : (a b c d e f : List ℕ) → a ++ (b ++ (((c ++ d) ++ e) ++ f)) ≡ ((a ++ b) ++ (c ++ d)) ++ (e ++ f)
regroup_close a b c d e f = simp append_assoc

-- the words after an action are those before it and those that it writes
pub words_grow : (a : Act) (g : Parse) → Ready a g → words_of (act a g) ≡ words_of g ++ extra a g
words_grow (expect m) g r = idle_is (act (expect m) g) r.1 ∙ sym (append-nil _ ∙ idle_is g r.0)
words_grow (operand p) g r =
    ap (λ x. x ++ ((held g.left ++ held g.early) ++ postfix (negated g.frames p))) (rest_words g.frames)
    ∙ ap (λ x. frame_words g.frames ++ ((held g.left ++ held g.early) ++ x)) (negated_words g.frames p)
    ∙ regroup_operand (frame_words g.frames) (held g.left ++ held g.early) (postfix p) (not_words g.frames)
    ∙ sym (ap (λ x. x ++ (postfix p ++ not_words g.frames)) (idle_is g r))
words_grow negate g r = sym (append-nil _ ∙ idle_is g r.0)
words_grow opening g r = append-nil _ ∙ ap (λ x. frame_words g.frames ++ x) (sym (append-nil _)) ∙ sym (append-nil _ ∙ idle_is g r.0)
words_grow starring g r =
    regroup_last (frame_words g.frames) (held g.left ++ held g.early) (postfix g.tree) (word 8 0 0 ∷ [])
    ∙ sym (ap (λ x. x ++ word 8 0 0 ∷ []) (after_is g r))
words_grow chaining g r =
    ap (λ x. frame_words g.frames ++ ((held g.left ++ x) ++ [])) (chained_words g.early g.tree)
    ∙ regroup_chain (frame_words g.frames) (held g.left) (held g.early) (postfix g.tree) (chain_words (waits g.early))
    ∙ sym (ap (λ x. x ++ chain_words (waits g.early)) (after_is g r))
words_grow adding g r =
    ap (λ x. frame_words g.frames ++ ((x ++ []) ++ [])) (summed_words g.left g.early g.tree)
    ∙ regroup_sum (frame_words g.frames) (held g.left ++ held g.early) (postfix g.tree) (level_words (level_of g.left g.early))
    ∙ sym (ap (λ x. x ++ level_words (level_of g.left g.early)) (after_is g r))
words_grow closing g r =
    let fs = r.3 in
    let p = summed g.left g.early g.tree in
    let level = level_words (level_of g.left g.early) in
    ap (λ x. words_of (closes x p)) r.4
    ∙ ap (λ x. x ++ ((held r.1 ++ held r.2) ++ postfix (negated fs p))) (rest_words fs)
    ∙ ap (λ x. frame_words fs ++ ((held r.1 ++ held r.2) ++ x)) (negated_words fs p ∙ ap (λ x. x ++ not_words fs) (summed_words g.left g.early g.tree))
    ∙ regroup_close (frame_words fs) (held r.1 ++ held r.2) (held g.left ++ held g.early) (postfix g.tree) level (not_words fs)
    ∙ ap (λ x. (frame_words x ++ ((held g.left ++ held g.early) ++ postfix g.tree)) ++ (level ++ not_words (outer x))) (sym r.4)
    ∙ sym (ap (λ x. x ++ (level ++ not_words (outer g.frames))) (after_is g r.0))
