-- The words that symbols need are those of the tree and of what waits, and what is unfinished are the frames.
use Rattle.std.proofs.Common.{◌≡◌, ℕ, ◌+◌, List, [], ◌∷◌, ◌++◌, map, length, Some, None, fold, Option, refl, ap, ◌∙◌, arith, length-append}
use lib.ListN.{length-map}
use Rattle.std.proofs.lemmas.List.Sums.{sum_by-append, sum_by-cons, fold-append}
use Rattle.std.proofs.lemmas.List.{length_push}
use Rattle.format.specs.Policy.{Policy, postfix}
use Rattle.format.specs.Words.{word}
use Rattle.tokens.specs.declared.tokens.Mark.TheVariants.{Plus, Semicolon, Star, Not, Open, Close, Equals, Assign}
use Rattle.tokens.specs.declared.tokens.Symbol.{Symbol}
use Rattle.tokens.specs.declared.tokens.Symbol.TheVariants.{Field, Cost, Mark}
use Rattle.grammar.specs.declared.machine.Mode.{Mode}
use Rattle.grammar.specs.declared.machine.Mode.TheVariants.{Operand, Operator, Relation, Tested, Assigned, Price}
use Rattle.grammar.specs.Sentences.{Sum, Chain, Step, Atom, Opening, bracket, bang, settled, closed, open_after, unfinished, needs, needed}
use Rattle.grammar.specs.Trees.{Parse, Opened, negation, group}
use Rattle.grammar.specs.Outlines.{held, frame_words, words_of}
use Rattle.grammar.proofs.Complete.{Settled}
use Rattle.grammar.proofs.Sound.{Before, Reads}

binary_length : (p q : Policy) (w : ℕ) → length (postfix p ++ (postfix q ++ w ∷ [])) ≡ length (postfix p) + (length (postfix q) + 1)
binary_length p q w = length-append (postfix p) (postfix q ++ w ∷ []) ∙ ap (λ n. length (postfix p) + n) (length_push (postfix q) w)

mutual
  pub sum_needs : {ss : List Symbol} {p : Policy} → Sum ss p → length (postfix p) ≡ needed ss
  sum_needs (Sum.one_chain c) = chain_needs c
  sum_needs (Sum.union {ss} {ts} {p} {q} s c) = omega (arith, binary_length p q (word 6 0 0), sum_by-append needs ss (Mark Plus ∷ ts), sum_by-cons needs (Mark Plus) ts, sum_needs s, chain_needs c)

  pub chain_needs : {ss : List Symbol} {p : Policy} → Chain ss p → length (postfix p) ≡ needed ss
  chain_needs (Chain.one_step s) = step_needs s
  chain_needs (Chain.sequence {ss} {ts} {p} {q} c s) = omega (arith, binary_length p q (word 7 0 0), sum_by-append needs ss (Mark Semicolon ∷ ts), sum_by-cons needs (Mark Semicolon) ts, chain_needs c, step_needs s)

  pub step_needs : {ss : List Symbol} {p : Policy} → Step ss p → length (postfix p) ≡ needed ss
  step_needs (Step.one_atom a) = atom_needs a
  step_needs (Step.star {ss} {p} s) = omega (arith, length_push (postfix p) (word 8 0 0), sum_by-append needs ss (Mark Star ∷ []), step_needs s)

  pub atom_needs : {ss : List Symbol} {p : Policy} → Atom ss p → length (postfix p) ≡ needed ss
  atom_needs Atom.drops = refl
  atom_needs Atom.passes = refl
  atom_needs (Atom.test h k) = refl
  atom_needs (Atom.sets h k) = refl
  atom_needs (Atom.cost h) = refl
  atom_needs (Atom.negation {ss} {p} a) = omega (arith, length_push (postfix p) (word 5 0 0), sum_by-cons needs (Mark Not) ss, atom_needs a)
  atom_needs (Atom.group {ss} s) = omega (arith, sum_by-cons needs (Mark Open) (ss ++ Mark Close ∷ []), sum_by-append needs ss (Mark Close ∷ []), sum_needs s)

-- the words that are needed already and written later
abbrev one : Option Policy → ℕ
one None = 0
one (Some p) = 1

abbrev owed : List Opened → ℕ
owed [] = 0
owed (negation ∷ fs) = 1 + owed fs
owed (group l e ∷ fs) = one l + one e + owed fs

abbrev owed_in : Mode → ℕ
owed_in Operand = 0
owed_in Operator = 0
owed_in (Relation f) = 1
owed_in (Tested f) = 1
owed_in (Assigned f) = 1
owed_in Price = 1

level_length : Option Policy → Option Policy → List Opened → ℕ
level_length l e fs = length (frame_words fs) + length (held l) + length (held e) + one l + one e + owed fs

before_needs : {ss : List Symbol} {l e : Option Policy} {fs : List Opened} → Before ss l e fs → level_length l e fs ≡ needed ss
unfolding level_length
before_needs Before.nothing = refl
before_needs (Before.opened {ss} {l} {e} {fs} b) =
    omega (arith, before_needs b, length-append (frame_words fs) (held l ++ held e), length-append (held l) (held e), sum_by-append needs ss (Mark Open ∷ []))
before_needs (Before.banged {ss} b) = omega (arith, before_needs b, sum_by-append needs ss (Mark Not ∷ []))
before_needs (Before.added {ss} {ts} b h s) = omega (arith, before_needs b, sum_needs s, sum_by-append needs ss (ts ++ Mark Plus ∷ []), sum_by-append needs ts (Mark Plus ∷ []))
before_needs (Before.joined {ss} {ts} b h s) = omega (arith, before_needs b, chain_needs s, sum_by-append needs ss (ts ++ Mark Semicolon ∷ []), sum_by-append needs ts (Mark Semicolon ∷ []))

total_length : (l e : Option Policy) (fs : List Opened) (ws : List ℕ) → length (frame_words fs ++ ((held l ++ held e) ++ ws)) + (one l + one e + owed fs) ≡ level_length l e fs + length ws
unfolding level_length
total_length l e fs ws = omega (arith, length-append (frame_words fs) ((held l ++ held e) ++ ws), length-append (held l ++ held e) ws, length-append (held l) (held e))

pub owes : Parse → ℕ
owes g = one g.left + one g.early + owed g.frames + owed_in g.mode

-- the words needed are those written and those owed
pub reads_needs : {ss : List Symbol} {g : Parse} → Reads ss g → length (words_of g) + owes g ≡ needed ss
unfolding owes
reads_needs (Reads.at_operand_lem {l} {e} {fs} b) = omega (arith, total_length l e fs [], before_needs b)
reads_needs (Reads.at_operator_lem {ss} {ts} {l} {e} {fs} {p} b h s) = omega (arith, total_length l e fs (postfix p), before_needs b, step_needs s, sum_by-append needs ss ts)
reads_needs (Reads.at_relation_lem {ss} {l} {e} {fs} {f} b h) = omega (arith, total_length l e fs [], before_needs b, sum_by-append needs ss (Field f ∷ []))
reads_needs (Reads.at_tested {ss} {l} {e} {fs} {f} b h) = omega (arith, total_length l e fs [], before_needs b, sum_by-append needs ss (Field f ∷ Mark Equals ∷ []))
reads_needs (Reads.at_assigned {ss} {l} {e} {fs} {f} b h) = omega (arith, total_length l e fs [], before_needs b, sum_by-append needs ss (Field f ∷ Mark Assign ∷ []))
reads_needs (Reads.at_price_lem {ss} {l} {e} {fs} b) = omega (arith, total_length l e fs [], before_needs b, sum_by-append needs ss (Cost ∷ []))

-- what is unfinished are the frames
abbrev shape : Opened → Opening
shape negation = bang
shape (group l e) = bracket

-- no ! is open before the next operand
abbrev Calm : List Opening → Type 0
Calm os = settled os ≡ os

mutual
  sum_opens : {ss : List Symbol} {p : Policy} → Sum ss p → (os : List Opening) → Calm os → fold open_after os ss ≡ os
  sum_opens (Sum.one_chain c) os h = chain_opens c os h
  sum_opens (Sum.union {ss} {ts} s c) os h = fold-append open_after os ss (Mark Plus ∷ ts) ∙ ap (λ x. fold open_after x (Mark Plus ∷ ts)) (sum_opens s os h) ∙ chain_opens c os h

  chain_opens : {ss : List Symbol} {p : Policy} → Chain ss p → (os : List Opening) → Calm os → fold open_after os ss ≡ os
  chain_opens (Chain.one_step s) os h = step_opens s os h
  chain_opens (Chain.sequence {ss} {ts} c s) os h = fold-append open_after os ss (Mark Semicolon ∷ ts) ∙ ap (λ x. fold open_after x (Mark Semicolon ∷ ts)) (chain_opens c os h) ∙ step_opens s os h

  step_opens : {ss : List Symbol} {p : Policy} → Step ss p → (os : List Opening) → Calm os → fold open_after os ss ≡ os
  step_opens (Step.one_atom a) os h = atom_opens a os ∙ h
  step_opens (Step.star {ss} s) os h = fold-append open_after os ss (Mark Star ∷ []) ∙ step_opens s os h

  atom_opens : {ss : List Symbol} {p : Policy} → Atom ss p → (os : List Opening) → fold open_after os ss ≡ settled os
  atom_opens Atom.drops os = refl
  atom_opens Atom.passes os = refl
  atom_opens (Atom.test h k) os = refl
  atom_opens (Atom.sets h k) os = refl
  atom_opens (Atom.cost h) os = refl
  atom_opens (Atom.negation a) os = atom_opens a (bang ∷ os)
  atom_opens (Atom.group {ss} s) os = fold-append open_after (bracket ∷ os) ss (Mark Close ∷ []) ∙ ap closed (sum_opens s (bracket ∷ os) refl)

calm_shapes : (fs : List Opened) → Settled fs → Calm (map shape fs)
calm_shapes [] h = refl
calm_shapes (negation ∷ fs) h = absurd h
calm_shapes (group l e ∷ fs) h = refl

before_opens : {ss : List Symbol} {l e : Option Policy} {fs : List Opened} → Before ss l e fs → unfinished ss ≡ map shape fs
before_opens Before.nothing = refl
before_opens (Before.opened {ss} b) = fold-append open_after [] ss (Mark Open ∷ []) ∙ ap (λ x. bracket ∷ x) (before_opens b)
before_opens (Before.banged {ss} b) = fold-append open_after [] ss (Mark Not ∷ []) ∙ ap (λ x. bang ∷ x) (before_opens b)
before_opens (Before.added {ss} {ts} {fs} b h s) =
    fold-append open_after [] ss (ts ++ Mark Plus ∷ []) ∙ ap (λ x. fold open_after x (ts ++ Mark Plus ∷ [])) (before_opens b) ∙ fold-append open_after (map shape fs) ts (Mark Plus ∷ []) ∙ sum_opens s (map shape fs) (calm_shapes fs h)
before_opens (Before.joined {ss} {ts} {fs} b h s) =
    fold-append open_after [] ss (ts ++ Mark Semicolon ∷ []) ∙ ap (λ x. fold open_after x (ts ++ Mark Semicolon ∷ [])) (before_opens b) ∙ fold-append open_after (map shape fs) ts (Mark Semicolon ∷ []) ∙ chain_opens s (map shape fs) (calm_shapes fs h)

reads_opens : {ss : List Symbol} {g : Parse} → Reads ss g → unfinished ss ≡ map shape g.frames
reads_opens (Reads.at_operand_lem b) = before_opens b
reads_opens (Reads.at_operator_lem {ss} {ts} {fs} b h s) = fold-append open_after [] ss ts ∙ ap (λ x. fold open_after x ts) (before_opens b) ∙ step_opens s (map shape fs) (calm_shapes fs h)
reads_opens (Reads.at_relation_lem {ss} {f} b h) = fold-append open_after [] ss (Field f ∷ []) ∙ before_opens b
reads_opens (Reads.at_tested {ss} {f} b h) = fold-append open_after [] ss (Field f ∷ Mark Equals ∷ []) ∙ before_opens b
reads_opens (Reads.at_assigned {ss} {f} b h) = fold-append open_after [] ss (Field f ∷ Mark Assign ∷ []) ∙ before_opens b
reads_opens (Reads.at_price_lem {ss} b) = fold-append open_after [] ss (Cost ∷ []) ∙ before_opens b

pub reads_depth : {ss : List Symbol} {g : Parse} → Reads ss g → length (unfinished ss) ≡ length g.frames
reads_depth {g} r = ap length (reads_opens r) ∙ length-map g.frames shape
