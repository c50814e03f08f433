-- Each derivation runs through the automaton: its tree is the one that the automaton makes, and there is no other.
use Rattle.std.proofs.Common.{◌≡◌, ℕ, ◌<◌, Bool, true, cond, List, [], ◌∷◌, ◌++◌, Some, None, Option, sym, refl, ap, ◌∙◌}
use Rattle.std.proofs.lemmas.Bool.{lt-ltb, and_from}
use Rattle.format.specs.Fields.{fields, LegalValue}
use Rattle.format.specs.Policy.{Policy}
use Rattle.tokens.specs.declared.tokens.Mark.TheVariants.{Plus, Semicolon, Star, Close, Equals, Assign}
use Rattle.tokens.specs.declared.tokens.Symbol.{Symbol}
use Rattle.tokens.specs.declared.tokens.Symbol.TheVariants.{Field, Number, Mark}
use Rattle.grammar.specs.declared.machine.Mode.{Mode}
use Rattle.grammar.specs.declared.machine.Mode.TheVariants.{Operand, Operator, Relation, Tested, Assigned, Price}
use Rattle.grammar.specs.Sentences.{Sum, Chain, Step, Atom}
use Rattle.grammar.specs.Trees.{Parse, parse, Opened, negation, group, completed, chained, summed, runs, bind, begin, step, acted, expect, operand, legal}

pub runs_append : (ss ts : List Symbol) (g : Parse) → runs g (ss ++ ts) ≡ bind (runs g ss) (λ h. runs h ts)
runs_append [] ts g = refl
runs_append (s ∷ ss) ts g = go (runs_append ss ts) (step g s)
  where
    go : ((h : Parse) → runs h (ss ++ ts) ≡ bind (runs h ss) (λ k. runs k ts)) → (o : Option Parse) → bind o (λ h. runs h (ss ++ ts)) ≡ bind (bind o (λ h. runs h ss)) (λ h. runs h ts)
    go again None = refl
    go again (Some h) = again h

-- no ! stands right before the next operand
abbrev pub Settled : List Opened → Type 0
Settled [] = Unit {0}
Settled (negation ∷ fs) = ⊥
Settled (group l e ∷ fs) = Unit {0}

pub settled_completes : (fs : List Opened) → Settled fs → (l e : Option Policy) (p : Policy) → completed l e fs p ≡ parse Operator l e fs p
settled_completes [] h l e p = refl
settled_completes (negation ∷ fs) h l e p = absurd h
settled_completes (group m d ∷ fs) h l e p = refl

-- one part after another
then : (g h : Parse) (ss ts : List Symbol) (o : Option Parse) → runs g ss ≡ Some h → runs h ts ≡ o → runs g (ss ++ ts) ≡ o
then g h ss ts o p q = runs_append ss ts g ∙ ap (λ x. bind x (λ k. runs k ts)) p ∙ q

legal_value : (f n : ℕ) → f < fields → LegalValue f n → legal f n ≡ true
legal_value f n h k = and_from _ _ (lt-ltb _ _ h) (lt-ltb _ _ k)

field_step : (f : ℕ) → f < fields → (l e : Option Policy) (fs : List Opened) (t : Policy) → step (parse Operand l e fs t) (Field f) ≡ Some (parse (Relation f) l e fs t)
field_step f h l e fs t = ap (λ b. acted (cond b (Some (expect (Relation f))) None) (parse Operand l e fs t)) (lt-ltb f fields h)

value_step : (m : Mode) (p : Policy) (b : Bool) → b ≡ true → (l e : Option Policy) (fs : List Opened) (t : Policy) → acted (cond b (Some (operand p)) None) (parse m l e fs t) ≡ Some (completed l e fs p)
value_step m p b h l e fs t = ap (λ b. acted (cond b (Some (operand p)) None) (parse m l e fs t)) h

last : (o : Option Parse) (g : Parse) → o ≡ Some g → bind o (λ h. Some h) ≡ Some g
last o g e = ap (λ o. bind o (λ h. Some h)) e

mutual
  pub sum_runs : {ss : List Symbol} {p : Policy} → Sum ss p → (fs : List Opened) (t : Policy) → Settled fs → (l : Option Policy) × (e : Option Policy) × (r : Policy) × (runs (parse Operand None None fs t) ss ≡ Some (parse Operator l e fs r)) × (summed l e r ≡ p)
  sum_runs (Sum.one_chain c) fs t h = let x = chain_runs c None fs t h in (None, x.0, x.1, x.2, x.3)
  sum_runs (Sum.union {ss} {ts} {p} {q} s c) fs t h =
      let x = sum_runs s fs t h in
      let y = chain_runs c (Some p) fs x.2 h in (
        Some p,
        y.0,
        y.1,
        then _ _ ss (Mark Plus ∷ ts) _ x.3 (ap (λ u. runs (parse Operand (Some u) None fs x.2) ts) x.4 ∙ y.2),
        ap (Policy.Union p) y.3,
      )

  pub chain_runs : {ss : List Symbol} {p : Policy} → Chain ss p → (l : Option Policy) (fs : List Opened) (t : Policy) → Settled fs → (e : Option Policy) × (r : Policy) × (runs (parse Operand l None fs t) ss ≡ Some (parse Operator l e fs r)) × (chained e r ≡ p)
  chain_runs (Chain.one_step {ss} {p} s) l fs t h = (None, p, step_runs s l None fs t h, refl)
  chain_runs (Chain.sequence {ss} {ts} {p} {q} c s) l fs t h =
      let x = chain_runs c l fs t h in (
        Some p,
        q,
        then _ _ ss (Mark Semicolon ∷ ts) _ x.2 (ap (λ u. runs (parse Operand l (Some u) fs x.1) ts) x.3 ∙ step_runs s l (Some p) fs x.1 h),
        refl,
      )

  pub step_runs : {ss : List Symbol} {p : Policy} → Step ss p → (l e : Option Policy) (fs : List Opened) (t : Policy) → Settled fs → runs (parse Operand l e fs t) ss ≡ Some (parse Operator l e fs p)
  step_runs (Step.one_atom {ss} {p} a) l e fs t h = atom_runs a l e fs t ∙ ap Some (settled_completes fs h l e p)
  step_runs (Step.star {ss} {p} s) l e fs t h = then _ _ ss (Mark Star ∷ []) _ (step_runs s l e fs t h) refl

  pub atom_runs : {ss : List Symbol} {p : Policy} → Atom ss p → (l e : Option Policy) (fs : List Opened) (t : Policy) → runs (parse Operand l e fs t) ss ≡ Some (completed l e fs p)
  atom_runs Atom.drops l e fs t = refl
  atom_runs Atom.passes l e fs t = refl
  atom_runs (Atom.test {f} {n} h k) l e fs t =
      ap (λ o. bind o (λ g. runs g (Mark Equals ∷ Number n ∷ []))) (field_step f h l e fs t)
      ∙ last _ _ (value_step (Tested f) (Policy.Test f n) _ (legal_value f n h k) l e fs t)
  atom_runs (Atom.sets {f} {n} h k) l e fs t =
      ap (λ o. bind o (λ g. runs g (Mark Assign ∷ Number n ∷ []))) (field_step f h l e fs t)
      ∙ last _ _ (value_step (Assigned f) (Policy.Set f n) _ (legal_value f n h k) l e fs t)
  atom_runs (Atom.cost {n} h) l e fs t = last _ _ (value_step Price (Policy.Cost n) _ (lt-ltb _ _ h) l e fs t)
  atom_runs (Atom.negation {ss} {p} a) l e fs t = atom_runs a l e (negation ∷ fs) t
  atom_runs (Atom.group {ss} {p} s) l e fs t =
      let x = sum_runs s (group l e ∷ fs) t tt in
      then _ _ ss (Mark Close ∷ []) _ x.3 (ap (λ u. Some (completed l e fs u)) x.4)

-- the tree of what has been read, were it the end
abbrev pub whole : Option Parse → Policy
whole None = Policy.Drop
whole (Some g) = summed g.left g.early g.tree

pub sentence_whole : {ss : List Symbol} {p : Policy} → Sum ss p → whole (runs begin ss) ≡ p
sentence_whole s = let x = sum_runs s [] Policy.Drop tt in ap whole x.3 ∙ x.4

-- symbols are the sentence of one policy at most
pub tree_unique : (ss : List Symbol) (p q : Policy) → Sum ss p → Sum ss q → p ≡ q
tree_unique ss p q s t = sym (sentence_whole s) ∙ sentence_whole t
