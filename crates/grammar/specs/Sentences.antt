-- Policy text as a language: which symbols are a sentence, and of which policy.
use Rattle.std.specs.Prelude.{ℕ, ◌<◌, List, [], ◌∷◌, ◌++◌, fold, sum_by}
use Rattle.format.specs.Fields.{fields, LegalValue}
use Rattle.format.specs.Words.{value_end}
use Rattle.format.specs.Policy.{Policy}
use Rattle.tokens.specs.declared.tokens.Mark.TheVariants.{Plus, Semicolon, Star, Not, Open, Close, Equals, Assign}
use Rattle.tokens.specs.declared.tokens.Symbol.{Symbol}
use Rattle.tokens.specs.declared.tokens.Symbol.TheVariants.{Field, Number, Drop, Pass, Cost, Mark}

mutual
  -- chains joined by +, grouped left
  pub data Sum : List Symbol → Policy → Type 0 where
    one_chain : {ss : List Symbol} {p : Policy} → Chain ss p → Sum ss p
    union : {ss ts : List Symbol} {p q : Policy} → Sum ss p → Chain ts q → Sum (ss ++ Mark Plus ∷ ts) (Policy.Union p q)

  -- steps joined by ;, grouped left
  pub data Chain : List Symbol → Policy → Type 0 where
    one_step : {ss : List Symbol} {p : Policy} → Step ss p → Chain ss p
    sequence : {ss ts : List Symbol} {p q : Policy} → Chain ss p → Step ts q → Chain (ss ++ Mark Semicolon ∷ ts) (Policy.Sequence p q)

  -- an atom and any number of *
  pub data Step : List Symbol → Policy → Type 0 where
    one_atom : {ss : List Symbol} {p : Policy} → Atom ss p → Step ss p
    star : {ss : List Symbol} {p : Policy} → Step ss p → Step (ss ++ Mark Star ∷ []) (Policy.Star p)

  pub data Atom : List Symbol → Policy → Type 0 where
    drops : Atom (Drop ∷ []) Policy.Drop
    passes : Atom (Pass ∷ []) Policy.Pass
    test : {f n : ℕ} → f < fields → LegalValue f n → Atom (Field f ∷ Mark Equals ∷ Number n ∷ []) (Policy.Test f n)
    sets : {f n : ℕ} → f < fields → LegalValue f n → Atom (Field f ∷ Mark Assign ∷ Number n ∷ []) (Policy.Set f n)
    cost : {n : ℕ} → n < value_end → Atom (Cost ∷ Number n ∷ []) (Policy.Cost n)
    negation : {ss : List Symbol} {p : Policy} → Atom ss p → Atom (Mark Not ∷ ss) (Policy.Not p)
    group : {ss : List Symbol} {p : Policy} → Sum ss p → Atom (Mark Open ∷ (ss ++ Mark Close ∷ [])) p

-- some sentence begins with these symbols
abbrev pub Viable : List Symbol → Type 0
Viable ss = (rest : List Symbol) × (p : Policy) × Sum (ss ++ rest) p

-- the `(` and `!` that are not yet finished, the latest first
pub data Opening : Type 0 where
  bracket : Opening
  bang : Opening

-- an atom has ended, and with it each `!` right before it
abbrev pub settled : List Opening → List Opening
settled [] = []
settled (bang ∷ os) = settled os
settled (bracket ∷ os) = bracket ∷ os

-- the latest `(` is finished, and the atom that it began has ended
abbrev pub closed : List Opening → List Opening
closed [] = []
closed (bang ∷ os) = closed os
closed (bracket ∷ os) = settled os

abbrev pub open_after : List Opening → Symbol → List Opening
open_after os (Field f) = os
open_after os (Number n) = settled os
open_after os Drop = settled os
open_after os Pass = settled os
open_after os Cost = os
open_after os (Mark Plus) = os
open_after os (Mark Semicolon) = os
open_after os (Mark Star) = os
open_after os (Mark Not) = bang ∷ os
open_after os (Mark Open) = bracket ∷ os
open_after os (Mark Close) = closed os
open_after os (Mark Equals) = os
open_after os (Mark Assign) = os

-- the `(` and `!` not yet finished after these symbols: an atom ends with `drop`, `pass`, a number or `)`
abbrev pub unfinished : List Symbol → List Opening
unfinished ss = fold open_after [] ss

-- how many words a symbol needs: a test, a set or a cost needs its word at its first symbol
abbrev pub needs : Symbol → ℕ
needs (Field f) = 1
needs (Number n) = 0
needs Drop = 1
needs Pass = 1
needs Cost = 1
needs (Mark Plus) = 1
needs (Mark Semicolon) = 1
needs (Mark Star) = 1
needs (Mark Not) = 1
needs (Mark Open) = 0
needs (Mark Close) = 0
needs (Mark Equals) = 0
needs (Mark Assign) = 0

abbrev pub needed : List Symbol → ℕ
needed ss = sum_by needs ss
