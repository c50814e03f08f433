-- An automaton that reads symbols into trees, of which the program's automaton keeps the outline.
use Rattle.std.specs.Prelude.{ℕ, Bool, true, false, cond, ◌&&◌, ltb, List, [], ◌∷◌, Some, None, Option, nat_lt}
use Rattle.format.specs.Fields.{fields, range}
use Rattle.format.specs.Words.{value_end}
use Rattle.format.specs.Policy.{Policy}
use Rattle.tokens.specs.declared.tokens.Mark.TheVariants.{Plus, Semicolon, Star, Not, Open, Close, Equals, Assign}
use Rattle.tokens.specs.declared.tokens.Symbol.{Symbol}
use Rattle.tokens.specs.declared.tokens.Symbol.TheVariants.{Field, Number, Drop, Pass, Cost, Mark}
use Rattle.grammar.specs.declared.machine.Mode.{Mode}
use Rattle.grammar.specs.declared.machine.Mode.TheVariants.{Operand, Operator, Relation, Tested, Assigned, Price}

-- what a symbol makes the automaton do
pub data Act : Type 0 where
  expect : Mode → Act
  operand : Policy → Act
  negate : Act
  opening : Act
  starring : Act
  chaining : Act
  adding : Act
  closing : Act

abbrev pub first : Symbol → Option Act
first (Field f) = cond (nat_lt f fields) (Some (expect (Relation f))) None
first (Number n) = None
first Drop = Some (operand Policy.Drop)
first Pass = Some (operand Policy.Pass)
first Cost = Some (expect Price)
first (Mark Plus) = None
first (Mark Semicolon) = None
first (Mark Star) = None
first (Mark Not) = Some negate
first (Mark Open) = Some opening
first (Mark Close) = None
first (Mark Equals) = None
first (Mark Assign) = None

-- after an operand; the test says whether a bracket is open
abbrev pub later : Bool → Symbol → Option Act
later b (Field f) = None
later b (Number n) = None
later b Drop = None
later b Pass = None
later b Cost = None
later b (Mark Plus) = Some adding
later b (Mark Semicolon) = Some chaining
later b (Mark Star) = Some starring
later b (Mark Not) = None
later b (Mark Open) = None
later b (Mark Close) = cond b (Some closing) None
later b (Mark Equals) = None
later b (Mark Assign) = None

abbrev pub relation : ℕ → Symbol → Option Act
relation f (Field g) = None
relation f (Number n) = None
relation f Drop = None
relation f Pass = None
relation f Cost = None
relation f (Mark Plus) = None
relation f (Mark Semicolon) = None
relation f (Mark Star) = None
relation f (Mark Not) = None
relation f (Mark Open) = None
relation f (Mark Close) = None
relation f (Mark Equals) = Some (expect (Tested f))
relation f (Mark Assign) = Some (expect (Assigned f))

-- a number within a limit
abbrev pub value : (ℕ → Bool) → (ℕ → Policy) → Symbol → Option Act
value ok make (Field f) = None
value ok make (Number n) = cond (ok n) (Some (operand (make n))) None
value ok make Drop = None
value ok make Pass = None
value ok make Cost = None
value ok make (Mark m) = None

abbrev pub legal : ℕ → ℕ → Bool
legal f n = nat_lt f fields && nat_lt n (range f)

abbrev pub decision : Mode → Bool → Symbol → Option Act
decision Operand b s = first s
decision Operator b s = later b s
decision (Relation f) b s = relation f s
decision (Tested f) b s = value (legal f) (Policy.Test f) s
decision (Assigned f) b s = value (legal f) (Policy.Set f) s
decision Price b s = value (λ n. ltb n value_end) Policy.Cost s

-- a `!`, or a `(` with the sum and the chain that waited before it
pub data Opened : Type 0 where
  negation : Opened
  group : Option Policy → Option Policy → Opened

-- what has been read: the sum before a waiting +, the chain before a waiting ;, what is unfinished, and the latest operand
pub record Parse : Type 0 where
  pub mode : Mode
  pub left : Option Policy
  pub early : Option Policy
  pub frames : List Opened
  pub tree : Policy

abbrev pub parse : Mode → Option Policy → Option Policy → List Opened → Policy → Parse
parse m l e fs t = record { mode = m; left = l; early = e; frames = fs; tree = t }

abbrev pub chained : Option Policy → Policy → Policy
chained None p = p
chained (Some q) p = Policy.Sequence q p

abbrev pub united : Option Policy → Policy → Policy
united None p = p
united (Some q) p = Policy.Union q p

abbrev pub summed : Option Policy → Option Policy → Policy → Policy
summed l e p = united l (chained e p)

-- the frames without the `!` right before an operand, and the operand with them
abbrev pub rest : List Opened → List Opened
rest [] = []
rest (negation ∷ fs) = rest fs
rest (group l e ∷ fs) = group l e ∷ fs

abbrev pub negated : List Opened → Policy → Policy
negated [] p = p
negated (negation ∷ fs) p = negated fs (Policy.Not p)
negated (group l e ∷ fs) p = p

abbrev pub completed : Option Policy → Option Policy → List Opened → Policy → Parse
completed l e fs p = parse Operator l e (rest fs) (negated fs p)

abbrev pub closes : List Opened → Policy → Parse
closes [] p = completed None None [] p
closes (negation ∷ fs) p = closes fs p
closes (group l e ∷ fs) p = completed l e fs p

abbrev pub act : Act → Parse → Parse
act (expect m) g = parse m g.left g.early g.frames g.tree
act (operand p) g = completed g.left g.early g.frames p
act negate g = parse Operand g.left g.early (negation ∷ g.frames) g.tree
act opening g = parse Operand None None (group g.left g.early ∷ g.frames) g.tree
act starring g = parse Operator g.left g.early g.frames (Policy.Star g.tree)
act chaining g = parse Operand g.left (Some (chained g.early g.tree)) g.frames g.tree
act adding g = parse Operand (Some (summed g.left g.early g.tree)) None g.frames g.tree
act closing g = closes g.frames (summed g.left g.early g.tree)

abbrev pub nested : List Opened → Bool
nested [] = false
nested (f ∷ fs) = true

abbrev pub acted : Option Act → Parse → Option Parse
acted None g = None
acted (Some a) g = Some (act a g)

abbrev pub step : Parse → Symbol → Option Parse
step g s = acted (decision g.mode (nested g.frames) s) g

abbrev pub bind : Option Parse → (Parse → Option Parse) → Option Parse
bind None k = None
bind (Some g) k = k g

abbrev pub runs : Parse → List Symbol → Option Parse
runs g [] = Some g
runs g (s ∷ ss) = bind (step g s) (λ h. runs h ss)

abbrev pub begin : Parse
begin = parse Operand None None [] Policy.Drop
