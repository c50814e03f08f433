-- How the program's automaton stands for what has been read, and what it writes. Only private contracts cite this.
use Rattle.std.specs.Prelude.{◌≡◌, ℕ, ◌+◌, ◌<◌, ◌≤◌, Bool, true, false, cond, List, [], ◌∷◌, ◌++◌, length, take, drop, Some, None, Option}
use Rattle.std.specs.Borrow.{GName}
use Rattle.std.specs.Option.{option_map}
use Rattle.arrayvec.specs.ArrayVec.{array_vec_len}
use Rattle.format.specs.Limits.{nesting_limit}
use Rattle.format.specs.Policy.{Policy, postfix}
use Rattle.format.specs.PolicyWords.{bits_of}
use Rattle.format.specs.declared.settings.PolicyWord.{PolicyWord}
use Rattle.format.specs.Words.{word}
use Rattle.tokens.specs.declared.tokens.Mark.TheVariants.{Plus, Semicolon, Star as MarkStar, Not as MarkNot, Open as MarkOpen, Close as MarkClose, Equals, Assign}
use Rattle.tokens.specs.declared.tokens.Symbol.{Symbol}
use Rattle.tokens.specs.declared.tokens.Symbol.TheVariants.{Field, Number, Drop, Pass, Cost, Mark}
use Rattle.grammar.specs.declared.machine.Action.{Action}
use Rattle.grammar.specs.declared.machine.Action.TheVariants.{Expect, Operand, Negate, Open, Star, Chain, Sum, Close}
use Rattle.grammar.specs.declared.machine.Frame.{Frame}
use Rattle.grammar.specs.declared.machine.Frame.TheVariants.{Negation, Group}
use Rattle.grammar.specs.declared.machine.Level.{Level}
use Rattle.grammar.specs.declared.machine.Machine.{Machine}
use Rattle.grammar.specs.declared.machine.Mode.{Mode}
use Rattle.grammar.specs.declared.machine.Mode.TheVariants.{Operand as AtOperand, Operator, Relation, Tested, Assigned, Price}
use Rattle.grammar.specs.Trees.{Act, expect, operand, negate, opening, starring, chaining, adding, closing, Opened, negation, group, Parse, act}

-- an action does what was decided, and writes an operand's word
abbrev pub DecidesAct : Option Act → Option Action → Type 0
DecidesAct o None = o ≡ None
DecidesAct o (Some (Expect m)) = o ≡ Some (expect m)
DecidesAct o (Some (Operand w)) = (p : Policy) × (o ≡ Some (operand p)) × (postfix p ≡ bits_of w ∷ [])
DecidesAct o (Some Negate) = o ≡ Some negate
DecidesAct o (Some Open) = o ≡ Some opening
DecidesAct o (Some Star) = o ≡ Some starring
DecidesAct o (Some Chain) = o ≡ Some chaining
DecidesAct o (Some Sum) = o ≡ Some adding
DecidesAct o (Some Close) = o ≡ Some closing

-- a number is the operand that is made of it, and no other symbol is one
abbrev pub OfNumber : (ℕ → Option PolicyWord → Type 0) → Symbol → Option Action → Type 0
OfNumber made (Number n) a = (w : Option PolicyWord) × made n w × (a ≡ option_map Operand w)
OfNumber made _ a = a ≡ None

abbrev pub waits : Option Policy → Bool
waits None = false
waits (Some p) = true

abbrev pub level_of : Option Policy → Option Policy → Level
level_of l e = record { sum = waits l; chain = waits e }

abbrev pub frame_of : Opened → Frame
frame_of negation = Negation
frame_of (group l e) = Group (level_of l e)

abbrev pub frame_level : Frame → Level
frame_level Negation = record { sum = false; chain = false }
frame_level (Group l) = l

-- the frames stand on the stack, the latest on top
abbrev pub Stacked : List Opened → List Frame → Type 0
Stacked [] stack = stack ≡ []
Stacked (f ∷ fs) stack = (below : List Frame) × (stack ≡ below ++ frame_of f ∷ []) × Stacked fs below

pub record Outline (g : Parse) (m : Machine) : Type 0 where
  pub mode : m.mode ≡ g.mode
  pub level : m.level ≡ level_of g.left g.early
  pub stacked : Stacked g.frames m.stack.items
  pub within : array_vec_len m.stack ≤ nesting_limit

-- ws were written after the first words, and what lies past them stays
pub record Appended (was : List ℕ) (at : ℕ) (is : List ℕ) (end : ℕ) (ws : List ℕ) : Type 0 where
  pub count : end ≡ at + length ws
  pub front : take end is ≡ take at was ++ ws
  pub past : drop end is ≡ drop end was
  pub long : length is ≡ length was

-- the memory with who lent it, and how many of its words are needed and written
pub record Output : Type 0 where
  pub memory : List ℕ
  pub lender : GName
  pub needed : ℕ
  pub written : ℕ

-- what a machine writes into
abbrev pub output : Machine → Output
output m = record { memory = m.memory.now; lender = m.memory.ghost_name; needed = m.needed; written = m.written }

-- ws were written after the words that stood there, into the same memory; no more words are needed
pub record Emitted (o next : Output) (ws : List ℕ) : Type 0 where
  pub appended : Appended o.memory o.written next.memory next.written ws
  pub needed : next.needed ≡ o.needed
  pub lender : next.lender ≡ o.lender

-- what the automaton expects and what waits stay
pub record KeepsState (m next : Machine) : Type 0 where
  pub mode : next.mode ≡ m.mode
  pub level : next.level ≡ m.level
  pub stack : next.stack.items ≡ m.stack.items

abbrev pub chain_words : Bool → List ℕ
chain_words b = cond b (word 7 0 0 ∷ []) []

abbrev pub sum_words : Bool → List ℕ
sum_words b = cond b (word 6 0 0 ∷ []) []

abbrev pub level_words : Level → List ℕ
level_words l = chain_words l.chain ++ sum_words l.sum

-- a word for each ! that an operand finishes
abbrev pub not_words : List Opened → List ℕ
not_words [] = []
not_words (negation ∷ fs) = word 5 0 0 ∷ not_words fs
not_words (group l e ∷ fs) = []

abbrev pub outer : List Opened → List Opened
outer [] = []
outer (f ∷ fs) = fs

-- the words of what waits and of the latest operand
abbrev pub held : Option Policy → List ℕ
held None = []
held (Some p) = postfix p

abbrev pub frame_words : List Opened → List ℕ
frame_words [] = []
frame_words (negation ∷ fs) = frame_words fs
frame_words (group l e ∷ fs) = frame_words fs ++ (held l ++ held e)

abbrev pub operand_words : Mode → Policy → List ℕ
operand_words AtOperand p = []
operand_words Operator p = postfix p
operand_words (Relation f) p = []
operand_words (Tested f) p = []
operand_words (Assigned f) p = []
operand_words Price p = []

abbrev pub words_of : Parse → List ℕ
words_of g = frame_words g.frames ++ ((held g.left ++ held g.early) ++ operand_words g.mode g.tree)

-- the words that an action writes
abbrev pub extra : Act → Parse → List ℕ
extra (expect m) g = []
extra (operand p) g = postfix p ++ not_words g.frames
extra negate g = []
extra opening g = []
extra starring g = word 8 0 0 ∷ []
extra chaining g = chain_words (waits g.early)
extra adding g = level_words (level_of g.left g.early)
extra closing g = level_words (level_of g.left g.early) ++ not_words (outer g.frames)

-- a symbol that opens what must be finished
abbrev pub opens : Symbol → Bool
opens (Field f) = false
opens (Number n) = false
opens Drop = false
opens Pass = false
opens Cost = false
opens (Mark Plus) = false
opens (Mark Semicolon) = false
opens (Mark MarkStar) = false
opens (Mark MarkNot) = true
opens (Mark MarkOpen) = true
opens (Mark MarkClose) = false
opens (Mark Equals) = false
opens (Mark Assign) = false

-- no operand is at hand
abbrev pub Idle : Mode → Type 0
Idle AtOperand = Unit {0}
Idle Operator = ⊥
Idle (Relation f) = Unit {0}
Idle (Tested f) = Unit {0}
Idle (Assigned f) = Unit {0}
Idle Price = Unit {0}

-- the action is possible
abbrev pub Ready : Act → Parse → Type 0
Ready (expect m) g = Idle g.mode × Idle m
Ready (operand p) g = Idle g.mode
Ready negate g = Idle g.mode × (length g.frames < nesting_limit)
Ready opening g = Idle g.mode × (length g.frames < nesting_limit)
Ready starring g = g.mode ≡ Operator
Ready chaining g = g.mode ≡ Operator
Ready adding g = g.mode ≡ Operator
Ready closing g = (g.mode ≡ Operator) × (l : Option Policy) × (e : Option Policy) × (fs : List Opened) × (g.frames ≡ group l e ∷ fs)

-- there is room for what the action writes
abbrev pub Possible : Act → Machine → Type 0
Possible a m = (g : Parse) × Outline g m × Ready a g × (m.written + length (extra a g) ≤ length m.memory.now)

-- what the action does to the automaton and to the memory
abbrev pub Performs : Act → Machine → Machine → Type 0
Performs a m next = (g : Parse) → Outline g m → Ready a g → Outline (act a g) next × Emitted (output m) (output next) (extra a g)
