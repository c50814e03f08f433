-- How the automaton stands after symbols that were accepted. Only private contracts cite this.
use Rattle.std.specs.Prelude.{◌≡◌, ℕ, ◌≤◌, Bool, false, List, [], ◌∷◌, ◌++◌, length, take, Some, Ok, Err, Result, ◌==◌}
use Rattle.format.specs.Limits.{nesting_limit}
use Rattle.format.specs.Policy.{Policy, postfix}
use Rattle.faults.specs.declared.layers.GrammarFault.{GrammarFault}
use Rattle.faults.specs.declared.layers.GrammarFault.TheVariants.{Unexpected}
use Rattle.tokens.specs.declared.tokens.Symbol.{Symbol}
use Rattle.grammar.specs.declared.machine.Frame.{Frame}
use Rattle.grammar.specs.declared.machine.Machine.{Machine}
use Rattle.grammar.specs.declared.machine.Mode.{Mode}
use Rattle.grammar.specs.declared.machine.Mode.TheVariants.{Operand, Operator, Relation, Tested, Assigned, Price}
use Rattle.grammar.specs.Sentences.{Sum, unfinished, needed}
use Rattle.grammar.specs.Trees.{Parse, runs, begin}
use Rattle.grammar.specs.Outlines.{Outline, Appended, words_of}
use Rattle.grammar.specs.Reading.{Stops}

-- the symbols are accepted, and the memory, which was as given, has the words written so far
pub record Stands (was : List ℕ) (ss : List Symbol) (m : Machine) : Type 0 where
  pub parsed : Parse
  pub ran : runs begin ss ≡ Some parsed
  pub outline : Outline parsed m
  pub wrote : Appended was 0 m.memory.now m.written (words_of parsed)
  pub count : m.needed ≡ needed ss
  pub fits : m.needed ≤ length was
  pub shallow : (n : ℕ) → length (unfinished (take n ss)) ≤ nesting_limit

-- what one more symbol does
abbrev pub Pushed : List ℕ → List Symbol → Symbol → ℕ → Result (Unit {0}) GrammarFault → Machine → Type 0
Pushed was ss s place (Ok u) next = Stands was (ss ++ s ∷ []) next
Pushed was ss s place (Err e) next = Stops (length was) ss s place e

-- a sentence may end here
abbrev pub final : Mode → List Frame → Bool
final Operand stack = false
final Operator stack = length stack == 0
final (Relation f) stack = false
final (Tested f) stack = false
final (Assigned f) stack = false
final Price stack = false

-- the symbols are a sentence whose words are written, or they are none
abbrev pub Finished : List ℕ → List Symbol → ℕ → Result ℕ GrammarFault → List ℕ → Type 0
Finished was ss place (Ok n) is = (p : Policy) × Sum ss p × Appended was 0 is n (postfix p)
Finished was ss place (Err e) is = (e ≡ Unexpected place) × ((p : Policy) → Sum ss p → ⊥)
