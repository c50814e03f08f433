use Rattle.std.proofs.Common.{◌≡◌, ◌-◌, List, length}
use Rattle.tokens.specs.declared.tokens.Symbol.{Symbol}
use Rattle.grammar.specs.Reading.{Lexes}
use Rattle.grammar.specs.Standing.{Stands}
use Rattle.grammar.proofs.reader.parse_into.Given as goal

abbrev pub invariant-loop-placed : goal.invariant-loop-placed
invariant-loop-placed l =
    record {
      text : l.lexer.text.now ≡ l.text;
      lender : l.machine.memory.ghost_name ≡ l.initial.machine.memory.ghost_name;
      read : (ss : List Symbol) × Lexes l.text ss l.lexer.at × Stands l.fn.memory ss l.machine;
    }

abbrev pub decreases-loop-placed : goal.decreases-loop-placed
decreases-loop-placed l = length l.text - l.lexer.at
