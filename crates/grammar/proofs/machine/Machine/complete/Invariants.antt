use Rattle.std.proofs.Common.{◌≡◌, List, length}
use Rattle.grammar.specs.Trees.{Opened}
use Rattle.grammar.specs.Outlines.{Stacked, output}
use Rattle.grammar.proofs.Appending.{Turned}
use Rattle.grammar.proofs.machine.Machine.complete.Given as goal

abbrev pub invariant-loop-self : goal.invariant-loop-self
invariant-loop-self l =
    record {
      level : l.self.level ≡ l.initial.self.level;
      turned : (fs : List Opened) → Stacked fs l.initial.self.stack.items → Turned fs l.self.stack.items (output l.initial.self) (output l.self);
    }

abbrev pub decreases-loop-self : goal.decreases-loop-self
decreases-loop-self l = length l.self.stack.items
