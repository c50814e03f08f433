use Rattle.std.proofs.Common.{◌≡◌, ℕ, List, [], ◌∷◌, ◌++◌, Err, arith}
use Rattle.faults.specs.declared.layers.GrammarFault.TheVariants.{Unexpected, NoRoom}
use Rattle.tokens.specs.declared.tokens.Symbol.{Symbol}
use Rattle.grammar.specs.Reading.{unexpected}
use Rattle.grammar.specs.Standing.{Stands}
use Rattle.grammar.proofs.Pushing.{none_decided, refused_deep, refused_room, possible, stands}
use Rattle.grammar.proofs.machine.Machine.push.Goals as goal

pub returns-in_err-action-clause-pushed : goal.returns-in_err-action-clause-pushed
returns-in_err-action-clause-pushed c = λ was ss h.
    let is : c.from_residual.result ≡ Err (Unexpected c.args.place) = grind arith in
    rw is (unexpected (none_decided h _ c.is_empty.ensures (rw c.in_err-action.ensures.ok_part at c.decide.ensures)))

pub returns-then-nests_too_deep-clause-pushed : goal.returns-then-nests_too_deep-clause-pushed
returns-then-nests_too_deep-clause-pushed c = λ was ss h.
    refused_deep h c.args.symbol c.is_empty.ensures c.decide.ensures c.in_ok-action.ensures.ok_part c.if-nests_too_deep.ensures

pub returns-in_err-self-clause-pushed : goal.returns-in_err-self-clause-pushed
returns-in_err-self-clause-pushed c = λ was ss h.
    let is : c.from_residual-in_err-self.result ≡ Err (NoRoom c.args.place) = grind arith in
    rw is (refused_room h c.args.symbol c.is_empty.ensures c.decide.ensures c.in_ok-action.ensures.ok_part c.if-nests_too_deep.ensures (rw c.in_err-self.ensures.ok_part at c.needed_after.ensures))

pub perform-requires : goal.perform-requires
perform-requires c = possible c.requires.2 c.args.symbol c.is_empty.ensures c.decide.ensures c.in_ok-action.ensures.ok_part c.if-nests_too_deep.ensures (rw c.in_ok-self.ensures.ok_part at c.needed_after.ensures)

performed :
    (c : goal.After-perform) {was : List ℕ} {ss : List Symbol} →
    Stands was ss c.args.self.now →
    Stands was (ss ++ c.args.symbol ∷ []) c.perform.new.self × (c.perform.new.self.memory.ghost_name ≡ c.args.self.now.memory.ghost_name)
performed c h =
    stands h c.args.symbol c.is_empty.ensures c.decide.ensures c.in_ok-action.ensures.ok_part c.if-nests_too_deep.ensures (rw c.in_ok-self.ensures.ok_part at c.needed_after.ensures) _ c.perform.ensures

pub returns-clause-pushed : goal.returns-clause-pushed
returns-clause-pushed c = λ was ss h. (performed c h).0

pub returns-clause-lender : goal.returns-clause-lender
returns-clause-lender c = (performed c c.requires.2).1
