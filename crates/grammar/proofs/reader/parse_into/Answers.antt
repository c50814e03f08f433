use Rattle.std.proofs.Common.{[], ◌∷◌, ◌++◌, length, sym, refl, rules, ◌∙◌, subst}
use Rattle.faults.proofs.PassedOn.{passed_on}
use Rattle.grammar.specs.Reading.{Lexes, Refused, Answers}
use Rattle.grammar.proofs.Finishing.{accepted}
use Rattle.grammar.proofs.Whole.{found, symbol_found, symbol_missing, nothing_found, answers, at_place}
use Rattle.grammar.proofs.reader.parse_into.Goals as goal

pub loop-placed-init : goal.loop-placed-init
loop-placed-init c =
    record {
      text = c.new-lexer.ensures.text;
      lender = refl;
      read = ([], subst (Lexes c.args.text.now []) (sym c.new-lexer.ensures.start) Lexes.none, c.new-machine.ensures.stands);
    }

pub returns-in_err-placed : goal.returns-in_err-placed
returns-in_err-placed c =
    let inv = c.loop-placed.invariant in
    rw (passed_on c.from_residual.ensures.1) (Refused.no_symbol inv.read.1 (accepted inv.read.2) (nothing_found _ inv.text c.in_err-placed.ensures.next))

pub returns-in_err-symbol : goal.returns-in_err-symbol
returns-in_err-symbol c =
    let inv = c.loop-placed.invariant in
    let next = found _ _ inv.text c.in-Some.is c.in_ok-placed.ensures.next in
    rw (passed_on c.from_residual-in_err-symbol.ensures.1) (Refused.no_symbol inv.read.1 (accepted inv.read.2) (symbol_missing _ _ c.in-Some.placed next c.in_err-symbol.ensures))

pub loop-placed-preserved : goal.loop-placed-preserved
loop-placed-preserved c =
    let inv = c.loop-placed.invariant in
    let next = found _ _ inv.text c.in-Some.is c.in_ok-placed.ensures.next in
    record {
      text = c.next.ensures.text ∙ inv.text;
      lender = c.push.ensures.lender ∙ inv.lender;
      read = (inv.read.0 ++ c.in_ok-symbol.field-0 ∷ [], Lexes.more inv.read.1 (symbol_found _ _ c.in-Some.placed next c.in_ok-symbol.ensures), c.in_ok-push.ensures.pushed _ _ inv.read.2);
    }

pub returns-in_err-push : goal.returns-in_err-push
returns-in_err-push c =
    let inv = c.loop-placed.invariant in
    let next = found _ _ inv.text c.in-Some.is c.in_ok-placed.ensures.next in
    rw (passed_on c.from_residual-in_err-push.ensures.1) (Refused.stopped inv.read.1 (accepted inv.read.2) (symbol_found _ _ c.in-Some.placed next c.in_ok-symbol.ensures) (at_place next.1 (c.in_err-push.ensures.pushed _ _ inv.read.2)))

pub returns : goal.returns
returns c =
    let inv = c.loop-placed.invariant in
    let next = found _ _ inv.text c.in_default.is c.in_ok-placed.ensures.next in
    subst (λ is. Answers c.args.text.now (length c.args.memory.now) c.finish.result c.args.memory.now is) (search rules)
    (answers _ c.finish.result inv.read.1 inv.read.2 next.0 (c.finish.ensures.finished _ _ inv.read.2))
