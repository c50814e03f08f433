use Rattle.std.proofs.Common.{◌≡◌, ◌-◌, List, [], ◌∷◌, ◌++◌, length, Some, None, rules, sym, ap, subst, ◌∙◌}
use Rattle.std.specs.List.{slice_get}
use Rattle.std.specs.Option.{option_copied, option_to_list}
use Rattle.grammar.specs.declared.machine.Frame.{Frame}
use Rattle.grammar.specs.declared.machine.Frame.TheVariants.{Negation}
use Rattle.grammar.specs.declared.machine.Machine.{Machine}
use Rattle.grammar.specs.Trees.{rest}
use Rattle.grammar.specs.Outlines.{Stacked, Emitted, output, not_words}
use Rattle.grammar.proofs.Appending.{Turned, turned_more, turned_ends, room_for_not}
use Rattle.grammar.proofs.Outlining.{top_is}
use Rattle.grammar.proofs.machine.Machine.complete.Goals as goal
use Rattle.grammar.proofs.machine.Machine.complete.Goals.{in_default, in_default-2}

no_top : {x : Frame} → None ≡ Some x → ⊥
no_top e = absurd cc

some_is : {x y : Frame} → Some x ≡ Some y → x ≡ y
some_is e = cc

popped : (c : goal.After-emit-arg-1) → c.loop-self.self.stack.items ≡ c.pop.new.self.items ++ Negation ∷ []
popped c =
    let top : c.pop.result ≡ Some Negation = c.pop.ensures.value ∙ sym (ap (λ xs. slice_get xs (length xs - 1)) c.deref.ensures.0) ∙ sym c.last.ensures.value ∙ ap option_copied c.in-Some-Negation.is ∙ ap Some c.in-Some-Negation.field-0-is in
    c.pop.ensures.items ∙ ap (λ o. c.pop.new.self.items ++ option_to_list o) top

pub emit-requires : goal.emit-requires
emit-requires c = room_for_not (c.loop-self.invariant.turned c.requires.0 c.requires.1) c.pop.new.self.items (popped c) c.requires.2

pub loop-self-preserved : goal.loop-self-preserved
loop-self-preserved c =
    record {
      level = c.emit.ensures.kept.level ∙ c.loop-self.invariant.level;
      turned = λ fs s. subst (λ x. Turned fs x (output c.args.self.now) (output c.emit.new.self)) (sym c.emit.ensures.kept.stack) (turned_more (c.loop-self.invariant.turned fs s) _ _ (popped c.before) c.emit.ensures.emitted);
    }

pub returns-clause-settled : goal.returns-clause-settled
returns-clause-settled c = λ fs s.
    let same : c.match-last.self ≡ c.loop-self.self = elim c.match-last.branch [ in_default w ↦ w.self-is | in_default-2 w ↦ w.self-is ] in
    let other : (left : List Frame) → c.loop-self.self.stack.items ≡ left ++ Negation ∷ [] → ⊥ = λ left top.
    let last : option_copied c.last.result ≡ Some Negation = c.last.ensures.value ∙ top_is left Negation _ (c.deref.ensures.0 ∙ top) in
    elim c.match-last.branch [
      | in_default w ↦ let neg : w.in_default.field-0.now ≡ Negation = some_is (sym (ap option_copied w.in_default.is) ∙ last) in search rules
      | in_default-2 w ↦ no_top (sym (ap option_copied w.in_default.is) ∙ last)
    ] in
    subst (λ (m : Machine). Stacked (rest fs) m.stack.items × Emitted (output c.args.self.now) (output m) (not_words fs)) (sym same) (turned_ends (c.loop-self.invariant.turned fs s) other)
