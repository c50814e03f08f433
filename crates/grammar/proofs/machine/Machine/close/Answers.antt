use Rattle.std.proofs.Common.{◌≡◌, ◌∷◌, ◌++◌, length, Some, sym, ap, ◌∙◌, subst, rules, arith}
use Rattle.std.proofs.lemmas.List.{same_from_push}
use Rattle.std.specs.Option.{option_to_list}
use Rattle.grammar.specs.declared.machine.Frame.TheVariants.{Group}
use Rattle.grammar.specs.Trees.{group, closes, summed}
use Rattle.grammar.specs.Outlines.{Outline, Emitted, output, Stacked, level_of, level_words, not_words, outer}
use Rattle.grammar.proofs.Appending.{emitted_then, emitted_words}
use Rattle.grammar.proofs.Outlining.{stacked_depth, completed_outline, top_is}
use Rattle.grammar.proofs.machine.Machine.close.Goals as goal

pub returns : goal.returns
returns c = λ g o r.
    let fs = r.3 in
    let p = summed g.left g.early g.tree in
    let s = subst (λ x. Stacked x c.end_sum.new.self.stack.items) r.4 (subst (Stacked g.frames) (sym c.end_sum.ensures.kept.stack) o.stacked) in
    let popped : c.pop.result ≡ Some (Group (level_of r.1 r.2)) = c.pop.ensures.value ∙ top_is s.0 _ _ s.1 in
    let below = (same_from_push c.pop.new.self.items s.0 _ _ (sym (c.pop.ensures.items ∙ ap (λ x. c.pop.new.self.items ++ option_to_list x) popped) ∙ s.1)).0 in
    let done = c.complete.ensures.settled fs (subst (Stacked fs) (sym below) s.2) in
    let level : c.complete.new.self.level ≡ level_of r.1 r.2 = c.complete.ensures.level ∙ search rules in (
      subst (λ x. Outline (closes x p) c.complete.new.self) (sym r.4)
          (completed_outline fs p _ c.complete.ensures.mode level (omega (arith, stacked_depth (group r.1 r.2 ∷ fs) _ s, stacked_depth _ _ o.stacked, o.within, ap length r.4)) done.0),
      subst (λ x. Emitted (output c.args.self.now) (output c.complete.new.self) (level_words (level_of g.left g.early) ++ not_words (outer x))) (sym r.4)
          (emitted_words (ap (λ x. level_words x ++ not_words fs) o.level) (emitted_then c.end_sum.ensures.emitted done.1)),
    )
