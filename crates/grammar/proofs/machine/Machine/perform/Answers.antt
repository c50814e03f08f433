use Rattle.std.proofs.Common.{◌≡◌, Some, None, rules, ap, ◌++◌, [], ◌∷◌, ◌∙◌, subst, arith}
use Rattle.grammar.specs.declared.machine.Action.{Action}
use Rattle.grammar.specs.declared.machine.Frame.TheVariants.{Group}
use Rattle.grammar.specs.Trees.{Act, negation, group, negate, opening, operand}
use Rattle.grammar.specs.Outlines.{DecidesAct}
use Rattle.grammar.proofs.Outlining.{stacked_depth, nested_outline, ready_at, performs_at}
use Rattle.grammar.proofs.machine.Machine.perform.Goals as goal

-- what is decided, where the action is known
known : (a : Act) {x y : Action} → x ≡ y → DecidesAct (Some a) (Some x) → DecidesAct (Some a) (Some y)
known a e d = subst (λ x. DecidesAct (Some a) (Some x)) e d

pub nest-requires : goal.nest-requires
nest-requires c =
    let g = c.requires.2.0 in
    let o = c.requires.2.1 in
    let r = ready_at {b = negate} g (known c.requires.0 c.in-Negate.is c.requires.1) c.requires.2.2 in
    omega (arith, r.1, stacked_depth g.frames _ o.stacked)

pub nest-requires-in-Open : goal.nest-requires-in-Open
nest-requires-in-Open c =
    let g = c.requires.2.0 in
    let o = c.requires.2.1 in
    let r = ready_at {b = opening} g (known c.requires.0 c.in-Open.is c.requires.1) c.requires.2.2 in
    omega (arith, r.1, stacked_depth g.frames _ o.stacked)

pub returns-in-Operand : goal.returns-in-Operand
returns-in-Operand c = λ a d.
    let k = known a c.in-Operand.is d in
    performs_at {b = operand k.0} k.1 (c.operand.ensures k.0 k.2)

pub returns-in-Negate : goal.returns-in-Negate
returns-in-Negate c = λ a d.
    performs_at {b = negate} (known a c.in-Negate.is d) (λ g o r. (
      nested_outline negation g.left g.early _ o r.1 c.nest.ensures.mode (c.nest.ensures.level ∙ o.level) c.nest.ensures.stack,
      c.nest.ensures.words,
    ))

pub returns-in-Open : goal.returns-in-Open
returns-in-Open c = λ a d.
    performs_at {b = opening} (known a c.in-Open.is d) (λ g o r. (
      nested_outline (group g.left g.early) None None (record c.nest-in-Open.new.self { level = c.default-self.result }) o r.1 c.nest-in-Open.ensures.mode (search rules)
          (c.nest-in-Open.ensures.stack ∙ ap (λ l. c.args.self.now.stack.items ++ Group l ∷ []) o.level),
      c.nest-in-Open.ensures.words,
    ))
