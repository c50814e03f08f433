-- What each action does to the stack and to the outline.
use Rattle.std.proofs.Common.{◌≡◌, ◌-◌, ◌<◌, ◌≤◌, get_or, ◌∙◌, List, [], ◌∷◌, ◌++◌, length, Some, Option, sym, ap, subst, arith}
use Rattle.std.proofs.lemmas.List.{length_push, get_or_push}
use Rattle.std.proofs.lemmas.Option.{slice_get-get_or}
use Rattle.std.specs.List.{slice_get}
use Rattle.format.specs.Limits.{nesting_limit}
use Rattle.format.specs.Policy.{Policy}
use Rattle.grammar.specs.declared.machine.Frame.{Frame}
use Rattle.grammar.specs.declared.machine.Machine.{Machine}
use Rattle.grammar.specs.declared.machine.Mode.TheVariants.{Operand, Operator}
use Rattle.grammar.specs.Trees.{Act, Parse, parse, Opened, negation, group, rest, completed}
use Rattle.grammar.specs.Outlines.{Performs, Ready, Outline, Stacked, frame_of, level_of}

pub stacked_depth : (fs : List Opened) (stack : List Frame) → Stacked fs stack → length stack ≡ length fs
stacked_depth [] stack s = ap length s
stacked_depth (f ∷ fs) stack s = omega (arith, ap length s.1, length_push s.0 (frame_of f), stacked_depth fs s.0 s.2)

pub rest_shorter : (fs : List Opened) → length (rest fs) ≤ length fs
rest_shorter [] = omega arith
rest_shorter (negation ∷ fs) = omega (arith, rest_shorter fs)
rest_shorter (group l e ∷ fs) = omega arith

-- an operand is complete
pub completed_outline : {l e : Option Policy} → (fs : List Opened) (p : Policy) (next : Machine) → next.mode ≡ Operator → next.level ≡ level_of l e → length fs ≤ nesting_limit → Stacked (rest fs) next.stack.items → Outline (completed l e fs p) next
completed_outline fs p next m lv short s =
    record {
      mode = m;
      level = lv;
      stacked = s;
      within = omega (arith, stacked_depth (rest fs) _ s, rest_shorter fs);
    }

-- a frame is put on the stack
pub nested_outline : {g : Parse} {m : Machine} → (f : Opened) (l e : Option Policy) (next : Machine) → Outline g m → length g.frames < nesting_limit → next.mode ≡ Operand → next.level ≡ level_of l e → next.stack.items ≡ m.stack.items ++ frame_of f ∷ [] → Outline (parse Operand l e (f ∷ g.frames) g.tree) next
nested_outline {g} {m} f l e next o short md lv st =
    record {
      mode = md;
      level = lv;
      stacked = (m.stack.items, st, o.stacked);
      within = omega (arith, ap length st, length_push m.stack.items (frame_of f), stacked_depth g.frames _ o.stacked);
    }

-- what stands on top of the stack
pub top_is : (below : List Frame) (x : Frame) (stack : List Frame) → stack ≡ below ++ x ∷ [] → slice_get stack (length stack - 1) ≡ Some x
top_is below x stack e =
    let n = ap length e ∙ length_push below x in
    slice_get-get_or stack (length stack - 1) x (omega (arith, n)) ∙ ap Some (ap (λ xs. get_or xs (length stack - 1) x) e ∙ get_or_push below x x (length stack - 1) (omega (arith, n)))

same_act : {a b : Act} → Some a ≡ Some b → a ≡ b
same_act e = cc

pub ready_at : {a b : Act} (g : Parse) → Some a ≡ Some b → Ready a g → Ready b g
ready_at g e r = subst (λ x. Ready x g) (same_act e) r

pub performs_at : {a b : Act} {m next : Machine} → Some a ≡ Some b → Performs b m next → Performs a m next
performs_at {m} {next} e h = subst (λ x. Performs x m next) (sym (same_act e)) h
