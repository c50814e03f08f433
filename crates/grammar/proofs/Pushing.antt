-- One more symbol: accepted, or refused for the first reason that there is.
use Rattle.std.proofs.Common.{◌≡◌, ℕ, suc, ◌+◌, ◌<◌, ◌≤◌, Bool, true, false, not, ◌==◌, List, [], ◌∷◌, ◌++◌, length, take, ◌&&◌, ◌≢◌, Some, None, Option, sym, refl, ap, ◌∙◌, subst, ⊎_elim, arith, length-append}
use Rattle.std.proofs.lemmas.List.{take-append-le, take_all, length_push}
use Rattle.std.proofs.lemmas.List.Sums.{sum_by_push, fold_push}
use Rattle.std.proofs.lemmas.Bool.{cases_lt, cases_Bool, ne_eqb, eqb-true, eqb-false, and_parts}
use Rattle.arrayvec.specs.ArrayVec.{array_vec_len}
use Rattle.faults.specs.declared.layers.GrammarFault.TheVariants.{TooDeep, NoRoom}
use Rattle.format.specs.Limits.{nesting_limit}
use Rattle.tokens.specs.declared.tokens.Mark.TheVariants.{Not, Open, Close}
use Rattle.tokens.specs.declared.tokens.Symbol.{Symbol}
use Rattle.tokens.specs.declared.tokens.Symbol.TheVariants.{Number, Drop, Pass, Mark}
use Rattle.grammar.specs.declared.machine.Action.{Action}
use Rattle.grammar.specs.declared.machine.Action.TheVariants.{Expect, Operand, Negate, Open as OpenAction, Star as StarAction, Chain, Sum, Close as CloseAction}
use Rattle.grammar.specs.declared.machine.Frame.{Frame}
use Rattle.grammar.specs.declared.machine.Machine.{Machine}
use Rattle.grammar.specs.Sentences.{Viable, Opening, bracket, bang, settled, closed, open_after, unfinished, needs}
use Rattle.grammar.specs.Trees.{Act, expect, operand, negate, opening, starring, chaining, adding, closing, Parse, Opened, decision, nested, act, acted, bind, runs, begin}
use Rattle.grammar.specs.Outlines.{DecidesAct, Outline, Stacked, Appended, Possible, Performs, Ready, opens, words_of, extra}
use Rattle.grammar.specs.Reading.{Stops, too_deep, no_room}
use Rattle.grammar.specs.Standing.{Stands}
use Rattle.grammar.proofs.Appending.{appended_then}
use Rattle.grammar.proofs.Complete.{runs_append}
use Rattle.grammar.proofs.Counts.{reads_needs, reads_depth}
use Rattle.grammar.proofs.Outlining.{stacked_depth}
use Rattle.grammar.proofs.Ready.{ready, words_grow}
use Rattle.grammar.proofs.Sound.{Reads, run_reads, reads_viable, stuck}

decided_some : (o : Option Act) (x : Action) → DecidesAct o (Some x) → (a : Act) × (o ≡ Some a)
decided_some o (Expect m) d = (expect m, d)
decided_some o (Operand w) d = (operand d.0, d.1)
decided_some o Negate d = (negate, d)
decided_some o OpenAction d = (opening, d)
decided_some o StarAction d = (starring, d)
decided_some o Chain d = (chaining, d)
decided_some o Sum d = (adding, d)
decided_some o CloseAction d = (closing, d)

nested_flag : (fs : List Opened) (stack : List Frame) → Stacked fs stack → not (length stack == 0) ≡ nested fs
nested_flag [] stack s = ap (λ n. not (n == 0)) (ap length s)
nested_flag (f ∷ fs) stack s = ap (λ n. not (n == 0)) (stacked_depth (f ∷ fs) stack s) ∙ ap not (ne_eqb _ 0 (λ e. omega arith))

settled_shorter : (os : List Opening) → length (settled os) ≤ length os
settled_shorter [] = omega arith
settled_shorter (bang ∷ os) = omega (arith, settled_shorter os)
settled_shorter (bracket ∷ os) = omega arith

closed_shorter : (os : List Opening) → length (closed os) ≤ length os
closed_shorter [] = omega arith
closed_shorter (bang ∷ os) = omega (arith, closed_shorter os)
closed_shorter (bracket ∷ os) = omega (arith, settled_shorter os)

-- a symbol that opens nothing leaves no more unfinished
not_deeper : (s : Symbol) (os : List Opening) → opens s ≡ false → length (open_after os s) ≤ length os
not_deeper (Number n) os h = settled_shorter os
not_deeper Drop os h = settled_shorter os
not_deeper Pass os h = settled_shorter os
not_deeper (Mark Not) os h = absurd cc
not_deeper (Mark Open) os h = absurd cc
not_deeper (Mark Close) os h = closed_shorter os
not_deeper _ os h = omega arith

one_deeper : (s : Symbol) (os : List Opening) → opens s ≡ true → length (open_after os s) ≡ suc (length os)
one_deeper (Mark Not) os h = refl
one_deeper (Mark Open) os h = refl
one_deeper _ os h = absurd cc

module _ {was : List ℕ} {ss : List Symbol} {m : Machine} (h : Stands was ss m) (s : Symbol) {empty : Bool} (emptiness : empty ≡ (length m.stack.items == 0)) where
  abbrev g : Parse
  g = h.parsed

  reads : Reads ss g
  reads = run_reads ss g h.ran

  depth_is : length m.stack.items ≡ length (unfinished ss)
  depth_is = stacked_depth g.frames _ h.outline.stacked ∙ sym (reads_depth reads)

  abbrev bracketed : Bool
  bracketed = not empty

  decision_is : decision m.mode bracketed s ≡ decision g.mode (nested g.frames) s
  decision_is = ap (λ x. decision x bracketed s) h.outline.mode ∙ ap (λ b. decision g.mode b s) (ap not emptiness ∙ nested_flag g.frames _ h.outline.stacked)

  next_run : (o : Option Act) → decision m.mode bracketed s ≡ o → runs begin (ss ++ s ∷ []) ≡ bind (acted o g) (λ x. Some x)
  next_run o e = runs_append ss (s ∷ []) begin ∙ ap (λ x. bind x (λ k. runs k (s ∷ []))) h.ran ∙ ap (λ x. bind (acted x g) (λ k. Some k)) (sym decision_is ∙ e)

  pub none_decided : decision m.mode bracketed s ≡ None → Viable (ss ++ s ∷ []) → ⊥
  none_decided e = stuck (ss ++ s ∷ []) (next_run None e)

  level_ok : (opens s ≡ true → length m.stack.items < nesting_limit) → length (unfinished (ss ++ s ∷ [])) ≤ nesting_limit
  level_ok k =
      ⊎_elim (λ t. omega (arith, ap length (fold_push open_after [] ss s), one_deeper s (unfinished ss) t, depth_is, k t))
      (λ f. omega (arith, ap length (fold_push open_after [] ss s), not_deeper s (unfinished ss) f, depth_is, h.outline.within)) (cases_Bool (opens s))

  all_shallow : length (unfinished (ss ++ s ∷ [])) ≤ nesting_limit → (n : ℕ) → length (unfinished (take n (ss ++ s ∷ []))) ≤ nesting_limit
  all_shallow last n =
      ⊎_elim
      (λ past. subst (λ x. length (unfinished x) ≤ nesting_limit) (sym (take_all n (ss ++ s ∷ []) (omega (arith, length_push ss s)))) last)
      (λ within. subst (λ x. length (unfinished x) ≤ nesting_limit) (sym (take-append-le n ss (s ∷ []) within)) (h.shallow n)) (cases_lt (length ss) n)

  -- the automaton with more words needed
  abbrev needing : ℕ → Machine
  needing n = record m { needed = n }

  abbrev pub too_many : Bool
  too_many = opens s && (array_vec_len m.stack == nesting_limit)

  room_left : false ≡ too_many → opens s ≡ true → length m.stack.items < nesting_limit
  room_left few o =
      let ne : length m.stack.items ≢ nesting_limit = eqb-false _ _ (ap (λ b. b && (array_vec_len m.stack == nesting_limit)) (sym o) ∙ sym few) in
      omega (arith, h.outline.within)

  -- an action is decided
  module _ {o : Option Action} (decided : DecidesAct (decision m.mode bracketed s) o) {x : Action} (some : o ≡ Some x) where
    d : DecidesAct (decision m.mode bracketed s) (Some x)
    d = subst (DecidesAct (decision m.mode bracketed s)) some decided

    abbrev a : Act
    a = (decided_some _ x d).0

    is_a : decision m.mode bracketed s ≡ Some a
    is_a = (decided_some _ x d).1

    next_reads : Reads (ss ++ s ∷ []) (act a g)
    next_reads = run_reads (ss ++ s ∷ []) (act a g) (next_run (Some a) is_a)

    next_viable : Viable (ss ++ s ∷ [])
    next_viable = reads_viable next_reads

    pub refused_deep : {place : ℕ} → true ≡ too_many → Stops (length was) ss s place (TooDeep place)
    refused_deep many =
        let k = and_parts (opens s) (array_vec_len m.stack == nesting_limit) (sym many) in
        too_deep next_viable (omega (arith, ap length (fold_push open_after [] ss s), one_deeper s (unfinished ss) k.0, depth_is, eqb-true (length m.stack.items) nesting_limit k.1))

    module _ (few : false ≡ too_many) where
      pub refused_room : {place : ℕ} → length m.memory.now < m.needed + needs s → Stops (length was) ss s place (NoRoom place)
      refused_room full = no_room next_viable (level_ok (room_left few)) (omega (arith, sum_by_push needs ss s, h.count, h.wrote.long))

      module _ {count : ℕ} (counted : (count ≡ m.needed + needs s) × (count ≤ length m.memory.now)) where
        ready_now : Ready a g
        ready_now = ready reads s a (sym decision_is ∙ is_a) (λ t. omega (arith, room_left few t, depth_is, reads_depth reads))

        written_is : m.written + length (extra a g) ≡ length (words_of (act a g))
        written_is = omega (arith, h.wrote.count, ap length (words_grow a g ready_now), length-append (words_of g) (extra a g))

        outline_now : Outline g (needing count)
        outline_now = record { mode = h.outline.mode; level = h.outline.level; stacked = h.outline.stacked; within = h.outline.within }

        is_decided : DecidesAct (Some a) (Some x)
        is_decided = subst (λ o. DecidesAct o (Some x)) is_a d

        -- the action is possible
        pub possible : (a : Act) × DecidesAct (Some a) (Some x) × Possible a (needing count)
        possible = (a, is_decided, (g, outline_now, ready_now, omega (arith, written_is, reads_needs next_reads, sum_by_push needs ss s, h.count)))

        pub stands : (next : Machine) → ((b : Act) → DecidesAct (Some b) (Some x) → Performs b (needing count) next) → Stands was (ss ++ s ∷ []) next × (next.memory.ghost_name ≡ m.memory.ghost_name)
        stands next p =
            let x = p a is_decided g outline_now ready_now in (
              record {
                parsed = act a g;
                ran = next_run (Some a) is_a;
                outline = x.0;
                wrote = subst (Appended was 0 next.memory.now next.written) (sym (words_grow a g ready_now)) (appended_then h.wrote x.1.appended);
                count = x.1.needed ∙ counted.0 ∙ ap (λ n. n + needs s) h.count ∙ sym (sum_by_push needs ss s);
                fits = omega (arith, x.1.needed, h.wrote.long);
                shallow = all_shallow (level_ok (room_left few));
              },
              x.1.lender,
            )
