-- The end of the text, and the whole of it.
use Rattle.std.proofs.Common.{◌≡◌, ℕ, zero, suc, ◌+◌, ◌≤◌, true, false, ◌==◌, List, [], ◌++◌, length, take, Some, None, sym, refl, ap, ◌∙◌, subst, arith, length-append}
use Rattle.std.proofs.lemmas.List.{nil_from_length}
use Rattle.std.proofs.lemmas.Bool.{eqb-true}
use Rattle.format.specs.Limits.{nesting_limit}
use Rattle.format.specs.Policy.{Policy, postfix}
use Rattle.tokens.specs.declared.tokens.Symbol.{Symbol}
use Rattle.grammar.specs.declared.machine.Frame.{Frame}
use Rattle.grammar.specs.declared.machine.Machine.{Machine}
use Rattle.grammar.specs.declared.machine.Mode.{Mode}
use Rattle.grammar.specs.declared.machine.Mode.TheVariants.{Operand, Operator}
use Rattle.grammar.specs.Sentences.{Sum, unfinished}
use Rattle.grammar.specs.Trees.{Parse, parse, begin, summed}
use Rattle.grammar.specs.Outlines.{Appended, output, Emitted, words_of, held, level_of, level_words}
use Rattle.grammar.specs.Reading.{Accepted}
use Rattle.grammar.specs.Standing.{Stands, final}
use Rattle.grammar.proofs.Appending.{appended_then, nothing_appended}
use Rattle.grammar.proofs.Complete.{sum_runs}
use Rattle.grammar.proofs.Counts.{sum_needs}
use Rattle.grammar.proofs.Outlining.{stacked_depth}
use Rattle.grammar.proofs.Ready.{summed_words}
use Rattle.grammar.proofs.Sound.{run_reads, reads_viable, ends}

nothing_open : (n : ℕ) → length (unfinished (take n [])) ≤ nesting_limit
nothing_open zero = omega arith
nothing_open (suc n) = omega arith

pub start_stands : (was : List ℕ) (m : Machine) → m.mode ≡ Operand → m.level ≡ level_of None None → m.stack.items ≡ [] → m.memory.now ≡ was → m.needed ≡ 0 → m.written ≡ 0 → Stands was [] m
start_stands was m mode level stack memory needed written =
    record {
      parsed = begin;
      ran = refl;
      outline = record { mode = mode; level = level; stacked = stack; within = omega (arith, ap length stack) };
      wrote = subst (λ is. Appended was 0 is m.written []) (sym memory) (subst (λ n. Appended was 0 was n []) (sym written) (nothing_appended was 0));
      count = needed;
      fits = omega arith;
      shallow = nothing_open;
    }

final_mode : (m : Mode) (stack : List Frame) → final m stack ≡ true → (m ≡ Operator) × (length stack ≡ 0)
final_mode Operator stack e = (refl, eqb-true _ 0 e)
final_mode _ stack e = absurd cc

module _ {was : List ℕ} {ss : List Symbol} {m : Machine} (h : Stands was ss m) where
  abbrev g : Parse
  g = h.parsed

  pub accepted : Accepted (length was) ss
  accepted = record { viable = reads_viable (run_reads ss g h.ran); shallow = h.shallow; fits = subst (λ n. n ≤ length was) h.count h.fits }

  module _ (e : final m.mode m.stack.items ≡ true) where
    whole : g ≡ parse Operator g.left g.early [] g.tree
    whole =
        let f = final_mode m.mode m.stack.items e in
        let p = sym h.outline.mode ∙ f.0 in
        let q = nil_from_length g.frames (sym (stacked_depth g.frames _ h.outline.stacked) ∙ f.1) in
        λ i. parse (p i) g.left g.early (q i) g.tree

    tree : Policy
    tree = summed g.left g.early g.tree

    pub sentence : Sum ss (summed g.left g.early g.tree)
    sentence = ends ss g.left g.early g.tree (h.ran ∙ ap Some whole)

    words : words_of g ++ level_words m.level ≡ postfix (summed g.left g.early g.tree)
    words =
        ap (λ x. words_of x ++ level_words m.level) whole
        ∙ ap (λ l. ((held g.left ++ held g.early) ++ postfix g.tree) ++ level_words l) h.outline.level
        ∙ sym (summed_words g.left g.early g.tree)

    pub room_to_end : m.written + length (level_words m.level) ≤ length m.memory.now
    room_to_end = omega (arith, h.wrote.count, length-append (words_of g) (level_words m.level), ap length words, sum_needs sentence, h.count, h.fits, h.wrote.long)

    pub finished : (next : Machine) → Emitted (output m) (output next) (level_words m.level) → (p : Policy) × Sum ss p × Appended was 0 next.memory.now next.written (postfix p)
    finished next x = (summed g.left g.early g.tree, sentence, subst (Appended was 0 next.memory.now next.written) words (appended_then h.wrote x.appended))

  pub not_finished : final m.mode m.stack.items ≡ false → (p : Policy) → Sum ss p → ⊥
  not_finished e p s =
      let x = sum_runs s [] Policy.Drop tt in
      let same : Some g ≡ Some (parse Operator x.0 x.1 [] x.2) = sym h.ran ∙ x.3 in
      let is_g : g ≡ parse Operator x.0 x.1 [] x.2 = cc in
      let md = h.outline.mode ∙ ap (λ (k : Parse). k.mode) is_g in
      let dp = stacked_depth g.frames _ h.outline.stacked ∙ ap (λ (k : Parse). length k.frames) is_g in
      let t : final m.mode m.stack.items ≡ true = ap (λ k. final k m.stack.items) md ∙ ap (λ d. d == 0) dp in
      let clash : false ≡ true = sym e ∙ t in
      cc
