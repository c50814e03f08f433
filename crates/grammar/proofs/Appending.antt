-- Words written one after another.
use Rattle.std.proofs.Common.{◌≡◌, ℕ, ◌+◌, ◌-◌, ◌<◌, ◌≤◌, List, [], ◌∷◌, ◌++◌, length, take, drop, sym, refl, ap, ◌∙◌, subst, append_assoc, append-nil, add-zero, arith, length-append}
use Rattle.std.proofs.lemmas.List.{drop-drop, same_from_push}
use Rattle.format.specs.Words.{word}
use Rattle.grammar.specs.declared.machine.Frame.{Frame}
use Rattle.grammar.specs.declared.machine.Frame.TheVariants.{Negation}
use Rattle.grammar.specs.Trees.{Opened, negation, group, rest}
use Rattle.grammar.specs.Outlines.{Appended, Output, Emitted, not_words, Stacked}

pub nothing_appended : (was : List ℕ) (at : ℕ) → Appended was at was at []
nothing_appended was at = record { count = sym (add-zero at); front = sym (append-nil _); past = refl; long = refl }

pub nothing_emitted : (o : Output) → Emitted o o []
nothing_emitted o = record { appended = nothing_appended _ _; needed = refl; lender = refl }

past_further : (was is : List ℕ) (b c : ℕ) → b ≤ c → drop b is ≡ drop b was → drop c is ≡ drop c was
past_further was is b c h e =
    let n : b + (c - b) ≡ c = omega arith in
    subst (λ k. drop k is ≡ drop k was) n (sym (drop-drop (c - b) b is) ∙ ap (drop (c - b)) e ∙ drop-drop (c - b) b was)

pub appended_then : {was mid is : List ℕ} {a b c : ℕ} {ws us : List ℕ} → Appended was a mid b ws → Appended mid b is c us → Appended was a is c (ws ++ us)
appended_then {was} {mid} {is} {a} {b} {c} {ws} {us} x y =
    record {
      count = omega (arith, x.count, y.count, length-append ws us);
      front = y.front ∙ ap (λ l. l ++ us) x.front ∙ append_assoc (take a was) ws us;
      past = y.past ∙ past_further was mid b c (omega (arith, y.count)) x.past;
      long = y.long ∙ x.long;
    }

pub emitted_then : {o mid next : Output} {ws us : List ℕ} → Emitted o mid ws → Emitted mid next us → Emitted o next (ws ++ us)
emitted_then x y = record { appended = appended_then x.appended y.appended; needed = y.needed ∙ x.needed; lender = y.lender ∙ x.lender }

pub emitted_words : {o next : Output} {ws us : List ℕ} → ws ≡ us → Emitted o next ws → Emitted o next us
emitted_words {o} {next} e x = subst (Emitted o next) e x

-- so far the top frames were negations, and their words are written
pub record Turned (fs : List Opened) (stack : List Frame) (o next : Output) : Type 0 where
  pub below : List Opened
  pub written : List ℕ
  pub stacked : Stacked below stack
  pub same : rest fs ≡ rest below
  pub words : not_words fs ≡ written ++ not_words below
  pub emitted : Emitted o next written

pub turned_none : (fs : List Opened) (stack : List Frame) (o : Output) → Stacked fs stack → Turned fs stack o o
turned_none fs stack o s = record { below = fs; written = []; stacked = s; same = refl; words = refl; emitted = nothing_emitted o }

module _ {fs : List Opened} {stack : List Frame} {o next : Output} (t : Turned fs stack o next) where
  -- a negation is on top: its word is written, and then the frame is gone
  abbrev OneMore : List Frame → Output → Type 0
  OneMore left then = Emitted next then (word 5 0 0 ∷ []) → Turned fs left o then

  pub turned_more : (left : List Frame) (then : Output) → stack ≡ left ++ Negation ∷ [] → OneMore left then
  turned_more left then top e = go t.below t.stacked t.same t.words
    where
      go : (below : List Opened) → Stacked below stack → rest fs ≡ rest below → not_words fs ≡ t.written ++ not_words below → Turned fs left o then
      go [] s p q = absurd (omega (arith, ap length top, ap length s, length-append left (Negation ∷ [])))
      go (negation ∷ below) s p q =
          record {
            below = below;
            written = t.written ++ word 5 0 0 ∷ [];
            stacked = subst (Stacked below) (same_from_push s.0 left _ _ (sym s.1 ∙ top)).0 s.2;
            same = p;
            words = q ∙ sym (append_assoc t.written (word 5 0 0 ∷ []) (not_words below));
            emitted = emitted_then t.emitted e;
          }
      go (group l d ∷ below) s p q = let clash = (same_from_push s.0 left _ _ (sym s.1 ∙ top)).1 in absurd cc

  -- the top frame is no negation any more
  pub turned_ends : ((left : List Frame) → stack ≡ left ++ Negation ∷ [] → ⊥) → Stacked (rest fs) stack × Emitted o next (not_words fs)
  turned_ends other = go t.below t.stacked t.same t.words
    where
      go : (below : List Opened) → Stacked below stack → rest fs ≡ rest below → not_words fs ≡ t.written ++ not_words below → Stacked (rest fs) stack × Emitted o next (not_words fs)
      go [] s p q = (subst (λ x. Stacked x stack) (sym p) s, emitted_words (sym (q ∙ append-nil t.written)) t.emitted)
      go (negation ∷ below) s p q = absurd (other s.0 s.1)
      go (group l d ∷ below) s p q = (subst (λ x. Stacked x stack) (sym p) s, emitted_words (sym (q ∙ append-nil t.written)) t.emitted)

  -- there is room for the word of a negation on top
  pub room_for_not : (left : List Frame) → stack ≡ left ++ Negation ∷ [] → o.written + length (not_words fs) ≤ length o.memory → next.written < length next.memory
  room_for_not left top room = go t.below t.stacked t.words
    where
      go : (below : List Opened) → Stacked below stack → not_words fs ≡ t.written ++ not_words below → next.written < length next.memory
      go [] s q = absurd (omega (arith, ap length top, ap length s, length-append left (Negation ∷ [])))
      go (negation ∷ below) s q =
          omega (arith, t.emitted.appended.count, t.emitted.appended.long, ap length q, length-append t.written (word 5 0 0 ∷ not_words below))
      go (group l d ∷ below) s q = let clash = (same_from_push s.0 left _ _ (sym s.1 ∙ top)).1 in absurd cc
