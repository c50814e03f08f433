-- What the lexer hands out, and what the end of the text shows.
use Rattle.std.proofs.Common.{◌≡◌, ℕ, ◌≤◌, List, ◌++◌, length, take, drop, Some, Ok, Err, Option, Result, sym, ap, ◌∙◌, subst, arith}
use Rattle.std.proofs.lemmas.List.{take-append-drop, take-append-le, drop-append-le, length-take, length-take-le}
use Rattle.faults.specs.declared.layers.GrammarFault.{GrammarFault}
use Rattle.faults.specs.declared.layers.TokenFault.{TokenFault}
use Rattle.tokens.specs.declared.tokens.Placed.{Placed}
use Rattle.tokens.specs.declared.tokens.Symbol.{Symbol}
use Rattle.tokens.specs.Lexing.{says, start, Next}
use Rattle.tokens.specs.Symbols.{judged}
use Rattle.grammar.specs.declared.machine.Machine.{Machine}
use Rattle.grammar.specs.Reading.{SymbolAt, NoSymbolAt, Lexes, Stops, Refused, Answers}
use Rattle.grammar.specs.Standing.{Stands, Finished}
use Rattle.grammar.proofs.Complete.{tree_unique}
use Rattle.grammar.proofs.Counts.{sum_needs}
use Rattle.grammar.proofs.Finishing.{accepted}

pub found : {text same : List ℕ} (at after : ℕ) {o t : Option Placed} → same ≡ text → o ≡ t → Next same at (Ok o) after → Next text at (Ok t) after
found {text} {same} at after {o} {t} e k n = subst (λ x. Next x at (Ok t) after) e (subst (λ x. Next same at (Ok x) after) k n)

module _ {text : List ℕ} (at after : ℕ) (t : Placed) (n : Next text at (Ok (Some t)) after) where
  pub symbol_found : {s : Symbol} → Ok s ≡ judged (says t.token) t.place → SymbolAt text at s after
  symbol_found e = record { lexeme = says t.token; starts = n.0; ends = omega (arith, n.3); known = sym (e ∙ ap (judged (says t.token)) n.1) }

  pub symbol_missing : {f : TokenFault} → Err f ≡ judged (says t.token) t.place → NoSymbolAt text at f
  symbol_missing e = NoSymbolAt.unknown n.0 (sym (e ∙ ap (judged (says t.token)) n.1))

pub nothing_found : {text same : List ℕ} {at after : ℕ} (f : TokenFault) → same ≡ text → Next same at (Err f) after → NoSymbolAt text at f
nothing_found {text} {at} {after} f e n =
    let m = subst (λ x. Next x at (Err f) after) e n in
    subst (NoSymbolAt text at) (sym m.2) (NoSymbolAt.nothing_starts m.0 m.1)

pub answers : {text was : List ℕ} {ss : List Symbol} {at : ℕ} {m : Machine} → (now : List ℕ) (r : Result ℕ GrammarFault) → Lexes text ss at → Stands was ss m → length text ≤ start text at → Finished was ss (length text) r now → Answers text (length was) r was now
answers {text} {ss} {at} now (Ok n) lexes h end f =
    record {
      symbols = ss;
      bytes = at;
      lexed = lexes;
      ended = end;
      accepted = accepted h;
      tree = f.0;
      sentence = f.1;
      unique = λ q s. tree_unique ss q f.0 s f.1;
      count = omega (arith, f.2.count);
      words = f.2.front;
      past = f.2.past;
    }
answers {text} {was} now (Err e) lexes h end f = subst (Refused text (length was)) (sym f.0) (Refused.ended lexes (accepted h) end f.1)

pub at_place : {room : ℕ} {ss : List Symbol} {s : Symbol} {p q : ℕ} {e : GrammarFault} → p ≡ q → Stops room ss s p e → Stops room ss s q e
at_place {room} {ss} {s} {e} h r = subst (λ n. Stops room ss s n e) h r

-- the answer in a part of the memory is the answer in all of it
pub answers_within : (text was is : List ℕ) (room : ℕ) (r : Result ℕ GrammarFault) → room ≤ length was → Answers text room r (take room was) is → Answers text room r was (is ++ drop room was)
answers_within text was is room (Ok n) fits a =
    let least : n ≤ room = subst (λ k. k ≤ room) (sym (a.count ∙ sum_needs a.sentence)) a.accepted.fits in
    let few : n ≤ length is = omega (arith, a.count, sym (ap length a.words), length-take n is) in
    record {
      symbols = a.symbols;
      bytes = a.bytes;
      lexed = a.lexed;
      ended = a.ended;
      accepted = a.accepted;
      tree = a.tree;
      sentence = a.sentence;
      unique = a.unique;
      count = a.count;
      words = take-append-le n is (drop room was) few ∙ a.words;
      past = drop-append-le n is (drop room was) few ∙ ap (λ x. x ++ drop room was) a.past ∙ sym (drop-append-le n (take room was) (drop room was) (omega (arith, least, length-take-le room was fits))) ∙ ap (drop n) (take-append-drop room was);
    }
answers_within text was is room (Err e) fits a = a
