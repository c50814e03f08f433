-- A text and the room for its words have one answer.
use Rattle.std.proofs.Common.{◌≡◌, ℕ, ◌≤◌, ◌⊎◌, List, [], ◌∷◌, ◌++◌, length, take, drop, Some, None, Ok, Err, Result, sym, refl, ap, ◌∙◌, subst, inl, inr, ⊎_elim, arith}
use Rattle.std.proofs.lemmas.List.{drop_all, take_all, take-append-le, take-append-drop}
use Rattle.std.proofs.lemmas.List.Sums.{sum_by_push}
use Rattle.std.proofs.lemmas.Bool.{cases_lt}
use Rattle.format.specs.Limits.{nesting_limit}
use Rattle.format.specs.Policy.{Policy, postfix}
use Rattle.faults.specs.declared.layers.GrammarFault.{GrammarFault}
use Rattle.faults.specs.declared.layers.GrammarFault.TheVariants.{Token, Unexpected}
use Rattle.faults.specs.declared.layers.TokenFault.{TokenFault}
use Rattle.tokens.specs.declared.tokens.Symbol.{Symbol}
use Rattle.tokens.specs.Lexing.{Lexeme, Cut, cut, front, Starts, start, ahead}
use Rattle.tokens.specs.Symbols.{judged}
use Rattle.grammar.specs.Sentences.{Sum, unfinished, needs}
use Rattle.grammar.specs.Reading.{SymbolAt, NoSymbolAt, Lexes, Accepted, Stops, Refused, Written}
use Rattle.grammar.proofs.Complete.{tree_unique}
use Rattle.grammar.proofs.Sound.{shorter}

same_cut : {c d : Cut} → Some c ≡ Some d → c ≡ d
same_cut e = cc

front_unique : (bs : List ℕ) {x y : Lexeme} {a b : ℕ} → front bs ≡ Some (cut x a) → front bs ≡ Some (cut y b) → (x ≡ y) × (a ≡ b)
front_unique bs p q =
    let e = same_cut (sym p ∙ q) in
    (ap (λ (c : Cut). c.lexeme) e, ap (λ (c : Cut). c.size) e)

no_cut : (bs : List ℕ) {c : Cut} → front bs ≡ None → front bs ≡ Some c → ⊥
no_cut bs p q = cc

module _ (text : List ℕ) (n : ℕ) where
  symbol_unique : {s t : Symbol} {m k : ℕ} → SymbolAt text n s m → SymbolAt text n t k → (s ≡ t) × (m ≡ k)
  symbol_unique {s} {t} x y =
      let u = front_unique (ahead text n) x.starts y.starts in
      let judge = sym x.known ∙ ap (λ l. judged l (start text n)) u.0 ∙ y.known in
      (cc, omega (arith, u.1, x.ends, y.ends))

  symbol_is_there : {s : Symbol} {m : ℕ} {f : TokenFault} → SymbolAt text n s m → NoSymbolAt text n f → ⊥
  symbol_is_there x (NoSymbolAt.nothing_starts h e) = no_cut (ahead text n) e x.starts
  symbol_is_there {s} {f} x (NoSymbolAt.unknown st j) =
      let u = front_unique (ahead text n) x.starts st in
      let clash : Ok s ≡ Err f = sym x.known ∙ ap (λ l. judged l (start text n)) u.0 ∙ j in
      cc

  nothing_there : {x : Lexeme} {k : ℕ} → length text ≤ start text n → Starts (ahead text n) x k → ⊥
  nothing_there h s = no_cut (ahead text n) (ap front (drop_all (start text n) text h)) s

  fault_unique : {f g : TokenFault} → NoSymbolAt text n f → NoSymbolAt text n g → f ≡ g
  fault_unique (NoSymbolAt.nothing_starts h e) (NoSymbolAt.nothing_starts k d) = refl
  fault_unique (NoSymbolAt.nothing_starts h e) (NoSymbolAt.unknown st j) = absurd (no_cut (ahead text n) e st)
  fault_unique (NoSymbolAt.unknown st j) (NoSymbolAt.nothing_starts h e) = absurd (no_cut (ahead text n) e st)
  fault_unique {f} {g} (NoSymbolAt.unknown st j) (NoSymbolAt.unknown other i) =
      let u = front_unique (ahead text n) st other in
      let judge : Err f ≡ Err g = sym j ∙ ap (λ l. judged l (start text n)) u.0 ∙ i in
      cc

  fault_before_end : {f : TokenFault} → length text ≤ start text n → NoSymbolAt text n f → ⊥
  fault_before_end h (NoSymbolAt.nothing_starts k e) = omega arith
  fault_before_end h (NoSymbolAt.unknown st j) = nothing_there h st

module _ (room : ℕ) (ss : List Symbol) (s : Symbol) where
  stop_unique : {p : ℕ} {e f : GrammarFault} → Stops room ss s p e → Stops room ss s p f → e ≡ f
  stop_unique (Stops.unexpected n) (Stops.unexpected m) = refl
  stop_unique (Stops.unexpected n) (Stops.too_deep v d) = absurd (n v)
  stop_unique (Stops.unexpected n) (Stops.no_room v d r) = absurd (n v)
  stop_unique (Stops.too_deep v d) (Stops.unexpected n) = absurd (n v)
  stop_unique (Stops.too_deep v d) (Stops.too_deep w k) = refl
  stop_unique (Stops.too_deep v d) (Stops.no_room w k r) = absurd (omega arith)
  stop_unique (Stops.no_room v d r) (Stops.unexpected n) = absurd (n v)
  stop_unique (Stops.no_room v d r) (Stops.too_deep w k) = absurd (omega arith)
  stop_unique (Stops.no_room v d r) (Stops.no_room w k q) = refl

  whole_shallow : Accepted room (ss ++ s ∷ []) → length (unfinished (ss ++ s ∷ [])) ≤ nesting_limit
  whole_shallow a = subst (λ x. length (unfinished x) ≤ nesting_limit) (take_all (length (ss ++ s ∷ [])) (ss ++ s ∷ []) (omega arith)) (a.shallow (length (ss ++ s ∷ [])))

  accepted_goes_on : {p : ℕ} {e : GrammarFault} → Accepted room (ss ++ s ∷ []) → Stops room ss s p e → ⊥
  accepted_goes_on a (Stops.unexpected n) = n a.viable
  accepted_goes_on a (Stops.too_deep v d) = omega (arith, whole_shallow a)
  accepted_goes_on a (Stops.no_room v d r) = omega (arith, a.fits)

  accepted_before : Accepted room (ss ++ s ∷ []) → Accepted room ss
  accepted_before a =
      record {
        viable = shorter ss (s ∷ []) a.viable;
        shallow = λ n.
            ⊎_elim
            (λ past. subst (λ x. length (unfinished x) ≤ nesting_limit) (take-append-le (length ss) ss (s ∷ []) (omega arith) ∙ take_all (length ss) ss (omega arith) ∙ sym (take_all n ss (omega arith))) (a.shallow (length ss)))
            (λ within. subst (λ x. length (unfinished x) ≤ nesting_limit) (take-append-le n ss (s ∷ []) within) (a.shallow n)) (cases_lt (length ss) n);
        fits = omega (arith, a.fits, sum_by_push needs ss s);
      }

-- from the symbols of n bytes on, the lexer comes to those of m bytes
data Further (text : List ℕ) : List Symbol → ℕ → List Symbol → ℕ → Type 0 where
  here : {ss : List Symbol} {n : ℕ} → Further text ss n ss n
  on : {ss ts : List Symbol} {n k m : ℕ} {s : Symbol} → SymbolAt text n s k → Further text (ss ++ s ∷ []) k ts m → Further text ss n ts m

further_more : {text : List ℕ} {ss ts : List Symbol} {n m k : ℕ} {s : Symbol} → Further text ss n ts m → SymbolAt text m s k → Further text ss n (ts ++ s ∷ []) k
further_more Further.here x = Further.on x Further.here
further_more (Further.on y f) x = Further.on y (further_more f x)

from_start : {text : List ℕ} {ts : List Symbol} {m : ℕ} → Lexes text ts m → Further text [] 0 ts m
from_start Lexes.none = Further.here
from_start (Lexes.more l x) = further_more (from_start l) x

step_on : {text : List ℕ} {ss ts : List Symbol} {n m k : ℕ} {s : Symbol} → SymbolAt text n s k → Further text ss n ts m → Further text (ss ++ s ∷ []) k ts m ⊎ Further text ts m (ss ++ s ∷ []) k
step_on x Further.here = inr (Further.on x Further.here)
step_on {text} {ss} {ts} {n} {m} {k} x (Further.on {k = j} {s = r} y f) =
    let u = symbol_unique text n y x in
    inl (subst (λ (t : Symbol). Further text (ss ++ t ∷ []) k ts m) u.0 (subst (λ i. Further text (ss ++ r ∷ []) i ts m) u.1 f))

-- one of two readings is the beginning of the other
compare : {text : List ℕ} {ss ts : List Symbol} {n m : ℕ} → Lexes text ss n → Lexes text ts m → Further text ss n ts m ⊎ Further text ts m ss n
compare Lexes.none b = inl (from_start b)
compare (Lexes.more a x) b = ⊎_elim (step_on x) (λ f. inr (further_more f x)) (compare a b)

accepted_prefix : {text : List ℕ} {room : ℕ} {ss ts : List Symbol} {n m : ℕ} → Further text ss n ts m → Accepted room ts → Accepted room ss
accepted_prefix Further.here a = a
accepted_prefix {room} {ss} (Further.on {s} y f) a = accepted_before room ss s (accepted_prefix f a)

-- what is seen where reading ends
data Ends (text : List ℕ) (room : ℕ) : List Symbol → ℕ → Result Policy GrammarFault → Type 0 where
  sentence : {ss : List Symbol} {n : ℕ} {p : Policy} → length text ≤ start text n → Sum ss p → Ends text room ss n (Ok p)
  no_sentence : {ss : List Symbol} {n : ℕ} → length text ≤ start text n → ((p : Policy) → Sum ss p → ⊥) → Ends text room ss n (Err (Unexpected (length text)))
  missing : {ss : List Symbol} {n : ℕ} {f : TokenFault} → NoSymbolAt text n f → Ends text room ss n (Err (Token f))
  stopped : {ss : List Symbol} {n m : ℕ} {s : Symbol} {e : GrammarFault} → SymbolAt text n s m → Stops room ss s (start text n) e → Ends text room ss n (Err e)

ends_there : {text : List ℕ} {room : ℕ} {ss : List Symbol} {n : ℕ} {r q : Result Policy GrammarFault} → Ends text room ss n r → Ends text room ss n q → r ≡ q
ends_there {ss} (Ends.sentence {p} h s) (Ends.sentence {p = q} k t) = ap Ok (tree_unique ss p q s t)
ends_there (Ends.sentence h s) (Ends.no_sentence k no_tree) = absurd (no_tree _ s)
ends_there (Ends.sentence h s) (Ends.missing x) = absurd (fault_before_end _ _ h x)
ends_there (Ends.sentence h s) (Ends.stopped x t) = absurd (nothing_there _ _ h x.starts)
ends_there (Ends.no_sentence h no_tree) (Ends.sentence k t) = absurd (no_tree _ t)
ends_there (Ends.no_sentence h s) (Ends.no_sentence k t) = refl
ends_there (Ends.no_sentence h s) (Ends.missing x) = absurd (fault_before_end _ _ h x)
ends_there (Ends.no_sentence h s) (Ends.stopped x t) = absurd (nothing_there _ _ h x.starts)
ends_there (Ends.missing x) (Ends.sentence h s) = absurd (fault_before_end _ _ h x)
ends_there (Ends.missing x) (Ends.no_sentence h s) = absurd (fault_before_end _ _ h x)
ends_there (Ends.missing x) (Ends.missing y) = ap (λ (f : TokenFault). Err (Token f)) (fault_unique _ _ x y)
ends_there (Ends.missing x) (Ends.stopped y t) = absurd (symbol_is_there _ _ y x)
ends_there (Ends.stopped x t) (Ends.sentence h s) = absurd (nothing_there _ _ h x.starts)
ends_there (Ends.stopped x t) (Ends.no_sentence h s) = absurd (nothing_there _ _ h x.starts)
ends_there (Ends.stopped x t) (Ends.missing y) = absurd (symbol_is_there _ _ x y)
ends_there {text} {room} {ss} {n} (Ends.stopped {s} x t) (Ends.stopped {e = d} y u) =
    ap Err (stop_unique room ss s t (subst (λ s. Stops room ss s (start text n) d) (symbol_unique text n y x).0 u))

-- reading does not end where it goes on with accepted symbols
goes_on : {text : List ℕ} {room : ℕ} {ss : List Symbol} {n k : ℕ} {s : Symbol} {r : Result Policy GrammarFault} → Ends text room ss n r → SymbolAt text n s k → Accepted room (ss ++ s ∷ []) → ⊥
goes_on (Ends.sentence h s) x a = nothing_there _ _ h x.starts
goes_on (Ends.no_sentence h s) x a = nothing_there _ _ h x.starts
goes_on (Ends.missing f) x a = symbol_is_there _ _ x f
goes_on {text} {room} {ss} {n} {s} (Ends.stopped {e} y t) x a = accepted_goes_on room ss s a (subst (λ s. Stops room ss s (start text n) e) (symbol_unique text n y x).0 t)

ends_further : {text : List ℕ} {room : ℕ} {ss ts : List Symbol} {n m : ℕ} {r q : Result Policy GrammarFault} → Further text ss n ts m → Ends text room ss n r → Accepted room ts → Ends text room ts m q → r ≡ q
ends_further Further.here e a d = ends_there e d
ends_further (Further.on y f) e a d = absurd (goes_on e y (accepted_prefix f a))

-- where and how a reading of the text ended
record Reading (text : List ℕ) (room : ℕ) (r : Result Policy GrammarFault) : Type 0 where
  symbols : List Symbol
  bytes : ℕ
  lexed : Lexes text symbols bytes
  accepted : Accepted room symbols
  ends : Ends text room symbols bytes r

one_reading : {text : List ℕ} {room : ℕ} {r q : Result Policy GrammarFault} → Reading text room r → Reading text room q → r ≡ q
one_reading x y = ⊎_elim (λ f. ends_further f x.ends y.accepted y.ends) (λ f. sym (ends_further f y.ends x.accepted x.ends)) (compare x.lexed y.lexed)

result_of : {text : List ℕ} {room n : ℕ} {was is : List ℕ} → (w : Written text room n was is) → Reading text room (Ok w.tree)
result_of w = record { symbols = w.symbols; bytes = w.bytes; lexed = w.lexed; accepted = w.accepted; ends = Ends.sentence w.ended w.sentence }

fault_of : {text : List ℕ} {room : ℕ} {e : GrammarFault} → Refused text room e → Reading text room (Err e)
fault_of (Refused.no_symbol l a x) = record { symbols = _; bytes = _; lexed = l; accepted = a; ends = Ends.missing x }
fault_of (Refused.stopped l a x s) = record { symbols = _; bytes = _; lexed = l; accepted = a; ends = Ends.stopped x s }
fault_of (Refused.ended l a h s) = record { symbols = _; bytes = _; lexed = l; accepted = a; ends = Ends.no_sentence h s }

pub accepted_or_refused : {text : List ℕ} {room n : ℕ} {was is : List ℕ} {e : GrammarFault} → Written text room n was is → Refused text room e → ⊥
accepted_or_refused w r =
    let clash = one_reading (result_of w) (fault_of r) in
    cc

pub one_fault : {text : List ℕ} {room : ℕ} {e f : GrammarFault} → Refused text room e → Refused text room f → e ≡ f
one_fault r q =
    let same = one_reading (fault_of r) (fault_of q) in
    cc

same_trees : {p q : Policy} → ◌≡◌ {A = Result Policy GrammarFault} (Ok p) (Ok q) → p ≡ q
same_trees e = cc

-- the words are the same, and so is all memory
pub one_result : {text : List ℕ} {room n m : ℕ} {was is also : List ℕ} → Written text room n was is → Written text room m was also → (n ≡ m) × (is ≡ also)
one_result {n} {m} {was} {is} {also} w v =
    let p = ap postfix (same_trees (one_reading (result_of w) (result_of v))) in
    let e : n ≡ m = w.count ∙ ap length p ∙ sym v.count in (
      e,
      sym (take-append-drop n is) ∙ ap (λ x. x ++ drop n is) (w.words ∙ p ∙ sym v.words ∙ ap (λ k. take k also) (sym e))
          ∙ ap (λ x. take n also ++ x) (w.past ∙ ap (λ k. drop k was) e ∙ sym v.past ∙ ap (λ k. drop k also) (sym e)) ∙ take-append-drop n also,
    )
