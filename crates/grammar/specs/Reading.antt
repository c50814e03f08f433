-- When a text is accepted, and where and why it is refused.
use Rattle.std.specs.Prelude.{◌≡◌, ℕ, ◌-◌, ◌<◌, ◌≤◌, min, List, [], ◌∷◌, ◌++◌, length, take, drop, None, Ok, Err, Result}
use Rattle.format.specs.Limits.{nesting_limit, words_limit}
use Rattle.format.specs.Policy.{Policy, postfix}
use Rattle.faults.specs.declared.layers.TokenFault.{TokenFault}
use Rattle.faults.specs.declared.layers.TokenFault.TheVariants.{NoToken}
use Rattle.faults.specs.declared.layers.GrammarFault.{GrammarFault}
use Rattle.faults.specs.declared.layers.GrammarFault.TheVariants.{Token, Unexpected, TooDeep, NoRoom}
use Rattle.tokens.specs.declared.tokens.Symbol.{Symbol}
use Rattle.tokens.specs.Lexing.{Lexeme, front, Starts, start, ahead}
use Rattle.tokens.specs.Symbols.{judged}
use Rattle.grammar.specs.Sentences.{Sum, Viable, unfinished, needed}

-- the next symbol after the first n bytes is s, and it ends before byte m
pub record SymbolAt (text : List ℕ) (n : ℕ) (s : Symbol) (m : ℕ) : Type 0 where
  pub lexeme : Lexeme
  pub starts : Starts (ahead text n) lexeme (m - start text n)
  pub ends : start text n ≤ m
  pub known : judged lexeme (start text n) ≡ Ok s

-- after the first n bytes no symbol stands next, but something does
pub data NoSymbolAt (text : List ℕ) (n : ℕ) : TokenFault → Type 0 where
  nothing_starts : start text n < length text → front (ahead text n) ≡ None → NoSymbolAt text n (NoToken (start text n))
  unknown : {x : Lexeme} {k : ℕ} {t : TokenFault} → Starts (ahead text n) x k → judged x (start text n) ≡ Err t → NoSymbolAt text n t

-- ss are the symbols of the first n bytes
pub data Lexes (text : List ℕ) : List Symbol → ℕ → Type 0 where
  none : Lexes text [] 0
  more : {ss : List Symbol} {n m : ℕ} {s : Symbol} → Lexes text ss n → SymbolAt text n s m → Lexes text (ss ++ s ∷ []) m

-- how many words a memory of n words takes
abbrev pub room_in : ℕ → ℕ
room_in n = min n words_limit

-- nothing is wrong with these symbols as the beginning of a text
pub record Accepted (room : ℕ) (ss : List Symbol) : Type 0 where
  pub viable : Viable ss
  pub shallow : (n : ℕ) → length (unfinished (take n ss)) ≤ nesting_limit
  pub fits : needed ss ≤ room

-- after symbols that were accepted, the symbol s at a place is refused; what stands first here comes first
pub data Stops (room : ℕ) (ss : List Symbol) (s : Symbol) (place : ℕ) : GrammarFault → Type 0 where
  unexpected : (Viable (ss ++ s ∷ []) → ⊥) → Stops room ss s place (Unexpected place)
  too_deep : Viable (ss ++ s ∷ []) → nesting_limit < length (unfinished (ss ++ s ∷ [])) → Stops room ss s place (TooDeep place)
  no_room : Viable (ss ++ s ∷ []) → length (unfinished (ss ++ s ∷ [])) ≤ nesting_limit → room < needed (ss ++ s ∷ []) → Stops room ss s place (NoRoom place)

-- the text is refused at the first place where something is wrong
pub data Refused (text : List ℕ) (room : ℕ) : GrammarFault → Type 0 where
  no_symbol : {ss : List Symbol} {n : ℕ} {t : TokenFault} → Lexes text ss n → Accepted room ss → NoSymbolAt text n t → Refused text room (Token t)
  stopped : {ss : List Symbol} {n m : ℕ} {s : Symbol} {e : GrammarFault} → Lexes text ss n → Accepted room ss → SymbolAt text n s m → Stops room ss s (start text n) e → Refused text room e
  ended : {ss : List Symbol} {n : ℕ} → Lexes text ss n → Accepted room ss → length text ≤ start text n → ((p : Policy) → Sum ss p → ⊥) → Refused text room (Unexpected (length text))

-- the text is a sentence, and its n words are written
pub record Written (text : List ℕ) (room : ℕ) (n : ℕ) (was is : List ℕ) : Type 0 where
  pub symbols : List Symbol
  pub bytes : ℕ
  pub lexed : Lexes text symbols bytes
  pub ended : length text ≤ start text bytes
  pub accepted : Accepted room symbols
  pub tree : Policy
  pub sentence : Sum symbols tree
  pub unique : (q : Policy) → Sum symbols q → q ≡ tree
  pub count : n ≡ length (postfix tree)
  pub words : take n is ≡ postfix tree
  pub past : drop n is ≡ drop n was

-- the answer to a text of any length, and the memory before and after
abbrev pub Answers : List ℕ → ℕ → Result ℕ GrammarFault → List ℕ → List ℕ → Type 0
Answers text room (Ok n) was is = Written text room n was is
Answers text room (Err e) was is = Refused text room e
