-- What is decided at a number.
use Rattle.std.proofs.Common.{◌≡◌, ℕ, Bool, true, false, cond, [], ◌∷◌, Some, None, Option, MatchOption, refl, ap}
use Rattle.std.specs.Option.{option_map}
use Rattle.format.specs.Policy.{Policy, postfix}
use Rattle.format.specs.PolicyWords.{bits_of}
use Rattle.format.specs.declared.settings.PolicyWord.{PolicyWord}
use Rattle.tokens.specs.declared.tokens.Symbol.{Symbol}
use Rattle.tokens.specs.declared.tokens.Symbol.TheVariants.{Number}
use Rattle.grammar.specs.declared.machine.Action.{Action}
use Rattle.grammar.specs.declared.machine.Action.TheVariants.{Operand}
use Rattle.grammar.specs.Trees.{operand, value}
use Rattle.grammar.specs.Outlines.{DecidesAct, OfNumber}

-- a legal number has the word of its policy, and no other number has one
abbrev pub WordOf : Bool → Policy → Option PolicyWord → Type 0
WordOf legal p w = MatchOption w (legal ≡ false) (λ w. (legal ≡ true) × (postfix p ≡ bits_of w ∷ []))

word_decides : (b : Bool) (p : Policy) (w : Option PolicyWord) → WordOf b p w → DecidesAct (cond b (Some (operand p)) None) (option_map Operand w)
word_decides b p None h = ap (λ b. cond b (Some (operand p)) None) h
word_decides b p (Some w) h = (p, ap (λ b. cond b (Some (operand p)) None) h.0, h.1)

module _ {made : ℕ → Option PolicyWord → Type 0} (ok : ℕ → Bool) (make : ℕ → Policy) (words : (n : ℕ) (w : Option PolicyWord) → made n w → WordOf (ok n) (make n) w) where
  pub value_decides : (s : Symbol) (a : Option Action) → OfNumber made s a → DecidesAct (value ok make s) a
  value_decides (Number n) a h = rw h.2 (word_decides (ok n) (make n) h.0 (words n h.0 h.1))
  value_decides _ a h = rw h refl
