-- The construction of a policy's word, from the diagrams of its operands. It serves proofs alone: what the engine promises is in Views, Listed and what they cite.
use Rattle.std.specs.Prelude.{◌≡◌, ℕ, zero, suc, List, [], ◌∷◌, drop, map, reverse}
use Rattle.weights.specs.Weights.{Ops}
use Rattle.format.specs.Words.{kind_of, field_of, value_of}
use Rattle.format.specs.PolicyWords.{bits_of, LegalWord}
use Rattle.format.specs.declared.settings.PolicyWord.{PolicyWord}
use Rattle.records.specs.declared.kinds.Diagram.{Diagram as WordOfDiagram}
use Rattle.engine.specs.declared.operand_stack.OperandStack.{OperandStack}
use Rattle.engine.specs.InTurn.{Then}
use Rattle.format.specs.Policy.Policy.{Drop, Pass, Test, Set, Cost}
use Rattle.meaning.specs.Diagrams.{Diagram}
use Rattle.requests.specs.Rules.{Compiled, Negates, Joins, Sequences, Stars}
use Rattle.requests.specs.Claims.{Construction}

abbrev pub never : Construction
never r x = ⊥

-- by the kind, the field and the value of the word; the operands stand here the last one first
abbrev pub by_kind : Ops → ℕ → ℕ → ℕ → List Diagram → Construction
by_kind o zero f n ds = Compiled o Drop
by_kind o (suc zero) f n ds = Compiled o Pass
by_kind o (suc (suc zero)) f n ds = Compiled o (Test f n)
by_kind o (suc (suc (suc zero))) f n ds = Compiled o (Set f n)
by_kind o (suc (suc (suc (suc zero)))) f n ds = Compiled o (Cost n)
by_kind o (suc (suc (suc (suc (suc zero))))) f n [] = never
by_kind o (suc (suc (suc (suc (suc zero))))) f n (d ∷ ds) = Negates o d
by_kind o (suc (suc (suc (suc (suc (suc zero)))))) f n [] = never
by_kind o (suc (suc (suc (suc (suc (suc zero)))))) f n (e ∷ []) = never
by_kind o (suc (suc (suc (suc (suc (suc zero)))))) f n (e ∷ (d ∷ ds)) = Joins o d e
by_kind o (suc (suc (suc (suc (suc (suc (suc zero))))))) f n [] = never
by_kind o (suc (suc (suc (suc (suc (suc (suc zero))))))) f n (e ∷ []) = never
by_kind o (suc (suc (suc (suc (suc (suc (suc zero))))))) f n (e ∷ (d ∷ ds)) = Sequences o e d
by_kind o (suc (suc (suc (suc (suc (suc (suc (suc zero)))))))) f n [] = never
by_kind o (suc (suc (suc (suc (suc (suc (suc (suc zero)))))))) f n (d ∷ ds) = Stars o d
by_kind o (suc (suc (suc (suc (suc (suc (suc (suc (suc k))))))))) f n ds = never

abbrev pub by_bits : Ops → ℕ → List Diagram → Construction
by_bits o b ds = by_kind o (kind_of b) (field_of b) (value_of b) ds

-- how many operands a word takes, by its kind
abbrev pub taken : ℕ → ℕ
taken zero = 0
taken (suc zero) = 0
taken (suc (suc zero)) = 0
taken (suc (suc (suc zero))) = 0
taken (suc (suc (suc (suc zero)))) = 0
taken (suc (suc (suc (suc (suc zero))))) = 1
taken (suc (suc (suc (suc (suc (suc zero)))))) = 2
taken (suc (suc (suc (suc (suc (suc (suc zero))))))) = 2
taken (suc (suc (suc (suc (suc (suc (suc (suc zero)))))))) = 1
taken (suc (suc (suc (suc (suc (suc (suc (suc (suc k))))))))) = 0

-- the same by the word itself
abbrev pub by_word : Ops → PolicyWord → List Diagram → Construction
by_word o PolicyWord.Drop ds = Compiled o Drop
by_word o PolicyWord.Pass ds = Compiled o Pass
by_word o (PolicyWord.Test s) ds = Compiled o (Test s.field s.value)
by_word o (PolicyWord.Set s) ds = Compiled o (Set s.field s.value)
by_word o (PolicyWord.Cost a) ds = Compiled o (Cost a.number)
by_word o PolicyWord.Not [] = never
by_word o PolicyWord.Not (d ∷ ds) = Negates o d
by_word o PolicyWord.Union [] = never
by_word o PolicyWord.Union (e ∷ []) = never
by_word o PolicyWord.Union (e ∷ (d ∷ ds)) = Joins o d e
by_word o PolicyWord.Sequence [] = never
by_word o PolicyWord.Sequence (e ∷ []) = never
by_word o PolicyWord.Sequence (e ∷ (d ∷ ds)) = Sequences o e d
by_word o PolicyWord.Star [] = never
by_word o PolicyWord.Star (d ∷ ds) = Stars o d

-- what the words so far ask of the rest: the construction that the words ws make where operands wait
abbrev pub Runs : Ops → List ℕ → List Diagram → Construction
Runs o [] ds r x = (ds ≡ r ∷ []) × (x ≡ [])
Runs o (b ∷ ws) ds r x = Then (by_bits o b ds) (λ d. Runs o ws (d ∷ drop (taken (kind_of b)) ds)) r x

-- the bits are those of a legal word
abbrev pub IsWord : ℕ → Type 0
IsWord bits = (w : PolicyWord) × LegalWord w × (bits_of w ≡ bits)

-- the words of diagrams that wait, the last one first
abbrev pub waiting_words : OperandStack → List WordOfDiagram
waiting_words w = map (λ x. x.diagram) (reverse w.operands.items)
