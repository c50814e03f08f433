-- Texts whose bytes are known.
use Rattle.std.specs.Prelude.{ℕ, List, [], ◌∷◌, codes}
use Rattle.weights.specs.Weights.{Ops}
use Rattle.weights.specs.Kinds.{reach_ops}
use Rattle.compiler.specs.Texts.{bytes_of_words, Compiles, OnlyBytes}

-- the text is compiled to these bytes and to no others
abbrev pub CompilesTo : Ops → List ℕ → List ℕ → Type 0
CompilesTo o text bytes = Compiles o text bytes × OnlyBytes o text bytes

pub record KnownTexts : Type 0 where
  pub a_port_moved :
      CompilesTo reach_ops (codes "pt=1;pt:=2")
      (bytes_of_words (0xA1000001 ∷ 0xB1000001 ∷ 0xC0000001 ∷ 0xD1000002 ∷ 0xA0000000 ∷ 0xE0000002 ∷ []))
  pub a_set_negated : CompilesTo reach_ops (codes "!pt:=3") (codes "refused 8 layer 3 place 1\n")
