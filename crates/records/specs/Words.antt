-- The words of diagrams.
use Rattle.std.specs.Prelude.{◌≡◌, ℕ, ◌<◌, ◌≤◌}
use Rattle.format.specs.Words.{word}
use Rattle.records.specs.declared.kinds.Diagram.{Diagram}
use Rattle.records.specs.declared.kinds.Diagram.TheVariants.{Leaf, Branch}

-- a list of pairs goes by its first cell, 0 for drop, and a node by its number
abbrev pub word_of : Diagram → ℕ
word_of (Leaf first) = word 0 0 first.number
word_of (Branch node) = word 1 0 node.number

-- bits are the word of d, and of no other diagram
pub record ItsWord (d : Diagram) (bits : ℕ) : Type 0 where
  pub word : bits ≡ word_of d
  pub alone : (e : Diagram) → word_of e ≡ bits → e ≡ d

-- drop, or the number of one of the cells or nodes in store
abbrev pub Held : ℕ → ℕ → Diagram → Type 0
Held cells nodes (Leaf first) = first.number ≤ cells
Held cells nodes (Branch node) = (0 < node.number) × (node.number ≤ nodes)
