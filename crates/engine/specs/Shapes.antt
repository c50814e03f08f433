-- What a word shows of its diagram.
use Rattle.std.specs.Prelude.{◌≡◌, ℕ, List, [], ◌∷◌, Some, None, Option}
use Rattle.meaning.specs.Leaves.{Cell}
use Rattle.meaning.specs.Diagrams.{Diagram, Leaf, Node}
use Rattle.stored.specs.Stored.{Stored, diagram}
use Rattle.engine.specs.declared.shape.Shape.{Shape}
use Rattle.engine.specs.declared.shape.Shape.TheVariants as shape

-- the top of the word's diagram, and the words of what stands below it; none if the word is not held
abbrev pub Shows : Stored → ℕ → Option Shape → Type 0
Shows s word None = diagram s word ≡ None
Shows s word (Some shape.Drop) = diagram s word ≡ Some (Leaf [])
Shows s word (Some (shape.Cell a w rest)) = (l : List Cell) × (diagram s word ≡ Some (Leaf ((a.sets, w) ∷ l))) × (diagram s rest ≡ Some (Leaf l))
Shows s word (Some (shape.Test t yes_word no_word)) =
    (y : Diagram) × (z : Diagram) × (diagram s word ≡ Some (Node t.field t.value y z)) × (diagram s yes_word ≡ Some y) × (diagram s no_word ≡ Some z)
