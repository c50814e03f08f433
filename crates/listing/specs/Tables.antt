-- What the table of a diagram is and does.
use Rattle.std.specs.Prelude.{◌≡◌, ℕ, ◌+◌, ◌≤◌, true, false, List, [], ◌∷◌, ◌++◌, length, slice_index}
use Rattle.std.specs.List.{AllByRecursion}
use Rattle.weights.specs.Weights.{Ops}
use Rattle.tables.specs.Rows.{Pair, Row, LegalRows, LegalTable, table_words}
use Rattle.tables.specs.Emits.{holds, emits}
use Rattle.meaning.specs.Decide.{choice, decide}
use Rattle.meaning.specs.Leaves.{Frame}
use Rattle.meaning.specs.Diagrams.{Diagram, Leaf, Node, reach, weigh, Formed}
use Rattle.meaning.specs.Constructions.{drop_diagram}
use Rattle.meaning.specs.Frames.{InRange}
use Rattle.listing.specs.Rows.{Placed, leaves_of, row_of, rows_of}

-- the tests that hold of the frame on its way through the diagram
abbrev pub passed : Diagram → Frame → List Pair
passed (Leaf l) s = []
passed (Node f n y z) s = choice (decide (slice_index s f) n) ((f, n) ∷ passed y s) (passed z s)

-- the leaf that the frame reaches, with those tests
abbrev pub reached : Diagram → Frame → Placed
reached d s = record { way = passed d s; cells = reach d s }

-- how many leaves come before the one that the frame reaches
abbrev pub place_of : Diagram → Frame → ℕ
place_of (Leaf l) s = 0
place_of (Node f n y z) s = choice (decide (slice_index s f) n) (place_of y s) (length (leaves_of y) + place_of z s)

-- r is the first of the rows whose matches all hold of frame s, and i rows come before it
pub record FirstMatch (s : Frame) (rows : List Row) (i : ℕ) (r : Row) : Type 0 where
  pub earlier : List Row
  pub later : List Row
  pub is : rows ≡ earlier ++ (r ∷ later)
  pub place : length earlier ≡ i
  pub fail : AllByRecursion (λ q. holds q.matches s ≡ false) earlier
  pub hold : holds r.matches s ≡ true

-- the first row that matches a frame is the row of the leaf that the frame reaches, at that leaf's place
abbrev pub FirstMatchIsTheLeafReached : Type 0
FirstMatchIsTheLeafReached = (d : Diagram) (s : Frame) → FirstMatch s (rows_of d) (place_of d s) (row_of (reached d s))

-- there are so many leaves, and no leaf has more than so many cells
pub record Sized (leaves cells : ℕ) (d : Diagram) : Type 0 where
  pub leaf_count : length (leaves_of d) ≡ leaves
  pub cell_counts : AllByRecursion (λ p. length p.cells ≤ cells) (leaves_of d)

-- the rows of the diagram are legal, and so their words are a legal table
pub record ListedLegally (o : Ops) (d : Diagram) : Type 0 where
  pub rows : LegalRows o (rows_of d)
  pub words : LegalTable o (table_words (rows_of d))

-- a well-formed diagram of so many leaves, none of more than so many cells, has a legal table
abbrev pub ListsLegally : Ops → ℕ → ℕ → Type 0
ListsLegally o leaves cells = (d : Diagram) → Formed o d → Sized leaves cells d → ListedLegally o d

-- a diagram that is listed in so many words has at most so many leaves and, if it is well-formed, a legal table
pub record ShortLists (o : Ops) (words most : ℕ) : Type 0 where
  pub few : (d : Diagram) → length (table_words (rows_of d)) ≡ words → length (leaves_of d) ≤ most
  pub legal : (d : Diagram) → Formed o d → length (table_words (rows_of d)) ≡ words → ListedLegally o d

-- what the table emits for a frame is what the diagram gives
abbrev pub EmitsWhatTheDiagramGives : Ops → Type 0
EmitsWhatTheDiagramGives o =
    (d : Diagram) (s t : Frame) → Formed o d → InRange s → emits o (rows_of d) s t ≡ weigh o d s t

-- the table of drop has one row, which matches every frame, and emits nothing
pub record DropEmitsNothing (o : Ops) : Type 0 where
  pub one_row : rows_of drop_diagram ≡ record { matches = []; emissions = [] } ∷ []
  pub nothing : (s t : Frame) → emits o (rows_of drop_diagram) s t ≡ o.zero
