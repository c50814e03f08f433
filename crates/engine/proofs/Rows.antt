-- How far the rows of a diagram are written, or judged. Assumes nothing.
use Rattle.std.proofs.Common.{◌≡◌, ℕ, ◌+◌, ◌≤◌, List, [], ◌∷◌, ◌++◌, Some, None, Option, length, refl, arith}
use Rattle.format.specs.Words.{word}
use Rattle.meaning.specs.Leaves.{Cell}
use Rattle.meaning.specs.Diagrams.{Diagram, Leaf, Node, extent}
use Rattle.engine.specs.declared.sheet.Sheet.{Sheet}
use Rattle.engine.specs.Listing.{Fits, ShortWay, leaf_words, rows_words, leaf_count}
use Rattle.engine.specs.Puts.{Puts, RoomFor}
use Rattle.engine.proofs.InTurn.{Fitting, Putting, fitting_start, fitting_last, fitting_stop, fitting_more, putting_start, putting_room, putting_more, putting_last, last_room, puts_same, way_no, count_split, rows_first, leaf_rows, one_leaf, node_smaller}

-- the diagram r is left of d, on the way ms
pub record Left (ms : List ℕ) (d r : Diagram) : Type 0 where
  pub short : ShortWay ms r
  pub smaller : extent r ≤ extent d

pub record RowsFit (room : ℕ) (ms : List ℕ) (d r : Diagram) (left : ℕ) : Type 0 where
  pub rest : Left ms d r
  pub fitting : Fitting room (rows_words ms d) (rows_words ms r) left

pub record RowsPut (q : Sheet) (ms : List ℕ) (d r : Diagram) (s : Sheet) : Type 0 where
  pub rest : Left ms d r
  pub rows : ℕ
  pub putting : Putting q (rows_words ms d) (rows_words ms r) rows s
  pub count : rows + leaf_count r ≡ leaf_count d

module _ (ms : List ℕ) (d : Diagram) (s : ShortWay ms d) where
  started : Left ms d d
  started = record { short = s; smaller = omega arith }

  pub fit_started : (room : ℕ) → RowsFit room ms d d room
  fit_started room = record { rest = started; fitting = fitting_start room (rows_words ms d) }

  pub put_started : (q : Sheet) → RowsPut q ms d d q
  put_started q = record { rest = started; rows = 0; putting = putting_start q (rows_words ms d); count = omega arith }

-- a leaf is left
module _ {ms : List ℕ} {d r : Diagram} {l : List Cell} (w : r ≡ Leaf l) where
  pub fit_ends : {room left : ℕ} (x : Option ℕ) → RowsFit room ms d r left → Fits left (leaf_words ms l) x → Fits room (rows_words ms d) x
  fit_ends x h f = fitting_last h.fitting x (leaf_rows w ms) f

  pub leaf_room : {q s : Sheet} → RowsPut q ms d r s → RoomFor q (rows_words ms d) → RoomFor s (leaf_words ms l)
  leaf_room h k = last_room h.putting (leaf_rows w ms) k

  pub put_ends : {q s t : Sheet} → RowsPut q ms d r s → Puts s (leaf_words ms l) 1 t → Puts q (rows_words ms d) (leaf_count d) t
  put_ends h p = puts_same refl (omega (arith, h.count, one_leaf w ms)) (putting_last h.putting (leaf_rows w ms) p)

-- a node is left
module _ {ms ms' : List ℕ} {d r : Diagram} {f n : ℕ} {y z : Diagram} (w : r ≡ Node f n y z) (e : ms' ≡ ms ++ (word 11 f n ∷ [])) where
  rest_no : Left ms d r → Left ms d z
  rest_no h = record { short = way_no w ms h.short; smaller = let k = node_smaller w in omega (arith, h.smaller, k.1) }

  pub fit_stops : {room left : ℕ} → RowsFit room ms d r left → Fits left (rows_words ms' y) None → Fits room (rows_words ms d) None
  fit_stops h k = fitting_stop h.fitting (rows_first w ms e) k

  pub fit_more : {room left : ℕ} (m : ℕ) → RowsFit room ms d r left → Fits left (rows_words ms' y) (Some m) → RowsFit room ms d z m
  fit_more m h k = record { rest = rest_no h.rest; fitting = fitting_more h.fitting (rows_first w ms e) m k }

  pub yes_room : {q s : Sheet} → RowsPut q ms d r s → RoomFor q (rows_words ms d) → RoomFor s (rows_words ms' y)
  yes_room h k = putting_room h.putting (rows_first w ms e) k

  pub put_more : {q s t : Sheet} → RowsPut q ms d r s → Puts s (rows_words ms' y) (leaf_count y) t → RowsPut q ms d z t
  put_more h p =
      record {
        rest = rest_no h.rest;
        rows = h.rows + leaf_count y;
        putting = putting_more h.putting (rows_first w ms e) p;
        count = omega (arith, h.count, count_split w ms);
      }
