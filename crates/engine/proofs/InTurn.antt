-- Words that fit, and words that are written, one after another.
use Rattle.std.proofs.Common.{◌≡◌, ℕ, suc, ◌+◌, ◌-◌, ◌<◌, ◌≤◌, max, List, [], ◌∷◌, ◌++◌, length, take, drop, map, slice_index_or, MutBor, Some, None, Option, sym, refl, ap, ◌∙◌, subst, append_assoc, append-nil, length-append, length-take, arith}
use lib.ListN.{length-map}
use Rattle.std.specs.List.{filter}
use Rattle.std.specs.Option.{is_some, SomeIff}
use Rattle.std.proofs.lemmas.List.{drop-drop, at_drop_more}
use Rattle.std.proofs.Math.ListN.{drop_of_length-le}
use Rattle.format.specs.Words.{word}
use Rattle.format.specs.Fields.{fields}
use Rattle.meaning.specs.Leaves.{Action, Cell as MCell}
use Rattle.meaning.specs.Diagrams.{Diagram as MDiagram, Leaf as MLeaf, Node as MNode, extent}
use Rattle.records.specs.declared.kinds.Cell.{Cell}
use Rattle.listing.specs.Rows.{leaves_of, behind, rows_of}
use Rattle.tables.specs.Rows.{table_words}
use Rattle.engine.specs.State.{State}
use Rattle.engine.specs.Leaves.{leaf_at}
use Rattle.engine.specs.Cells.{action_at, CellRead}
use Rattle.engine.specs.declared.way.Way.{Way}
use Rattle.engine.specs.Listing.{Fits, set_words, cells_words, leaf_words, rows_words, ways, leaf_count}
use Rattle.engine.specs.declared.sheet.Sheet.{Sheet}
use Rattle.engine.specs.Sheets.{Writes}
use Rattle.engine.specs.Puts.{Puts, RoomFor}
use Rattle.engine.specs.Listed.{AtFront}
use Rattle.engine.proofs.Words.{table_listed}

-- words, the first of them and the rest
pub record Parts (all first rest : List ℕ) : Type 0 where
  pub is : all ≡ first ++ rest

-- where so much of the room is left for the words that are left of all
pub record Fitting (room : ℕ) (all rest : List ℕ) (left : ℕ) : Type 0 where
  pub balance : left + length all ≡ room + length rest

pub fitting_start : (room : ℕ) (all : List ℕ) → Fitting room all all room
fitting_start room all = record { balance = refl }

module _ {room : ℕ} {all rest : List ℕ} {left : ℕ} (h : Fitting room all rest left) where
  pub fitting_end : rest ≡ [] → Fits room all (Some left)
  fitting_end e = omega (arith, h.balance, ap length e)

  pub fitting_last : {xs : List ℕ} (r : Option ℕ) → rest ≡ xs → Fits left xs r → Fits room all r
  fitting_last None e f = omega (arith, h.balance, ap length e, f)
  fitting_last (Some m) e f = omega (arith, h.balance, ap length e, f)

  module _ {xs ys : List ℕ} (e : Parts rest xs ys) where
    pub fitting_stop : Fits left xs None → Fits room all None
    fitting_stop f = omega (arith, h.balance, ap length e.is, length-append xs ys, f)

    pub fitting_more : (m : ℕ) → Fits left xs (Some m) → Fitting room all ys m
    fitting_more m f = record { balance = omega (arith, h.balance, ap length e.is, length-append xs ys, f) }

past_more : (ws is : List ℕ) (k m j : ℕ) → j ≡ k + m → drop k is ≡ drop k ws → drop j is ≡ drop j ws
past_more ws is k m j e h = ap (λ (i : ℕ). drop i is) e ∙ (sym (drop-drop m k is) ∙ (ap (λ (l : List ℕ). drop m l) h ∙ (drop-drop m k ws ∙ ap (λ (i : ℕ). drop i ws) (sym e))))

pub writes_then : {ws is js : List ℕ} {n k j : ℕ} {xs ys : List ℕ} → Writes ws n xs is k → Writes is k ys js j → Writes ws n (xs ++ ys) js j
writes_then {ws} {is} {js} {n} {k} {j} {xs} {ys} h i =
    record {
      size = i.size ∙ h.size;
      count = omega (arith, h.count, i.count, length-append xs ys);
      written = i.written ∙ (ap (λ (l : List ℕ). l ++ ys) h.written ∙ append_assoc (take n ws) xs ys);
      past = i.past ∙ past_more ws is k (length ys) j i.count h.past;
    }

writes_none : (ws : List ℕ) (n : ℕ) → Writes ws n [] ws n
writes_none ws n = record { size = refl; count = omega arith; written = sym (append-nil (take n ws)); past = refl }

pub writes_same : {ws is : List ℕ} {n k : ℕ} {xs ys : List ℕ} → xs ≡ ys → Writes ws n xs is k → Writes ws n ys is k
writes_same {ws} {is} {n} {k} e h = subst (λ (l : List ℕ). Writes ws n l is k) e h

-- what is put on a sheet

pub puts_none : (s : Sheet) → Puts s [] 0 s
puts_none s = record { writes = writes_none s.words.now s.count; rows_put = omega arith; lender = refl }

pub puts_then : {s s' s'' : Sheet} {xs ys : List ℕ} {m n : ℕ} → Puts s xs m s' → Puts s' ys n s'' → Puts s (xs ++ ys) (m + n) s''
puts_then h i = record { writes = writes_then h.writes i.writes; rows_put = omega (arith, h.rows_put, i.rows_put); lender = i.lender ∙ h.lender }

pub puts_same : {s s' : Sheet} {xs ys : List ℕ} {m n : ℕ} → xs ≡ ys → m ≡ n → Puts s xs m s' → Puts s ys n s'
puts_same {s} {s'} {xs} {ys} {m} {n} e k h = subst (λ (l : List ℕ). Puts s l n s') e (subst (λ (r : ℕ). Puts s xs r s') k h)

-- one word more
pub pushed : {s s' : Sheet} {w v : ℕ} → w ≡ v → Writes s.words.now s.count (w ∷ []) s'.words.now s'.count → s'.rows ≡ s.rows → s'.words.ghost_name ≡ s.words.ghost_name → Puts s (v ∷ []) 0 s'
pushed {s} {s'} e h r l = record { writes = writes_same (ap {B = List ℕ} (λ (x : ℕ). x ∷ []) e) h; rows_put = omega (arith, r); lender = l }

-- a row is begun with its first word
pub begun : {q p s : Sheet} {xs : List ℕ} → Puts q xs 0 p → s.words ≡ p.words → s.count ≡ p.count → s.rows ≡ p.rows + 1 → Puts q xs 1 s
begun {q} {p} {s} {xs} h e k r =
    record {
      writes = subst (λ (n : ℕ). Writes q.words.now q.count xs s.words.now n) (sym k) (subst (λ (ws : List ℕ). Writes q.words.now q.count xs ws p.count) (ap (λ (b : MutBor (List ℕ)). b.now) (sym e)) h.writes);
      rows_put = omega (arith, r, h.rows_put);
      lender = ap (λ (b : MutBor (List ℕ)). b.ghost_name) e ∙ h.lender;
    }

-- where these words are left of all, and so many rows were put
pub record Putting (q : Sheet) (all rest : List ℕ) (rows : ℕ) (s : Sheet) : Type 0 where
  pub put : List ℕ
  pub puts : Puts q put rows s
  pub whole : put ++ rest ≡ all

pub putting_start : (q : Sheet) (all : List ℕ) → Putting q all all 0 q
putting_start q all = record { put = []; puts = puts_none q; whole = refl }

module _ {q s : Sheet} {all rest : List ℕ} {rows : ℕ} (h : Putting q all rest rows s) where
  pub putting_end : rest ≡ [] → Puts q all rows s
  putting_end e = puts_same (sym (append-nil h.put) ∙ (ap (λ (l : List ℕ). h.put ++ l) (sym e) ∙ h.whole)) refl h.puts

  putting_long : length h.put + length rest ≡ length all
  putting_long = sym (length-append h.put rest) ∙ ap length h.whole

  module _ {xs ys : List ℕ} (e : Parts rest xs ys) where
    pub putting_room : RoomFor q all → RoomFor s xs
    putting_room r = omega (arith, r, putting_long, ap length e.is, length-append xs ys, h.puts.writes.size, h.puts.writes.count)

    pub putting_more : {t : Sheet} {m : ℕ} → Puts s xs m t → Putting q all ys (rows + m) t
    putting_more p = record { put = h.put ++ xs; puts = puts_then h.puts p; whole = append_assoc h.put xs ys ∙ (ap (λ (l : List ℕ). h.put ++ l) (sym e.is) ∙ h.whole) }

  module _ {xs : List ℕ} (e : rest ≡ xs) where
    pub last_room : RoomFor q all → RoomFor s xs
    last_room r = putting_room (record { is = e ∙ sym (append-nil xs) }) r

    pub putting_last : {t : Sheet} {m : ℕ} → Puts s xs m t → Puts q all (rows + m) t
    putting_last p = puts_same (ap (λ (l : List ℕ). h.put ++ l) (sym e) ∙ h.whole) refl (puts_then h.puts p)

-- words one after another
pub one_word : (ws : List ℕ) (i : ℕ) → i < length ws → Parts (drop i ws) (slice_index_or ws i 0 ∷ []) (drop (i + 1) ws)
one_word ws i h = record { is = at_drop_more (λ (l : List ℕ). l) ws i 0 h }

-- the set words of an action

set_more : (a : Action) (f : ℕ) {x : Option ℕ} → f < length a → slice_index_or a f None ≡ x → set_words f (drop f a) ≡ set_words f (x ∷ drop (f + 1) a)
set_more a f h e = at_drop_more (λ (l : Action). set_words f l) a f None h ∙ ap (λ (y : Option ℕ). set_words f (y ∷ drop (f + 1) a)) e

next_field : (a : Action) (f : ℕ) → set_words (suc f) a ≡ set_words (f + 1) a
next_field a f = let e : suc f ≡ f + 1 = omega arith in ap (λ (k : ℕ). set_words k a) e

pub set_is : (a : Action) (f : ℕ) {v : ℕ} → f < length a → slice_index_or a f None ≡ Some v → Parts (set_words f (drop f a)) (word 13 f v ∷ []) (set_words (f + 1) (drop (f + 1) a))
set_is a f {v} h e = record { is = set_more a f h e ∙ ap {B = List ℕ} (λ (l : List ℕ). word 13 f v ∷ l) (next_field (drop (f + 1) a) f) }

pub set_is_not : (a : Action) (f : ℕ) → f < length a → slice_index_or a f None ≡ None → set_words f (drop f a) ≡ set_words (f + 1) (drop (f + 1) a)
set_is_not a f h e = set_more a f h e ∙ next_field (drop (f + 1) a) f

pub no_more_sets : (a : Action) (f : ℕ) → length a ≤ f → set_words f (drop f a) ≡ []
no_more_sets a f h = ap (λ (l : Action). set_words f l) (drop_of_length-le a h)

pub sets_counted : (f : ℕ) (a : Action) → length (set_words f a) ≡ length (filter (is_some {T = ℕ}) a)
sets_counted f [] = refl
sets_counted f (None ∷ a) = sets_counted (suc f) a
sets_counted f (Some v ∷ a) = ap suc (sets_counted (suc f) a)

-- the cells of a leaf

cell_long : (a : Action) (w : ℕ) → length (cells_words ((a, w) ∷ [])) ≡ 1 + length (filter (is_some {T = ℕ}) a)
cell_long a w = omega (arith, length-append (set_words 0 a) [], sets_counted 0 a)

sets_few : (a : Action) → length (filter (is_some {T = ℕ}) a) ≤ length a
sets_few [] = omega arith
sets_few (None ∷ a) = let h = sets_few a in omega (arith, h)
sets_few (Some v ∷ a) = let h = sets_few a in omega (arith, h)

pub few_sets : {k : ℕ} (a : Action) → k ≡ length (filter (is_some {T = ℕ}) a) → k ≤ length a
few_sets a e = let h = sets_few a in omega (arith, h, e)

pub cell_fits : (room : ℕ) {k : ℕ} (a : Action) (w : ℕ) (r : Option ℕ) → k ≡ length (filter (is_some {T = ℕ}) a) → SomeIff r (1 + k ≤ room) (room - (1 + k)) → Fits room (cells_words ((a, w) ∷ [])) r
cell_fits room {k} a w None e h = small h
  where
    small : (1 + k ≤ room → ⊥) → room < length (cells_words ((a, w) ∷ []))
    small n = let l = cell_long a w in omega (arith, l, e, n)
cell_fits room {k} a w (Some m) e (p, q) = let l = cell_long a w in omega (arith, l, e, p, q)

pub cell_is : (a : Action) (w : ℕ) → cells_words ((a, w) ∷ []) ≡ (word 12 0 w ∷ []) ++ set_words 0 a
cell_is a w = ap {B = List ℕ} (λ (l : List ℕ). word 12 0 w ∷ l) (append-nil (set_words 0 a))

pub cells_none : (s : State) (n : ℕ) → n ≡ 0 → cells_words (leaf_at s n) ≡ []
cells_none s n e = ap (λ (k : ℕ). cells_words (leaf_at s k)) e

module _ {s : State} {n : ℕ} {x : Cell} (r : CellRead s n x) {K : Action} (e : K ≡ action_at s x.action.number) where
  pub cells_first : Parts (cells_words (leaf_at s n)) (cells_words ((K, x.weight.number) ∷ [])) (cells_words (leaf_at s x.rest.number))
  cells_first =
      record {
        is =
            ap cells_words r.itself
            ∙ (ap {B = List ℕ} (λ (a : Action). word 12 0 x.weight.number ∷ (set_words 0 a ++ cells_words (leaf_at s x.rest.number))) (sym e)
            ∙ ap (λ (l : List ℕ). l ++ cells_words (leaf_at s x.rest.number)) (sym (cell_is K x.weight.number)));
      }

-- a way
pub way_long : (way : Way) → length (take way.count way.words) ≡ way.count
way_long way = omega (arith, length-take way.count way.words, way.whole, way.within)

-- the row of a leaf

pub leaf_fits_all : {room k : ℕ} (m : ℕ) (r : Option ℕ) (ms : List ℕ) (l : List MCell) → length ms ≡ k → m + (1 + k) ≡ room → Fits m (cells_words l) r → Fits room (leaf_words ms l) r
leaf_fits_all m None ms l e h f = omega (arith, e, h, f, length-append ms (cells_words l))
leaf_fits_all m (Some n) ms l e h f = omega (arith, e, h, f, length-append ms (cells_words l))

pub leaf_long : (ms : List ℕ) (l : List MCell) → length (leaf_words ms l) ≡ 1 + (length ms + length (cells_words l))
leaf_long ms l = omega (arith, length-append ms (cells_words l))

pub leaf_put :
    {q s t u : Sheet} (ms : List ℕ) (l : List MCell) → Puts q (word 10 (length ms) (length l) ∷ []) 1 s → Puts s ms 0 t → Puts t (cells_words l) 0 u →
    Puts q (leaf_words ms l) 1 u
leaf_put ms l a b d = puts_then a (puts_then b d)

-- the rows of a node
module _ {D : MDiagram} {f n : ℕ} {y z : MDiagram} (whole : D ≡ MNode f n y z) (ms : List ℕ) where
  pub rows_split : rows_words ms D ≡ rows_words (ms ++ (word 11 f n ∷ [])) y ++ rows_words ms z
  rows_split = ap (rows_words ms) whole

  pub ways_split : ways D ≡ max (suc (ways y)) (ways z)
  ways_split = ap ways whole

  pub count_split : leaf_count D ≡ leaf_count y + leaf_count z
  count_split = ap leaf_count whole ∙ (length-append (map (behind f n) (leaves_of y)) (leaves_of z) ∙ ap (λ (k : ℕ). k + length (leaves_of z)) (length-map (leaves_of y) (behind f n)))

  -- there is room on the way for one test more
  pub way_room : length ms + ways D ≤ fields → length ms < fields
  way_room h = omega (arith, h, ways_split)

  pub way_no : length ms + ways D ≤ fields → length ms + ways z ≤ fields
  way_no h = omega (arith, h, ways_split)

  module _ {ms' : List ℕ} (e : ms' ≡ ms ++ (word 11 f n ∷ [])) where
    pub rows_first : Parts (rows_words ms D) (rows_words ms' y) (rows_words ms z)
    rows_first = record { is = rows_split ∙ ap (λ (l : List ℕ). rows_words l y ++ rows_words ms z) (sym e) }

pub node_smaller : {D : MDiagram} {f n : ℕ} {y z : MDiagram} → D ≡ MNode f n y z → (suc (extent y) ≤ extent D) × (suc (extent z) ≤ extent D)
node_smaller e = let k = ap extent e in (omega (arith, k), omega (arith, k))

module _ {D : MDiagram} {l : List MCell} (leaf : D ≡ MLeaf l) (ms : List ℕ) where
  pub leaf_rows : rows_words ms D ≡ leaf_words ms l
  leaf_rows = ap (rows_words ms) leaf

  pub one_leaf : leaf_count D ≡ 1
  one_leaf = ap leaf_count leaf

-- the whole table

module _ (D : MDiagram) {ms : List ℕ} (e : ms ≡ []) where
  table_is : rows_words ms D ++ (word 14 0 (leaf_count D) ∷ []) ≡ table_words (rows_of D)
  table_is = ap (λ (l : List ℕ). rows_words l D ++ (word 14 0 (leaf_count D) ∷ [])) e ∙ table_listed D

  pub table_long : length (table_words (rows_of D)) ≡ length (rows_words ms D) + 1
  table_long = ap length (sym table_is) ∙ length-append (rows_words ms D) (word 14 0 (leaf_count D) ∷ [])

  pub list_not : {room : ℕ} → Fits room (rows_words ms D) None → room < length (table_words (rows_of D))
  list_not h = omega (arith, h, table_long)

  pub list_full : {room left : ℕ} → Fits room (rows_words ms D) (Some left) → left ≡ 0 → room < length (table_words (rows_of D))
  list_full h i = omega (arith, h, i, table_long)

  pub listed : {s s' s'' : Sheet} → s.count ≡ 0 → s.rows ≡ 0 → Puts s (rows_words ms D) (leaf_count D) s' → Puts s' (word 14 0 s'.rows ∷ []) 0 s'' → AtFront D s.words.now s''.count s''.words.now
  listed {s} {s'} {s''} z r a b =
      record {
        within = omega (arith, s''.within, w.size);
        table = w.written ∙ (ap (λ (i : ℕ). take i s.words.now ++ (rows_words ms D ++ (word 14 0 s'.rows ∷ []))) z ∙ (ap (λ (i : ℕ). rows_words ms D ++ (word 14 0 i ∷ [])) (omega (arith, a.rows_put, r)) ∙ table_is));
        size = w.size;
        past = w.past;
      }
    where
      w : Writes s.words.now s.count (rows_words ms D ++ (word 14 0 s'.rows ∷ [])) s''.words.now s''.count
      w = writes_then a.writes b.writes
