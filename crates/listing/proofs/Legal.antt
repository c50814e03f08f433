-- The rows of a well-formed diagram are legal, and a short list counts what it lists. Assumes nothing.
use Rattle.std.proofs.Common.{◌≡◌, ℕ, suc, ◌+◌, ◌<◌, ◌≤◌, List, [], ◌∷◌, map, length, get_or, None, sym, refl, subst, zero-le, zero-add, arith, length-append}
use lib.ListN.{length-map}
use Rattle.std.specs.List.{flat_map, AllByRecursion}
use Rattle.format.specs.Words.{value_end, word}
use Rattle.format.specs.Actions.{LegalSet}
use Rattle.weights.specs.Weights.{Ops}
use Rattle.tables.specs.Rows.{Pair, Emission, Row, emission_words, row_words, table_words, LegalPairs, LegalEmission, LegalRow, LegalRows}
use Rattle.meaning.specs.Leaves.{Cell, Each, CellFormed, LeafFormed}
use Rattle.meaning.specs.Diagrams.{Diagram, Leaf, Node, Tests, Formed}
use Rattle.listing.specs.Rows.{Placed, behind, leaves_of, row_of, rows_of, emission_of}
use Rattle.listing.specs.Tables.{ListedLegally, ListsLegally, ShortLists}
use Rattle.listing.proofs.Lists.{all_append, all_imp, all_map, all_map₂, all_unmap}
use Rattle.listing.proofs.Sets.{legal_sets}

-- the end word can count the leaves, and a head the cells of each
record Countable (d : Diagram) : Type 0 where
  leaves : length (leaves_of d) < value_end
  cells : AllByRecursion (λ p. length p.cells < value_end) (leaves_of d)

tests_all : (P : ℕ → ℕ → Type 0) → ((f n : ℕ) → P f n) → (d : Diagram) → Tests P d
tests_all P h (Leaf l) = tt
tests_all P h (Node f n y z) = (h f n, tests_all P h y, tests_all P h z)

module _ (o : Ops) where
  emission_legal : (c : Cell) → CellFormed o c → LegalEmission o (emission_of c)
  emission_legal c h =
      record {
        of_kind = h.weight;
        nonzero = h.not_zero;
        sets_legal =
            legal_sets 0 c.0 (omega (arith, h.action.all_fields))
            (λ i k. subst (λ (g : ℕ). LegalSet g (get_or c.0 i None)) (sym (zero-add i)) (h.action.legal i k))
            0 zero-le;
      }

  emissions_legal : (l : List Cell) → Each (CellFormed o) l → AllByRecursion (LegalEmission o) (map emission_of l)
  emissions_legal [] h = tt
  emissions_legal (c ∷ l) h = (emission_legal c h.0, emissions_legal l h.1)

  -- the tests on the way ascend from field b on, and the leaf is well-formed
  abbrev PlacedFormed : ℕ → Placed → Type 0
  PlacedFormed b p = LegalPairs b p.way × LeafFormed o p.cells

  leaves_formed : (b : ℕ) (d : Diagram) → Formed o d → Tests (λ g m. b ≤ g) d → AllByRecursion (PlacedFormed b) (leaves_of d)
  leaves_formed b (Leaf l) h t = ((tt, h), tt)
  leaves_formed b (Node f n y z) h t =
      all_append (PlacedFormed b) (map (behind f n) (leaves_of y)) (leaves_of z)
      (all_map (behind f n) (PlacedFormed (suc f)) (PlacedFormed b)
      (λ p k. ((t.0, h.0.field_exists, h.0.value_legal, k.0), k.1))
      (leaves_of y)
      (leaves_formed (suc f) y h.1 h.0.yes_greater_fields))
      (leaves_formed b z h.2 t.2)

  row_legal : (p : Placed) → PlacedFormed 0 p → length p.cells < value_end → LegalRow o (row_of p)
  row_legal p h k =
      record {
        matches_legal = h.0;
        countable = subst (λ (n : ℕ). n < value_end) (sym (length-map p.cells emission_of)) k;
        emissions_legal = emissions_legal p.cells h.1.cells;
      }

  rows_legal : (d : Diagram) → Formed o d → Countable d → LegalRows o (rows_of d)
  rows_legal d h k =
      record {
        each =
            all_map₂ row_of (PlacedFormed 0) (λ p. length p.cells < value_end) (LegalRow o) row_legal (leaves_of d)
            (leaves_formed 0 d h (tests_all (λ g m. 0 ≤ g) (λ g m. zero-le) d))
            k.cells;
        countable = subst (λ (n : ℕ). n < value_end) (sym (length-map (leaves_of d) row_of)) k.leaves;
      }

  listed_legally : (d : Diagram) → Formed o d → Countable d → ListedLegally o d
  listed_legally d h k = record { rows = rows_legal d h k; words = (rows_of d, rows_legal d h k, refl) }

  pub lists_legally : (leaves cells : ℕ) → leaves < value_end → cells < value_end → ListsLegally o leaves cells
  lists_legally leaves cells a b d h k =
      listed_legally d h
      (record {
        leaves = omega (arith, k.leaf_count);
        cells = all_imp (λ p. length p.cells ≤ cells) (λ p. length p.cells < value_end) (λ p c. omega arith) (leaves_of d) k.cell_counts;
      })

-- each row and each emission takes a word at least
long_emissions : (es : List Emission) → length es ≤ length (flat_map emission_words es)
long_emissions [] = zero-le
long_emissions (e ∷ es) =
    omega (arith, long_emissions es, length-append (emission_words e) (flat_map emission_words es))

row_length : (r : Row) → length r.emissions < length (row_words r)
row_length r =
    omega (arith, long_emissions r.emissions, length-append (map (λ (p : Pair). word 11 p.0 p.1) r.matches) (flat_map emission_words r.emissions))

rows_length : (rows : List Row) → length rows ≤ length (flat_map row_words rows)
rows_length [] = zero-le
rows_length (r ∷ rows) =
    omega (arith, row_length r, rows_length rows, length-append (row_words r) (flat_map row_words rows))

table_length : (rows : List Row) → length (table_words rows) ≡ length (flat_map row_words rows) + 1
table_length rows = length-append (flat_map row_words rows) (word 14 0 (length rows) ∷ [])

rows_short : (b : ℕ) (rows : List Row) → length (flat_map row_words rows) ≤ b → AllByRecursion (λ r. length r.emissions < b) rows
rows_short b [] h = tt
rows_short b (r ∷ rows) h = (
  omega (arith, row_length r, length-append (row_words r) (flat_map row_words rows)),
  rows_short b rows (omega (arith, length-append (row_words r) (flat_map row_words rows))),
)

list_length : (d : Diagram) → length (leaves_of d) + 1 ≤ length (table_words (rows_of d))
list_length d = omega (arith, table_length (rows_of d), rows_length (rows_of d), length-map (leaves_of d) row_of)

short_lists_count : (d : Diagram) → length (table_words (rows_of d)) ≤ value_end → Countable d
short_lists_count d h =
    record {
      leaves = omega (arith, list_length d);
      cells =
          all_unmap row_of (λ p. length p.cells < value_end) (λ r. length r.emissions < value_end)
          (λ p k. subst (λ (n : ℕ). n < value_end) (length-map p.cells emission_of) k)
          (leaves_of d)
          (rows_short value_end (rows_of d) (omega (arith, table_length (rows_of d))));
    }

pub short_lists : (o : Ops) (words most : ℕ) → most + 1 ≡ words → words ≤ value_end → ShortLists o words most
short_lists o words most a b =
    record {
      few = λ d h. omega (arith, list_length d);
      legal = λ d h k. listed_legally o d h (short_lists_count d (omega arith));
    }
