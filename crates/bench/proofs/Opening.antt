-- A bench that was opened. Assumes nothing.
use Rattle.std.proofs.Common.{◌≡◌, ℕ, ◌≤◌, List, [], ◌∷◌, length, take, slice_set, slice_index_or, sym, refl, ap, ◌∙◌, subst, arith}
use Rattle.weights.specs.Weights.{Ops}
use Rattle.tables.specs.Rows.{LegalTable, LegalRows, table_words}
use Rattle.listing.specs.Rows.{rows_of}
use Rattle.meaning.specs.Constructions.{drop_diagram}
use Rattle.counts.specs.Memory.{AllFit}
use Rattle.stored.specs.Stored.{Holdings}
use Rattle.engine.specs.Views.{nothing, rooms_of}
use Rattle.steps.specs.States.{opened}
use Rattle.steps.specs.Sound.{Lists}
use Rattle.steps.proofs.Opening.{drop_listed}
use Rattle.bench.specs.Sizes.{sizes}
use Rattle.bench.specs.Views.{state_of, SoundTable}

abbrev pub written : List ℕ → List ℕ → List ℕ
written ws r = slice_set (slice_set ws 0 (slice_index_or r 0 0)) 1 (slice_index_or r 1 0)

drop_in : (ws : List ℕ) → 2 ≤ length ws → take 2 (written ws (table_words (rows_of drop_diagram))) ≡ table_words (rows_of drop_diagram)
drop_in [] h = absurd (omega (arith, h))
drop_in (x ∷ []) h = absurd (omega (arith, h))
drop_in (x ∷ y ∷ ws) h = refl

pub as_long : (ws r : List ℕ) → 2 ≤ length ws → length (written ws r) ≡ length ws
as_long [] r h = absurd (omega (arith, h))
as_long (x ∷ []) r h = absurd (omega (arith, h))
as_long (x ∷ y ∷ ws) r h = refl

pub drop_legal : (o : Ops) (ws r : List ℕ) → 2 ≤ length ws → r ≡ table_words (rows_of drop_diagram) → LegalRows o (rows_of drop_diagram) → LegalTable o (take 2 (written ws r))
drop_legal o ws r h e l = (rows_of drop_diagram, l, ap (λ (x : List ℕ). take 2 (written ws x)) e ∙ drop_in ws h)

module _ {A C N : Type 0} (acts : List A) (cells : List C) (nodes : List N) (ws : List ℕ) {r ws' : List ℕ} {n : ℕ} (f : AllFit (sizes acts cells nodes ws)) (e : r ≡ table_words (rows_of drop_diagram)) (a : ws' ≡ written ws r) (k : n ≡ 2) where
  long : length ws' ≡ length ws
  long = ap length a ∙ as_long ws r f.table_fits.0

  front : take n ws' ≡ table_words (rows_of drop_diagram)
  front = ap (λ (m : ℕ). take m ws') k ∙ (ap (λ (x : List ℕ). take 2 x) a ∙ (ap (λ (x : List ℕ). take 2 (written ws x)) e ∙ drop_in ws f.table_fits.0))

  pub opened_table : (o : Ops) → SoundTable o ws' n
  opened_table o = record { lists = subst (Lists o) (sym front) (drop_listed o); countable = let t = f.table_fits.1 in omega (arith, long, t) }

  pub opened_state : {h : Holdings} → h.stored ≡ nothing → h.rooms ≡ rooms_of acts cells nodes → state_of h ws' n ≡ opened (sizes acts cells nodes ws)
  opened_state {h} s z i =
      record {
        stored = s i;
        rooms = record { actions = action_room i; cells = cell_room i; nodes = node_room i };
        table = front i;
        table_room = long i;
      }
    where
      action_room : h.rooms.actions ≡ length acts
      action_room = ap (λ x. x.actions) z ∙ (let t = f.actions_fit.1 in omega (arith, t))

      cell_room : h.rooms.cells ≡ length cells
      cell_room = ap (λ x. x.cells) z ∙ (let t = f.cells_fit.1 in omega (arith, t))

      node_room : h.rooms.nodes ≡ length nodes
      node_room = ap (λ x. x.nodes) z ∙ (let t = f.nodes_fit.1 in omega (arith, t))
