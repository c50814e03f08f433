-- A bench as it is opened is sound. Assumes nothing.
use Rattle.std.proofs.Common.{ℕ, zero, suc, [], refl, arith, lit<}
use Rattle.std.proofs.lemmas.Option.{none-some}
use Rattle.weights.specs.Weights.{Ops}
use Rattle.counts.specs.declared.memory.Sizes.{Sizes}
use Rattle.counts.specs.Memory.{AllFit}
use Rattle.tables.specs.Rows.{LegalRows, table_words}
use Rattle.listing.specs.Rows.{rows_of}
use Rattle.meaning.specs.Diagrams.{Node, Formed}
use Rattle.meaning.specs.Constructions.{drop_diagram}
use Rattle.requests.specs.Requests.{Request, action, cell, node}
use Rattle.stores.specs.Numbers.{Numbered}
use Rattle.stored.specs.Stored.{Stored, Rooms, Has}
use Rattle.stored.specs.Whole.{Whole}
use Rattle.steps.specs.States.{opened}
use Rattle.steps.specs.Sound.{Lists, Sound}

abbrev empty : Stored
empty = record { actions = []; leaves = []; nodes = [] }

none_at : {X : Type 0} (n : ℕ) (x : X) → Numbered [] n x → ⊥
none_at zero x e = none-some x e
none_at (suc n) x e = none-some x e

nothing_has : (q : Request) → Has empty q → ⊥
nothing_has (action a) (n, e) = none_at n a e
nothing_has (cell a w l) (n, e) = none_at n _ e
nothing_has (node f m y z) (n, e) = none_at n (Node f m y z) e

empty_whole : (r : Rooms) → Whole r empty
empty_whole r =
    record {
      once = record { actions = λ m n x e k. absurd (none_at m x e); leaves = λ m n x e k. absurd (none_at m x e); nodes = λ m n x e k. absurd (none_at m x e) };
      fits = record { actions = omega arith; leaves = omega arith; nodes = omega arith };
      no_drop = λ n e. none_at n [] e;
      no_leaf = λ l n e. none_at n _ e;
      inside = λ q k. absurd (nothing_has q k);
    }

pub drop_legal : (o : Ops) → LegalRows o (rows_of drop_diagram)
drop_legal o = record { each = (record { matches_legal = tt; countable = lit< tt; emissions_legal = tt }, tt); countable = lit< tt }

pub drop_formed : (o : Ops) → Formed o drop_diagram
drop_formed o = record { cells = tt; ascending = tt }

abbrev pub drop_listed : (o : Ops) → Lists o (table_words (rows_of drop_diagram))
drop_listed o = record { listed = drop_diagram; formed = drop_formed o; legal = drop_legal o; words = refl }

pub opened_sound : (o : Ops) (z : Sizes) → AllFit z → Sound o (opened z)
opened_sound o z h =
    record {
      stores = record {
        whole = empty_whole (opened z).rooms;
        formed = λ q k. absurd (nothing_has q k);
        few = let a = h.actions_fit.1 in let b = h.cells_fit.1 in let c = h.nodes_fit.1 in omega (arith, a, b, c);
      };
      table = drop_listed o;
      countable = let a = h.table_fits.1 in omega (arith, a);
    }
