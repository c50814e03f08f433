-- Stores with nothing in them. Assumes nothing.
use Rattle.std.proofs.Common.{◌≡◌, ℕ, zero, suc, List, [], Option, refl, sym, subst}
use Rattle.std.proofs.lemmas.Option.{none-some}
use Rattle.weights.specs.Weights.{Ops}
use Rattle.meaning.specs.Leaves.{Cell}
use Rattle.meaning.specs.Diagrams.{Node}
use Rattle.requests.specs.Requests.{Request, action, cell, node}
use Rattle.stores.specs.Numbers.{Numbered}
use Rattle.counts.specs.declared.counts.Counts.{Counts}
use Rattle.engine.specs.declared.memory.Stores.{Stores}
use Rattle.engine.specs.Contents.{contents}
use Rattle.stored.specs.Stored.{Stored, Has}
use Rattle.engine.specs.declared.memo.PackedEntry.{PackedEntry}
use Rattle.engine.specs.State.{state}
use Rattle.engine.specs.Done.{SoundStores}
use Rattle.engine.specs.Memo.{NothingWritten}
use Rattle.engine.specs.Views.{nothing, rooms_in, holdings, SoundEngine}

abbrev none : Counts
none = record { actions = 0; cells = 0; nodes = 0 }

none_at : {X : Type 0} (n : ℕ) (x : X) → Numbered [] n x → ⊥
none_at zero x e = none-some x e
none_at (suc n) x e = none-some x e

nothing_has : (q : Request) → Has nothing q → ⊥
nothing_has (action a) (n, e) = none_at n a e
nothing_has (cell a w l) (n, e) = none_at n _ e
nothing_has (node f m y z) (n, e) = none_at n (Node f m y z) e

empty_state : (s : Stores) → state (contents none s) ≡ nothing
unfolding state
empty_state s = refl

none_good : (s : Stores) → SoundStores none s
unfolding state
none_good s =
    record {
      sound = record {
        cells_name_earlier = tt;
        nodes_name_earlier = tt;
        actions_distinct = λ m n r e k. absurd (none_at m r e);
        leaves_distinct = λ m n r e k. absurd (none_at m r e);
        nodes_distinct = λ m n r e k. absurd (none_at m r e);
      };
      counted = record { actions_counted = refl; cells_counted = refl; nodes_counted = refl };
    }

module _ (s : Stores) (c : Counts) (z : (c.actions ≡ 0) × (c.cells ≡ 0) × (c.nodes ≡ 0)) where
  counts_none : none ≡ c
  counts_none i = record { actions = sym z.0 i; cells = sym z.1 i; nodes = sym z.2 i }

  pub empty_holdings : holdings s c ≡ record { stored = nothing; rooms = rooms_in s }
  empty_holdings = subst (λ (d : Counts). holdings s d ≡ record { stored = nothing; rooms = rooms_in s }) counts_none (λ i. record { stored = empty_state s i; rooms = rooms_in s })

  pub empty_engine : (o : Ops) (l : List (Option PackedEntry)) → NothingWritten l → SoundEngine o s c l
  empty_engine o l n = subst (λ (d : Counts). SoundEngine o s d l) counts_none (record { good = none_good s; formed = λ q h. absurd (no q h); remembers = (λ n k h. absurd (none_numbered n k h), λ e w. absurd (n e w), λ q h. absurd (no q h)) })
    where
      no : (q : Request) → Has (state (contents none s)) q → ⊥
      no q h = nothing_has q (subst (λ (S : Stored). Has S q) (empty_state s) h)

      none_numbered : (n : ℕ) (k : List Cell) → Numbered (state (contents none s)).leaves n k → ⊥
      none_numbered n k h = none_at n k (subst (λ (S : Stored). Numbered S.leaves n k) (empty_state s) h)
