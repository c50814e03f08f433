-- Cells and actions read.
use Rattle.std.proofs.Common.{◌≡◌, ℕ, zero, suc, ◌≤◌, List, [], ◌∷◌, map, length, Some, refl, ap, ◌∙◌, length-append, arith}
use Rattle.std.specs.List.{slice_get}
use Rattle.meaning.specs.Leaves.{Cell as MCell, Action as MAction}
use Rattle.actions.specs.declared.actions.Action.{Action}
use Rattle.stores.specs.Numbers.{Numbered}
use Rattle.counts.specs.declared.counts.Counts.{Counts}
use Rattle.engine.specs.declared.memory.Stores.{Stores}
use Rattle.engine.specs.Contents.{contents}
use Rattle.engine.specs.Built.{numbered_or}
use Rattle.engine.specs.State.{State, state, Grown}
use Rattle.engine.specs.Done.{SoundStores}
use Rattle.engine.specs.Leaves.{leaf_at, LeafPresent}
use Rattle.engine.specs.Cells.{action_at}
use Rattle.engine.proofs.Numbers.{or_grown}
use Rattle.engine.proofs.Decoding.{leaves_long}
use Rattle.engine.proofs.NarrowRules.{here}

module _ {X Y : Type 0} (g : X → Y) where
  pub map_length : (xs : List X) → length (map g xs) ≡ length xs
  map_length [] = refl
  map_length (x ∷ xs) = ap suc (map_length xs)

  got_map : (xs : List X) (n : ℕ) (x : X) → slice_get xs n ≡ Some x → slice_get (map g xs) n ≡ Some (g x)
  got_map [] n x e = cc
  got_map (y ∷ xs) zero x e = let i : y ≡ x = cc in ap (λ (z : X). Some (g z)) i
  got_map (y ∷ xs) (suc n) x e = got_map xs n x e

  pub numbered_map : (xs : List X) (n : ℕ) (x : X) → Numbered xs n x → Numbered (map g xs) n (g x)
  numbered_map xs zero x e = cc
  numbered_map xs (suc n) x e = got_map xs n x e

pub leaf_counted : (c : Counts) (s : Stores) → SoundStores c s → (n : ℕ) → LeafPresent (here c s) n → n ≤ c.cells
unfolding state
leaf_counted c s g n p = omega (arith, p, leaves_long (contents c s) g.sound, g.counted.cells_counted)

pub action_counted : (c : Counts) (s : Stores) → SoundStores c s → (n : ℕ) → n ≤ length (here c s).actions → n ≤ c.actions
unfolding state
action_counted c s g n p = omega (arith, p, map_length (λ (a : Action). a.sets) (contents c s).actions, g.counted.actions_counted)

pub leaf_grown : {s s' : State} → Grown s s' → (n : ℕ) → LeafPresent s n → leaf_at s' n ≡ leaf_at s n
leaf_grown {s} {s'} g n p = ap (λ (l : List (List MCell)). numbered_or [] l n) g.leaves_grown ∙ or_grown [] s.leaves g.new_leaves n p

pub longer_still : {s s' : State} → Grown s s' → (n : ℕ) → n ≤ length s.actions → n ≤ length s'.actions
longer_still {s} {s'} g n h = omega (arith, h, ap length g.actions_grown, length-append s.actions g.new_actions)

pub action_grown : {s s' : State} → Grown s s' → (n : ℕ) → n ≤ length s.actions → action_at s' n ≡ action_at s n
action_grown {s} {s'} g n p = ap (λ (l : List MAction). numbered_or [] l n) g.actions_grown ∙ or_grown [] s.actions g.new_actions n p
