-- What a construction over the stores is to a bench. Assumes nothing.
use Rattle.std.proofs.Common.{◌≡◌, ℕ, zero, suc, ◌<◌, ◌≤◌, ◌⊎◌, true≢false, List, [], ◌∷◌, length, min, Some, None, Option, sym, refl, ap, ◌∙◌, subst, inl, inr, arith}
use lib.ListN.{length-map}
use Rattle.std.specs.List.{slice_get}
use Rattle.format.specs.Words.{value_end, word, kind_of, field_of, value_of}
use Rattle.weights.specs.Order.{In}
use Rattle.meaning.specs.Leaves.{Cell as MCell}
use Rattle.meaning.specs.Diagrams.{Diagram as MDiagram, Leaf as MLeaf}
use Rattle.requests.specs.Requests.{Request}
use Rattle.stores.specs.Numbers.{Numbered, numbers_limit}
use Rattle.format.specs.declared.settings.Amount.{Amount}
use Rattle.records.specs.declared.kinds.Diagram.{Diagram}
use Rattle.records.specs.declared.kinds.Diagram.TheVariants.{Leaf, Branch}
use Rattle.records.specs.Words.{word_of, Held as WordHeld}
use Rattle.counts.specs.declared.counts.Counts.{Counts}
use Rattle.engine.specs.declared.memory.Stores.{Stores}
use Rattle.engine.specs.Contents.{Contents, contents, SameMemory}
use Rattle.stored.specs.Stored.{Stored, Rooms, diagram}
use Rattle.stored.specs.Grows.{Fits, Adds, Grows, size}
use Rattle.stored.proofs.Numbers.{each_in}
use Rattle.stored.proofs.Growth.{Standing, a_leaf, a_node, standing, stands, has_grown}
use Rattle.engine.specs.Built.{numbered_or}
use Rattle.engine.specs.State.{State, state, diagram_of, Present, Names, Has, Sound}
use Rattle.engine.specs.Done.{Kind, actions, cells, nodes, rooms, Added, Over, SoundStores, NothingLost, Made}
use Rattle.engine.specs.Views.{rooms_in}
use Rattle.engine.proofs.Numbers.{numbered_any, numbered_value, numbered_bound}
use Rattle.engine.proofs.Decoding.{leaf_full, node_whole, nodes_long, leaves_long}
use Rattle.engine.proofs.Entering.{counted_bounds}

-- how many there are

actions_length : (c : Contents) → length (state c).actions ≡ length c.actions
unfolding state
actions_length c = length-map c.actions (λ a. a.sets)

leaves_length : (c : Contents) → Sound c → length (state c).leaves ≡ length c.cells
unfolding state
leaves_length c h = leaves_long c h

nodes_length : (c : Contents) → Sound c → length (state c).nodes ≡ length c.nodes
unfolding state
nodes_length c h = nodes_long c h

full_leaf : (c : Contents) → Sound c → (n : ℕ) → Numbered (state c).leaves n [] → ⊥
unfolding state
full_leaf c h n e = true≢false (leaf_full c h n [] e)

whole_node : (c : Contents) → Sound c → (n : ℕ) (l : List MCell) → Numbered (state c).nodes n (MLeaf l) → ⊥
unfolding state
whole_node c h n l e = true≢false (node_whole c h n (MLeaf l) e)

-- exactly what was asked for was added, and no record is there twice
pub adds_of : (c : Contents) (s : Stored) (asks : List Request) → Sound c → Added s asks (state c) → Adds s asks (state c)
adds_of c s asks h a =
    record {
      grown = a.grown;
      once = record { actions = h.actions_distinct; leaves = h.leaves_distinct; nodes = h.nodes_distinct };
      exactly = λ q. (a.nothing_else q, there q);
      no_drop = full_leaf c h;
      no_leaf = λ l n. whole_node c h n l;
    }
  where
    there : (q : Request) → Has s q ⊎ In q asks → Has (state c) q
    there q (inl k) = has_grown s (state c) a.grown q k
    there q (inr j) = each_in (Has (state c)) asks a.asked q j

-- the counts are the lengths of the lists
pub lengths : (c : Counts) (s : Stores) → SoundStores c s → (c.actions ≡ length (state (contents c s)).actions) × (c.cells ≡ length (state (contents c s)).leaves) × (c.nodes ≡ length (state (contents c s)).nodes)
lengths c s g = (
  sym (actions_length (contents c s) ∙ g.counted.actions_counted),
  sym (leaves_length (contents c s) g.sound ∙ g.counted.cells_counted),
  sym (nodes_length (contents c s) g.sound ∙ g.counted.nodes_counted),
)

-- words

leaf_word : (n : ℕ) → n < value_end → (field_of (word 0 0 n) ≡ 0) × (kind_of (word 0 0 n) ≡ 0) × (value_of (word 0 0 n) ≡ n)
leaf_word n h = (omega (arith, h), omega (arith, h), omega (arith, h))

node_word : (n : ℕ) → n < value_end → (field_of (word 1 0 n) ≡ 0) × (kind_of (word 1 0 n) ≡ 1) × (value_of (word 1 0 n) ≡ n)
node_word n h = (omega (arith, h), omega (arith, h), omega (arith, h))

drop_or : (xs : List (List MCell)) (n : ℕ) → n ≤ length xs → slice_get ([] ∷ xs) n ≡ Some (numbered_or [] xs n)
drop_or xs zero h = refl
drop_or xs (suc n) h =
    let r = numbered_any xs (suc n) (omega arith) h in
    r.1 ∙ ap {B = Option (List MCell)} Some (sym (numbered_value [] xs (suc n) r.0 r.1))

-- a word in store has its diagram
pub names_diagram : (s : State) (w : Diagram) (d : MDiagram) → Names s w d → diagram s (word_of w) ≡ Some d
unfolding diagram_of
names_diagram s (Leaf n) d h =
    let p = leaf_word n.number n.fits in
    stands s (word 0 0 n.number) d
    (subst (Standing s (word 0 0 n.number)) h.stands
    (a_leaf p.0 p.1 (subst (λ (k : ℕ). slice_get ([] ∷ s.leaves) k ≡ Some (numbered_or [] s.leaves n.number)) (sym p.2) (drop_or s.leaves n.number h.present))))
names_diagram s (Branch n) d h =
    let p = node_word n.number n.fits in
    let r = numbered_any s.nodes n.number h.present.0 h.present.1 in
    stands s (word 1 0 n.number) d
    (subst (Standing s (word 1 0 n.number)) h.stands
    (a_node p.0 p.1
    (subst (λ (k : ℕ). Numbered s.nodes k (numbered_or (MLeaf []) s.nodes n.number)) (sym p.2)
    (r.1 ∙ ap {B = Option MDiagram} Some (sym (numbered_value (MLeaf []) s.nodes n.number r.0 r.1))))))

pub word_held : (c : Counts) (s : Stores) → SoundStores c s → (w : Diagram) → WordHeld c.cells c.nodes w → Present (state (contents c s)) w
word_held c s g (Leaf n) h = let a = leaves_length (contents c s) g.sound in let b = g.counted.cells_counted in omega (arith, a, b, h)
word_held c s g (Branch n) h = let a = nodes_length (contents c s) g.sound in let b = g.counted.nodes_counted in (h.0, omega (arith, a, b, h.1))

pub held_diagram : (c : Counts) (s : Stores) → SoundStores c s → (w : Diagram) (bits : ℕ) → word_of w ≡ bits → WordHeld c.cells c.nodes w → diagram (state (contents c s)) bits ≡ Some (diagram_of (state (contents c s)) w)
held_diagram c s g w bits e h =
    subst (λ (b : ℕ). diagram (state (contents c s)) b ≡ Some (diagram_of (state (contents c s)) w)) e
    (names_diagram (state (contents c s)) w (diagram_of (state (contents c s)) w) (record { present = word_held c s g w h; stands = refl }))

leaf_bits : (w : ℕ) → field_of w ≡ 0 → kind_of w ≡ 0 → word 0 0 (value_of w) ≡ w
leaf_bits w f k = omega (arith, f, k)

node_bits : (w : ℕ) → field_of w ≡ 0 → kind_of w ≡ 1 → word 1 0 (value_of w) ≡ w
node_bits w f k = omega (arith, f, k)

abbrev amount : (n : ℕ) → n < value_end → Amount
amount n h = record { number = n; fits = h }

small : (w : ℕ) → value_of w < value_end
small w = omega arith

dropped_place : {X : Type 0} (x : X) (xs : List X) (n : ℕ) (y : X) → slice_get (x ∷ xs) n ≡ Some y → n ≤ length xs
dropped_place x xs zero y e = omega arith
dropped_place x xs (suc n) y e = (numbered_bound xs (suc n) y e).1

pub unheld_none :
    (c : Counts) (s : Stores) → SoundStores c s → (bits : ℕ) → ((w : Diagram) → word_of w ≡ bits → WordHeld c.cells c.nodes w → ⊥) → diagram (state (contents c s)) bits ≡ None
unheld_none c s g bits h = go (diagram (state (contents c s)) bits) refl
  where
    S : State
    S = state (contents c s)

    no : (d : MDiagram) → Standing S bits d → ⊥
    no d (a_leaf {l} f k e) =
        h (Leaf (amount (value_of bits) (small bits))) (leaf_bits bits f k)
        (let a = leaves_length (contents c s) g.sound in let b = g.counted.cells_counted in let p = dropped_place [] S.leaves (value_of bits) l e in omega (arith, a, b, p))
    no d (a_node f k e) =
        h (Branch (amount (value_of bits) (small bits))) (node_bits bits f k)
        (let a = nodes_length (contents c s) g.sound in let b = g.counted.nodes_counted in let p = numbered_bound S.nodes (value_of bits) d e in (p.0, omega (arith, a, b, p.1)))

    go : (x : Option MDiagram) → diagram S bits ≡ x → diagram S bits ≡ None
    go None e = e
    go (Some d) e = absurd (no d (standing S bits d e))

-- how much there is room for

pub fits_of : (c : Counts) (s : Stores) → SoundStores c s → Fits (rooms_in s) (state (contents c s))
fits_of c s g =
    record {
      actions = let a = actions_length (contents c s) in let b = g.counted.actions_counted in let k = counted_bounds c.actions s.actions.slots.now b in omega (arith, a, b, k.0, k.1);
      leaves = let a = leaves_length (contents c s) g.sound in let b = g.counted.cells_counted in let k = counted_bounds c.cells s.cells.slots.now b in omega (arith, a, b, k.0, k.1);
      nodes = let a = nodes_length (contents c s) g.sound in let b = g.counted.nodes_counted in let k = counted_bounds c.nodes s.nodes.slots.now b in omega (arith, a, b, k.0, k.1);
    }

pub over_of : (s : Stores) (S : State) (asks : List Request) → Over (rooms s) S asks → Over (size (rooms_in s)) S asks
over_of s S asks o =
    record { kind = o.kind; records = o.records; different = o.different; of_kind = o.of_kind; held_or_asked = o.held_or_asked; too_many = go o.kind o.too_many }
  where
    go : (k : Kind) → rooms s k < length o.records → size (rooms_in s) k < length o.records
    go actions l = l
    go cells l = l
    go nodes l = l

pub same_rooms : (s s' : Stores) → SameMemory s s' → rooms_in s' ≡ rooms_in s
same_rooms s s' h i = record { actions = min (h.actions_size i) numbers_limit; cells = min (h.cells_size i) numbers_limit; nodes = min (h.nodes_size i) numbers_limit }

-- an accepted construction
pub grows_of :
    (c c' : Counts) (s s' : Stores) (r : MDiagram) (asks : List Request) (w : Diagram) →
    NothingLost c s c' s' → Made r asks c s c' s' w → Grows (rooms_in s) (state (contents c s)) asks r (word_of w) (state (contents c' s'))
grows_of c c' s s' r asks w k m =
    record {
      adds = adds_of (contents c' s') (state (contents c s)) asks m.good.sound m.added;
      its_word = names_diagram (state (contents c' s')) w r m.names;
      fits = subst (λ (z : Rooms). Fits z (state (contents c' s'))) (same_rooms s s' k.memory) (fits_of c' s' m.good);
    }
