-- The cells of a leaf, each before a diagram, over stores.
use Rattle.std.proofs.Common.{◌≡◌, ℕ, ◌<◌, List, [], ◌++◌, length, Ok, Err, Result, sym, refl, ap, ◌∙◌, subst, subst₂, arith}
use Rattle.weights.specs.Weights.{Ops}
use Rattle.meaning.specs.Leaves.{Action as MAction, Cell as MCell}
use Rattle.meaning.specs.Diagrams.{Diagram as MDiagram, Leaf as MLeaf}
use Rattle.requests.specs.Requests.{Request}
use Rattle.requests.specs.Rules.{Joins, Prefixes, Follows, follows_none, follows_next}
use Rattle.requests.specs.Claims.{Construction}
use Rattle.requests.proofs.Total.{join_total, follow_total}
use Rattle.faults.specs.declared.layers.StoreFault.{StoreFault}
use Rattle.format.specs.declared.settings.Amount.{Amount}
use Rattle.records.specs.declared.kinds.Cell.{Cell}
use Rattle.records.specs.declared.kinds.Diagram.{Diagram}
use Rattle.records.specs.declared.kinds.Diagram.TheVariants.{Leaf}
use Rattle.counts.specs.declared.counts.Counts.{Counts}
use Rattle.engine.specs.declared.memory.Stores.{Stores}
use Rattle.engine.specs.State.{State, diagram_of, Present, Names}
use Rattle.engine.specs.Done.{SoundStores, NothingLost, Done}
use Rattle.engine.specs.Leaves.{LeafPresent, leaf_at}
use Rattle.engine.specs.Cells.{action_at, CellRead}
use Rattle.engine.specs.InTurn.{Then}
use Rattle.engine.proofs.Composing.{itself, names_grown, present_grown}
use Rattle.engine.proofs.Alike.{joins_alike, prefixes_alike}
use Rattle.engine.proofs.Chain.{Pending, begin, step, stop, ready, turn, then_total}
use Rattle.engine.proofs.NarrowRules.{here}
use Rattle.engine.proofs.Reading.{leaf_grown}

-- the cells up to here have been followed
pub record FollowMade (o : Ops) (c : Counts) (s : Stores) (E : MDiagram) (l0 : List MCell) (second : Diagram) (c' : Counts) (s' : Stores) (sofar : Diagram) (rest : Amount) : Type 0 where
  pub diagram : MDiagram
  pub asks : List Request
  pub pending : Pending (Follows o E (MLeaf []) l0) c s asks (Follows o E diagram (leaf_at (here c' s') rest.number)) c' s'
  pub second_names : Names (here c' s') second E
  pub sofar_names : Names (here c' s') sofar diagram
  pub rest_present : LeafPresent (here c' s') rest.number

pub empty_leaf : (s : State) (zero : Amount) → zero.number ≡ 0 → Names s (Leaf zero) (MLeaf [])
unfolding diagram_of
empty_leaf s z e = record { present = omega arith; stands = ap (λ (n : ℕ). MLeaf (leaf_at s n)) e }

pub follow_started :
    {o : Ops} {c : Counts} {s : Stores} {second : Diagram} {zero first : Amount} → zero.number ≡ 0 → SoundStores c s → LeafPresent (here c s) first.number → Present (here c s) second →
    FollowMade o c s (diagram_of (here c s) second) (leaf_at (here c s) first.number) second c s (Leaf zero) first
follow_started {o} {c} {s} {second} {zero} {first} e g p q =
    record {
      diagram = MLeaf [];
      asks = [];
      pending = begin (Follows o (diagram_of (here c s) second) (MLeaf []) (leaf_at (here c s) first.number)) g (λ r x h. h);
      second_names = itself (here c s) second q;
      sofar_names = empty_leaf (here c s) zero e;
      rest_present = p;
    }

module _ {o : Ops} {c : Counts} {s : Stores} {E : MDiagram} {l0 : List MCell} {second : Diagram} {c' : Counts} {s' : Stores} {sofar : Diagram} {rest : Amount} (m : FollowMade o c s E l0 second c' s' sofar rest) where
  pub follow_ends : rest.number ≡ 0 → Done (Follows o E (MLeaf []) l0) c s c' s' (Ok sofar)
  follow_ends e = ready m.pending (subst (λ (n : ℕ). Follows o E m.diagram (leaf_at (here c' s') n) m.diagram []) (sym e) follows_none) refl m.sofar_names

  module _ {x : Cell} (read : CellRead (here c' s') rest.number x) where
    -- the cells behind this one
    abbrev Behind : MDiagram → Construction
    Behind j = Follows o E j (leaf_at (here c' s') x.rest.number)

    abbrev This : Construction
    This = Prefixes o (action_at (here c' s') x.action.number) x.weight.number E

    one_more : Pending (Follows o E (MLeaf []) l0) c s m.asks (Then This (λ p. Then (Joins o m.diagram p) Behind)) c' s'
    one_more =
        turn m.pending (Then This (λ p. Then (Joins o m.diagram p) Behind))
        (λ r y t. subst₂ (λ (l : List MCell) (z : List Request). Follows o E m.diagram l r z) (sym read.itself) (sym (t.whole ∙ ap (λ (z : List Request). t.asks ++ z) t.second.whole)) (follows_next t.first t.second.first t.second.second))

    module _ {a : MAction} (i : a ≡ action_at (here c' s') x.action.number) {S : MDiagram} (j : S ≡ E) where
      same : ◌≡◌ {A = Construction} (Prefixes o a x.weight.number S) This
      same = prefixes_alike o i refl j

      pub prefix_stops : {c1 : Counts} {s1 : Stores} {f : StoreFault} {result : Result Diagram StoreFault} (d : Done (Prefixes o a x.weight.number S) c' s' c1 s1 (Err f)) → result ≡ Err f → Done (Follows o E (MLeaf []) l0) c s c1 s1 result
      prefix_stops d e = stop one_more same (λ q. then_total (join_total o m.diagram q) (follow_total o E (leaf_at (here c' s') x.rest.number))) d e

      module _ {c1 : Counts} {s1 : Stores} {w : Diagram} (d1 : Done (Prefixes o a x.weight.number S) c' s' c1 s1 (Ok w)) (k_1 : NothingLost c' s' c1 s1) where
        joined_same : ◌≡◌ {A = Construction} (Joins o (diagram_of (here c1 s1) sofar) (diagram_of (here c1 s1) w)) (Joins o m.diagram d1.out)
        joined_same = joins_alike o (names_grown d1.made.added.grown m.sofar_names).stands d1.made.names.stands

        pub join_stops : {c2 : Counts} {s2 : Stores} {f : StoreFault} {result : Result Diagram StoreFault} (d : Done (Joins o (diagram_of (here c1 s1) sofar) (diagram_of (here c1 s1) w)) c1 s1 c2 s2 (Err f)) → result ≡ Err f → Done (Follows o E (MLeaf []) l0) c s c2 s2 result
        join_stops d e = stop (step one_more same d1 k_1) joined_same (follow_total o E (leaf_at (here c' s') x.rest.number)) d e

        module _ {c2 : Counts} {s2 : Stores} {u : Diagram} (d2 : Done (Joins o (diagram_of (here c1 s1) sofar) (diagram_of (here c1 s1) w)) c1 s1 c2 s2 (Ok u)) (k_2 : NothingLost c1 s1 c2 s2) where
          rest_there : LeafPresent (here c1 s1) x.rest.number
          rest_there = present_grown d1.made.added.grown (Leaf x.rest) read.rest_present

          rest_same : leaf_at (here c2 s2) x.rest.number ≡ leaf_at (here c' s') x.rest.number
          rest_same = leaf_grown d2.made.added.grown x.rest.number rest_there ∙ leaf_grown d1.made.added.grown x.rest.number read.rest_present

          pub followed_one : FollowMade o c s E l0 second c2 s2 u x.rest
          followed_one =
              record {
                diagram = d2.out;
                asks = (m.asks ++ d1.asks) ++ d2.asks;
                pending = turn (step (step one_more same d1 k_1) joined_same d2 k_2) (Follows o E d2.out (leaf_at (here c2 s2) x.rest.number)) (λ r y h. subst (λ (l : List MCell). Follows o E d2.out l r y) rest_same h);
                second_names = names_grown d2.made.added.grown (names_grown d1.made.added.grown m.second_names);
                sofar_names = d2.made.names;
                rest_present = present_grown d2.made.added.grown (Leaf x.rest) rest_there;
              }

          pub fewer_cells : length (leaf_at (here c2 s2) x.rest.number) < length (leaf_at (here c' s') rest.number)
          fewer_cells = omega (arith, ap length rest_same, ap length read.itself)
