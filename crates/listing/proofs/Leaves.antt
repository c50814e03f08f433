-- Which row of a diagram's leaves matches a frame first. Assumes nothing.
use Rattle.std.proofs.Common.{◌≡◌, ℕ, ◌+◌, Bool, true, false, ◌&&◌, eqb, List, [], ◌∷◌, ◌++◌, map, length, get_or, sym, refl, ap, ◌∙◌, ap₂, append_assoc, length-append}
use mathlib.Core.List.{map-append}
use Rattle.std.proofs.lemmas.Bool.{eq-eqb, ne_eqb}
use lib.ListN.{length-map}
use Rattle.std.specs.List.{AllByRecursion}
use Rattle.tables.specs.Emits.{holds}
use Rattle.meaning.specs.Decide.{choice, decide}
use Rattle.meaning.specs.Leaves.{Frame}
use Rattle.meaning.specs.Diagrams.{Diagram, Leaf, Node, reach}
use Rattle.listing.specs.Rows.{Placed, behind, leaves_of, row_of}
use Rattle.listing.specs.Tables.{passed, reached, place_of, FirstMatchIsTheLeafReached}
use Rattle.listing.proofs.Lists.{all_append, all_map, all_of_map}

-- among the leaves, p is the first whose tests all hold of the frame, and i leaves come before it
record First (s : Frame) (ps : List Placed) (i : ℕ) (p : Placed) : Type 0 where
  earlier : List Placed
  later : List Placed
  is : ps ≡ earlier ++ (p ∷ later)
  place : length earlier ≡ i
  fail : AllByRecursion (λ q. holds q.way s ≡ false) earlier
  hold : holds p.way s ≡ true

first_yes :
    (f n : ℕ) (y z : Diagram) (s : Frame) (i : ℕ) (p : Placed) →
    get_or s f 0 ≡ n →
    First s (leaves_of y) i p →
    First s (leaves_of (Node f n y z)) i (behind f n p)
first_yes f n y z s i p e h =
    record {
      earlier = map (behind f n) h.earlier;
      later = map (behind f n) h.later ++ leaves_of z;
      is =
          ap (λ (ps : List Placed). map (behind f n) ps ++ leaves_of z) h.is
          ∙ ap (λ (ps : List Placed). ps ++ leaves_of z) (map-append (behind f n) h.earlier (p ∷ h.later))
          ∙ append_assoc (map (behind f n) h.earlier) (behind f n p ∷ map (behind f n) h.later) (leaves_of z);
      place = length-map h.earlier (behind f n) ∙ h.place;
      fail = all_map (behind f n) (λ q. holds q.way s ≡ false) (λ q. holds q.way s ≡ false) (λ q k. test_yes ∙ k) h.earlier h.fail;
      hold = test_yes ∙ h.hold;
    }
  where
    test_yes : {b : Bool} → eqb (get_or s f 0) n && b ≡ b
    test_yes {b} = ap (λ (c : Bool). c && b) (eq-eqb (get_or s f 0) n e)

first_no :
    (f n : ℕ) (y z : Diagram) (s : Frame) (i : ℕ) (p : Placed) →
    (get_or s f 0 ≡ n → ⊥) →
    First s (leaves_of z) i p →
    First s (leaves_of (Node f n y z)) (length (leaves_of y) + i) p
first_no f n y z s i p e h =
    record {
      earlier = map (behind f n) (leaves_of y) ++ h.earlier;
      later = h.later;
      is =
          ap (λ (ps : List Placed). map (behind f n) (leaves_of y) ++ ps) h.is
          ∙ sym (append_assoc (map (behind f n) (leaves_of y)) h.earlier (p ∷ h.later));
      place =
          length-append (map (behind f n) (leaves_of y)) h.earlier
          ∙ ap₂ (λ (a b : ℕ). a + b) (length-map (leaves_of y) (behind f n)) h.place;
      fail =
          all_append (λ q. holds q.way s ≡ false) (map (behind f n) (leaves_of y)) h.earlier
          (all_of_map (behind f n) (λ q. holds q.way s ≡ false)
          (λ q. ap (λ (c : Bool). c && holds q.way s) (ne_eqb (get_or s f 0) n e))
          (leaves_of y))
          h.fail;
      hold = h.hold;
    }

first : (d : Diagram) (s : Frame) → First s (leaves_of d) (place_of d s) (reached d s)
first (Leaf l) s = record { earlier = []; later = []; is = refl; place = refl; fail = tt; hold = refl }
first (Node f n y z) s = go (decide (get_or s f 0) n) (first y s) (first z s)
  where
    go :
        (t : Dec (get_or s f 0 ≡ n)) →
        First s (leaves_of y) (place_of y s) (reached y s) →
        First s (leaves_of z) (place_of z s) (reached z s) →
        First s (leaves_of (Node f n y z)) (choice t (place_of y s) (length (leaves_of y) + place_of z s)) (record { way = choice t ((f, n) ∷ passed y s) (passed z s); cells = choice t (reach y s) (reach z s) })
    go (yes e) h k = first_yes f n y z s (place_of y s) (reached y s) e h
    go (no e) h k = first_no f n y z s (place_of z s) (reached z s) e k

pub first_match : FirstMatchIsTheLeafReached
first_match d s =
    record {
      earlier = map row_of found.earlier;
      later = map row_of found.later;
      is = ap (map row_of) found.is ∙ map-append row_of found.earlier (reached d s ∷ found.later);
      place = length-map found.earlier row_of ∙ found.place;
      fail = all_map row_of (λ q. holds q.way s ≡ false) (λ r. holds r.matches s ≡ false) (λ q h. h) found.earlier found.fail;
      hold = found.hold;
    }
  where
    found : First s (leaves_of d) (place_of d s) (reached d s)
    found = first d s
