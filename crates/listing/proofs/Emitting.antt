-- A table emits what its diagram gives.
use Rattle.std.proofs.Common.{◌≡◌, ℕ, Bool, false, cond, List, [], ◌∷◌, ◌++◌, map, length, get_or, sym, refl, ap, ◌∙◌}
use Rattle.std.specs.List.{AllByRecursion}
use Rattle.std.proofs.lemmas.Bool.{false_from_ne_true}
use Rattle.format.specs.Fields.{fields}
use Rattle.format.specs.Actions.{apply}
use Rattle.weights.specs.Weights.{Ops, Laws, Weight}
use Rattle.weights.proofs.Order.{join_zero}
use Rattle.tables.specs.Rows.{Row}
use Rattle.tables.proofs.Scans.{same_decides}
use Rattle.tables.specs.Emits.{holds, replaced, same, joins, emits}
use Rattle.meaning.specs.Decide.{choice, decide, equal_lists}
use Rattle.meaning.specs.Leaves.{Action, Frame, Cell, Each, CellFormed, LeafFormed, gather}
use Rattle.meaning.specs.Diagrams.{Diagram, Leaf, Node, reach, Formed, emits as gives}
use Rattle.listing.specs.Rows.{rows_of, row_of, emission_of, sets_from}
use Rattle.listing.specs.Tables.{FirstMatch, EmitsWhatTheDiagramGives, reached, place_of}
use Rattle.listing.proofs.Leaves.{first_match}
use Rattle.listing.proofs.Sets.{replaced_sets}

-- the row that matches first decides
emits_first : (o : Ops) (rows : List Row) (i : ℕ) (r : Row) (s t : Frame) → FirstMatch s rows i r → emits o rows s t ≡ joins o s t o.zero r.emissions
emits_first o rows i r s t h =
    ap (λ (q : List Row). emits o q s t) h.is
    ∙ skip h.earlier h.fail
    ∙ ap (λ (b : Bool). cond b (joins o s t o.zero r.emissions) (emits o h.later s t)) h.hold
  where
    skip : (qs : List Row) → AllByRecursion (λ q. holds q.matches s ≡ false) qs → emits o (qs ++ (r ∷ h.later)) s t ≡ emits o (r ∷ h.later) s t
    skip [] k = refl
    skip (q ∷ qs) k =
        ap (λ (b : Bool). cond b (joins o s t o.zero q.emissions) (emits o (qs ++ (r ∷ h.later)) s t)) k.0 ∙ skip qs k.1

module _ {o : Ops} (L : Laws o) where
  gives_weight : (s t : Frame) (a : Action) (w : ℕ) → Weight o w → Weight o (gives o s t a w)
  gives_weight s t a w h = go (equal_lists decide (apply a s) t)
    where
      go : (d : Dec (apply a s ≡ t)) → Weight o (choice d w o.zero)
      go (yes e) = h
      go (no e) = L.zero_weight

  gather_weight : (s t : Frame) (l : List Cell) → Each (CellFormed o) l → Weight o (gather o (gives o s t) l)
  gather_weight s t [] h = L.zero_weight
  gather_weight s t (c ∷ l) h =
      L.join_weight _ _ (gives_weight s t c.0 c.1 h.0.weight) (gather_weight s t l h.1)

  -- one emission joins what its cell gives
  joins_cell :
      (s t : Frame) (a : ℕ) (c : Cell) →
      length c.0 ≡ length s →
      Weight o a →
      cond (same (replaced (sets_from 0 c.0) s) t) (o.join a c.1) a ≡ o.join a (gives o s t c.0 c.1)
  joins_cell s t a c e w =
      ap (λ (u : Frame). cond (same u t) (o.join a c.1) a) (replaced_sets c.0 s e) ∙ go (equal_lists decide (apply c.0 s) t)
    where
      go : (d : Dec (apply c.0 s ≡ t)) → cond (same (apply c.0 s) t) (o.join a c.1) a ≡ o.join a (choice d c.1 o.zero)
      go (yes q) = ap (λ (b : Bool). cond b (o.join a c.1) a) ((same_decides (apply c.0 s) t).1 q)
      go (no q) = ap (λ (b : Bool). cond b (o.join a c.1) a) (false_from_ne_true _ (λ e. q ((same_decides (apply c.0 s) t).0 e))) ∙ sym (join_zero L w)

  joins_cells :
      (s t : Frame) →
      length s ≡ fields →
      (a : ℕ) (l : List Cell) →
      Weight o a →
      Each (CellFormed o) l →
      joins o s t a (map emission_of l) ≡ o.join a (gather o (gives o s t) l)
  joins_cells s t e a [] w h = sym (join_zero L w)
  joins_cells s t e a (c ∷ l) w h =
      ap (λ (b : ℕ). joins o s t b (map emission_of l)) (joins_cell s t a c (h.0.action.all_fields ∙ sym e) w)
      ∙ joins_cells s t e (o.join a (gives o s t c.0 c.1)) l (L.join_weight _ _ w given) h.1
      ∙ L.join_associative _ _ _ w given (gather_weight s t l h.1)
    where
      given : Weight o (gives o s t c.0 c.1)
      given = gives_weight s t c.0 c.1 h.0.weight

  -- the leaf that a frame reaches in a well-formed diagram is well-formed
  reach_formed : (d : Diagram) (s : Frame) → Formed o d → LeafFormed o (reach d s)
  reach_formed (Leaf l) s h = h
  reach_formed (Node f n y z) s h = go (decide (get_or s f 0) n) (reach_formed y s h.1) (reach_formed z s h.2)
    where
      go : (t : Dec (get_or s f 0 ≡ n)) → LeafFormed o (reach y s) → LeafFormed o (reach z s) → LeafFormed o (choice t (reach y s) (reach z s))
      go (yes e) p q = p
      go (no e) p q = q

  pub emits_what_the_diagram_gives : EmitsWhatTheDiagramGives o
  emits_what_the_diagram_gives d s t h r =
      emits_first o (rows_of d) (place_of d s) (row_of (reached d s)) s t (first_match d s)
      ∙ joins_cells s t r.all_fields o.zero (reach d s) L.zero_weight cells
      ∙ L.zero_neutral _ (gather_weight s t (reach d s) cells)
    where
      cells : Each (CellFormed o) (reach d s)
      cells = (reach_formed d s h).cells
