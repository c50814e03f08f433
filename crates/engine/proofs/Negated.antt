-- Leaves in store: their records are there, and a leaf with drop and pass exchanged.
use Rattle.std.proofs.Common.{◌≡◌, ℕ, zero, suc, ◌≢◌, Bool, false, true≢false, Decides, List, [], ◌∷◌, Ok, Result, sym, refl, ap, ◌∙◌, subst, subst₂, inl, arith, ◌<◌, ◌≤◌}
use Rattle.weights.specs.Weights.{Ops, Laws}
use Rattle.format.specs.Actions.{keep_all}
use Rattle.faults.specs.declared.layers.StoreFault.{StoreFault}
use Rattle.format.specs.declared.settings.Amount.{Amount}
use Rattle.actions.specs.declared.actions.Action.{Action}
use Rattle.actions.proofs.Alike.{actions_alike}
use Rattle.records.specs.declared.kinds.Cell.{Cell}
use Rattle.records.specs.declared.kinds.Diagram.{Diagram}
use Rattle.records.specs.declared.kinds.Diagram.TheVariants.{Leaf}
use Rattle.counts.specs.declared.counts.Counts.{Counts}
use Rattle.engine.specs.declared.memory.Stores.{Stores}
use Rattle.engine.specs.Contents.{Contents, contents}
use Rattle.meaning.specs.Decide.{decide}
use Rattle.meaning.specs.Leaves.{Action as MAction, Cell as MCell, Each}
use Rattle.meaning.specs.Diagrams.{Diagram as MDiagram, Leaf as MLeaf}
use Rattle.meaning.proofs.Gathering.{choice_no}
use Rattle.stores.specs.Numbers.{Numbered}
use Rattle.requests.specs.Requests.{Request, action, cell, leaf_records}
use Rattle.requests.specs.Rules.{Negates, negates_drop, negates_pass, negates_other, one_cell, pass_cells}
use Rattle.engine.specs.Built.{numbered_or}
use Rattle.engine.specs.State.{State, state, diagram_of, Has, Sound}
use Rattle.engine.specs.Done.{SoundStores, Done}
use Rattle.engine.specs.Leaves.{LeafPresent, leaf_at}
use Rattle.engine.specs.Cells.{CellRead, ActionPresent, action_at, LeafOf}
use Rattle.engine.proofs.Numbers.{numbered_any, numbered_value}
use Rattle.engine.proofs.Decoding.{leaves_long, leaf_number}
use Rattle.engine.proofs.EnteringCells.{cell_read, cell_good, read_cell}
use Rattle.engine.proofs.Composing.{added_none}
use Rattle.engine.proofs.LeafRules.{here, redone}

action_held : (s : State) (n : ℕ) → ActionPresent s n → Has s (action (action_at s n))
action_held s n p =
    let r = numbered_any s.actions n p.0 p.1 in
    (n, subst (λ (a : MAction). Numbered s.actions n a) (sym (numbered_value [] s.actions n r.0 r.1)) r.1)

module _ (c : Contents) (h : Sound c) where
  cell_there : (n : ℕ) → 0 < n → LeafPresent (state c) n → (y : Cell) × Numbered c.cells n y
  unfolding state
  cell_there n p q = numbered_any c.cells n p (omega (arith, q, leaves_long c h))

  cell_itself : (n : ℕ) (y : Cell) → Numbered c.cells n y → Has (state c) (cell (action_at (state c) y.action.number) y.weight.number (leaf_at (state c) y.rest.number))
  unfolding state
  cell_itself n y e = (n, cell_read c h n y e)

  records_by : (k n : ℕ) → n ≤ k → LeafPresent (state c) n → Each (Has (state c)) (leaf_records (leaf_at (state c) n))
  records_by k zero b p = tt
  records_by zero (suc n) b p = absurd (omega arith)
  records_by (suc k) (suc n) b p =
      let y = cell_there (suc n) (omega arith) p in
      let r = read_cell c h (suc n) y.0 y.1 in
      let g = cell_good c h (suc n) y.0 y.1 in
      subst (λ (l : List MCell). Each (Has (state c)) (leaf_records l)) (sym r.itself)
      (action_held (state c) y.0.action.number r.action_present, (cell_itself (suc n) y.0 y.1, records_by k y.0.rest.number (omega (arith, g.1, g.2.2)) r.rest_present))

-- every record of a leaf in store is there
pub records_held : (c : Counts) (s : Stores) → SoundStores c s → (n : ℕ) → LeafPresent (here c s) n → Each (Has (here c s)) (leaf_records (leaf_at (here c s) n))
records_held c s g n p = records_by (contents c s) g.sound n n (omega arith) p

-- the numbers of empty leaves
pub only_zero : (c : Counts) (s : Stores) → SoundStores c s → (n : ℕ) → LeafPresent (here c s) n → leaf_at (here c s) n ≡ [] → n ≡ 0
unfolding state
only_zero c s g n p e = leaf_number (contents c s) g.sound n 0 p (omega arith) g.sound.leaves_distinct e

pub not_empty : (c : Counts) (s : Stores) → SoundStores c s → (n : ℕ) → LeafPresent (here c s) n → n ≢ 0 → leaf_at (here c s) n ≢ []
not_empty c s g n p h e = h (only_zero c s g n p e)

abbrev head_action : List MCell → MAction
head_action [] = []
head_action (x ∷ l) = x.0

abbrev head_weight : List MCell → ℕ
head_weight [] = 0
head_weight (x ∷ l) = x.1

abbrev behind : List MCell → List MCell
behind [] = []
behind (x ∷ l) = l

pub denied : {P : Type 0} → (P → ⊥) → Decides false P
denied h = (λ e. absurd (true≢false (sym e)), λ p. absurd (h p))

module _ {o : Ops} (L : Laws o) where
  pass_one : pass_cells o ≡ (keep_all, o.one) ∷ []
  pass_one = choice_no (decide o.one o.zero) [] ((keep_all, o.one) ∷ []) L.one_is_not_zero

  module _ {c : Counts} {s : Stores} (g : SoundStores c s) {n : ℕ} {y : Cell} (r : CellRead (here c s) n y) where
    whole_pass : leaf_at (here c s) n ≡ pass_cells o → (action_at (here c s) y.action.number, y.weight.number) ∷ leaf_at (here c s) y.rest.number ≡ (keep_all, o.one) ∷ []
    whole_pass e = sym r.itself ∙ (e ∙ pass_one)

    pub not_longer : 0 < y.rest.number → leaf_at (here c s) n ≡ pass_cells o → ⊥
    not_longer p e = let z = only_zero c s g y.rest.number r.rest_present (ap behind (whole_pass e)) in absurd (omega arith)

    pub not_other : {w : ℕ} → w ≡ o.one → y.weight.number ≢ w → leaf_at (here c s) n ≡ pass_cells o → ⊥
    not_other f p e = p (ap head_weight (whole_pass e) ∙ sym f)

    pub pass_told :
        {b : Bool} {x k : Action} {w : ℕ} →
        y.rest.number ≡ 0 →
        w ≡ o.one →
        y.weight.number ≡ w →
        x.sets ≡ action_at (here c s) y.action.number →
        k.sets ≡ keep_all →
        Decides b (x ≡ k) →
        Decides b (leaf_at (here c s) n ≡ pass_cells o)
    pass_told {x = x} {k = k} z f e u v d =
        (λ t. there (d.0 t), λ q. d.1 (actions_alike x k (u ∙ (ap head_action (whole_pass q) ∙ sym v))))
      where
        empty : leaf_at (here c s) y.rest.number ≡ []
        empty = ap (leaf_at (here c s)) z

        there : x ≡ k → leaf_at (here c s) n ≡ pass_cells o
        there t = r.itself ∙ ((λ i. ((sym u ∙ (ap (λ (a : Action). a.sets) t ∙ v)) i, (e ∙ f) i) ∷ empty i) ∙ sym pass_one)

pub drop_negated :
    (o : Ops) {c c' : Counts} {s s' : Stores} {l : List MCell} {a : MAction} {w : ℕ} {result : Result Diagram StoreFault} →
    l ≡ [] →
    a ≡ keep_all →
    w ≡ o.one →
    Done (LeafOf (one_cell o a w)) c s c' s' result →
    Done (Negates o (MLeaf l)) c s c' s' result
drop_negated o {l = l} {a = a} {w = w} e k f d =
    redone d (λ r x i. subst₂ (λ (t : MDiagram) (b : List Request). Negates o (MLeaf l) t b) (sym (i.0 ∙ ap {B = MDiagram} MLeaf same)) (sym (i.1 ∙ ap leaf_records same)) (negates_drop e))
  where
    same : one_cell o a w ≡ pass_cells o
    same = λ i. one_cell o (k i) (f i)

pub pass_negated : {o : Ops} {c : Counts} {s : Stores} {l : List MCell} {n : Amount} → SoundStores c s → l ≢ [] → l ≡ pass_cells o → n.number ≡ 0 → Done (Negates o (MLeaf l)) c s c s (Ok (Leaf n))
unfolding diagram_of
pass_negated {c = c} {s = s} g h e z =
    record {
      out = MLeaf [];
      asks = [];
      by_the_rules = negates_pass h e;
      made = record {
        good = g;
        names = record { present = omega (arith, z); stands = ap {B = MDiagram} MLeaf (ap (λ (k : ℕ). numbered_or [] (here c s).leaves k) z) };
        added = added_none _;
      };
    }

pub other_negated : {o : Ops} {c : Counts} {s : Stores} {n : Amount} → SoundStores c s → LeafPresent (here c s) n.number → leaf_at (here c s) n.number ≢ [] → leaf_at (here c s) n.number ≢ pass_cells o → Done (Negates o (MLeaf (leaf_at (here c s) n.number))) c s c s (Ok (Leaf n))
unfolding diagram_of
other_negated {c = c} {s = s} {n = n} g p h k =
    record {
      out = MLeaf (leaf_at (here c s) n.number);
      asks = leaf_records (leaf_at (here c s) n.number);
      by_the_rules = negates_other h k;
      made = record {
        good = g;
        names = record { present = p; stands = refl };
        added = record { grown = (added_none (here c s)).grown; asked = records_held c s g n.number p; nothing_else = λ q m. inl m };
      };
    }
