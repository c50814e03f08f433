-- What a held word shows of its diagram. Assumes nothing.
use Rattle.std.proofs.Common.{◌≡◌, ℕ, zero, suc, List, [], ◌∷◌, Some, None, Option, sym, refl, ap, ◌∙◌, subst}
use Rattle.meaning.specs.Leaves.{Action as MAction, Cell as MCell}
use Rattle.meaning.specs.Diagrams.{Diagram as MDiagram, Leaf as MLeaf, Node as MNode}
use Rattle.faults.specs.declared.layers.StoreFault.{StoreFault}
use Rattle.format.specs.declared.settings.Amount.{Amount}
use Rattle.actions.specs.declared.actions.Action.{Action}
use Rattle.records.specs.declared.kinds.Cell.{Cell}
use Rattle.records.specs.declared.kinds.Node.{Node}
use Rattle.records.specs.declared.kinds.Diagram.{Diagram}
use Rattle.records.specs.declared.kinds.Diagram.TheVariants.{Leaf, Branch}
use Rattle.records.specs.Words.{word_of}
use Rattle.weights.specs.Weights.{Ops}
use Rattle.counts.specs.declared.counts.Counts.{Counts}
use Rattle.engine.specs.declared.memory.Stores.{Stores}
use Rattle.engine.specs.Contents.{contents}
use Rattle.stored.specs.Stored.{Stored, Holdings, diagram}
use Rattle.engine.specs.declared.shape.Shape.{Shape}
use Rattle.engine.specs.declared.shape.Shape.TheVariants as shape
use Rattle.engine.specs.declared.memo.PackedEntry.{PackedEntry}
use Rattle.engine.specs.Cells.{CellRead, action_at}
use Rattle.engine.specs.Done.{NodeRead}
use Rattle.engine.specs.Leaves.{LeafPresent, leaf_at}
use Rattle.engine.specs.State.{state, diagram_of, Present}
use Rattle.engine.specs.Shapes.{Shows}
use Rattle.engine.specs.Views.{holdings, SoundEngine}
use Rattle.engine.proofs.Calls.{Operand, NoOperand, operand_held, operand_unheld}
use Rattle.engine.proofs.Growing.{names_diagram}
use Rattle.engine.proofs.NarrowRules.{here, leaf_word}

module _ {o : Ops} {m : Stores} {c : Counts} {l : List (Option PackedEntry)} (b : SoundEngine o m c l) {h : Holdings} (t : holdings m c ≡ h) (word : ℕ) where
  of_holdings : (x : Option Shape) → Shows (here c m) word x → Shows h.stored word x
  of_holdings x k = subst (λ (g : Holdings). Shows g.stored word x) t k

  pub shows_none : {f : StoreFault} → NoOperand c 0 word f → Shows h.stored word None
  shows_none k = of_holdings None (operand_unheld b k)

  -- a word in store names what it stands for
  named : (v : Diagram) (bits : ℕ) → bits ≡ word_of v → Present (here c m) v → diagram (here c m) bits ≡ Some (diagram_of (here c m) v)
  named v bits e p = ap (λ (n : ℕ). diagram (here c m) n) e ∙ names_diagram (here c m) v (diagram_of (here c m) v) (record { present = p; stands = refl })

  module _ (v : Diagram) (p : Operand c word v) where
    held_leaf : {first : Amount} → v ≡ Leaf first → diagram (here c m) word ≡ Some (MLeaf (leaf_at (here c m) first.number))
    held_leaf e = operand_held b v p ∙ ap {B = Option MDiagram} Some (leaf_word c m v e)

    pub shows_drop : {first : Amount} → v ≡ Leaf first → first.number ≡ 0 → Shows h.stored word (Some shape.Drop)
    shows_drop {first} e z = of_holdings (Some shape.Drop) (held_leaf e ∙ ap {B = Option MDiagram} (λ (n : ℕ). Some (MLeaf (leaf_at (here c m) n))) z)

    pub shows_cell :
        {first : Amount} {x : Cell} (a : Action) {rest : ℕ} → v ≡ Leaf first → CellRead (here c m) first.number x → a.sets ≡ action_at (here c m) x.action.number → rest ≡ word_of (Leaf x.rest) →
        Shows h.stored word (Some (shape.Cell a x.weight.number rest))
    shows_cell {first} {x} a {rest} e r k w =
        of_holdings (Some (shape.Cell a x.weight.number rest)) (
          leaf_at (here c m) x.rest.number,
          held_leaf e ∙ ap {B = Option MDiagram} (λ (l : List MCell). Some (MLeaf l)) (r.itself ∙ ap {B = List MCell} (λ (s : MAction). (s, x.weight.number) ∷ leaf_at (here c m) x.rest.number) (sym k)),
          named (Leaf x.rest) rest w r.rest_present ∙ ap {B = Option MDiagram} Some (leaf_word c m (Leaf x.rest) refl),
        )

    pub shows_test :
        {number : Amount} {x : Node} {y z : ℕ} → v ≡ Branch number → NodeRead (here c m) number x → y ≡ word_of x.yes → z ≡ word_of x.no → Shows h.stored word (Some (shape.Test x.test y z))
    shows_test {number} {x} {y} {z} e r i j =
        of_holdings (Some (shape.Test x.test y z)) (
          diagram_of (here c m) x.yes,
          diagram_of (here c m) x.no,
          operand_held b v p ∙ ap {B = Option MDiagram} Some (ap (λ (u : Diagram). diagram_of (here c m) u) e ∙ r.itself),
          named x.yes y i r.yes_present,
          named x.no z j r.no_present,
        )
