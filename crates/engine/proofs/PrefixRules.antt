-- Prefix by its rules, over stores: what has one side, or none.
use Rattle.std.proofs.Common.{◌≡◌, ℕ, ◌≢◌, List, Some, None, get_or, Result, sym, refl, subst, subst₂}
use Rattle.weights.specs.Weights.{Ops}
use Rattle.meaning.specs.Leaves.{Action, Cell as MCell}
use Rattle.meaning.specs.Diagrams.{Diagram as MDiagram, Leaf as MLeaf, Node as MNode}
use Rattle.requests.specs.Requests.{Request}
use Rattle.requests.specs.Rules.{Prefixes, prefixes_leaf, prefixes_yes, prefixes_no}
use Rattle.faults.specs.declared.layers.StoreFault.{StoreFault}
use Rattle.records.specs.declared.kinds.Diagram.{Diagram}
use Rattle.counts.specs.declared.counts.Counts.{Counts}
use Rattle.engine.specs.declared.memory.Stores.{Stores}
use Rattle.engine.specs.Done.{SoundStores, Done}
use Rattle.engine.specs.Leaves.{LeafPrefixes}
use Rattle.engine.proofs.Chain.{begin, last}

module _ {o : Ops} {c0 c1 : Counts} {s0 s1 : Stores} (good : SoundStores c0 s0) {s : Action} {w : ℕ} {D : MDiagram} {result : Result Diagram StoreFault} where
  pub prefix_at_leaf : {l : List MCell} {s' : Action} → s' ≡ s → D ≡ MLeaf l → Done (LeafPrefixes o s' w l) c0 s0 c1 s1 result → Done (Prefixes o s w D) c0 s0 c1 s1 result
  prefix_at_leaf {l} i e d =
      last (begin (LeafPrefixes o s w l) good (λ r x h. subst (λ (y : MDiagram). Prefixes o s w y r x) (sym e) (subst₂ (λ (y : MDiagram) (z : List Request). Prefixes o s w (MLeaf l) y z) (sym h.0) (sym h.1) prefixes_leaf))) (λ j. LeafPrefixes o (i j) w l) d

  module _ {f n : ℕ} {Y Z : MDiagram} (whole : D ≡ MNode f n Y Z) {m : ℕ} (e : get_or s f None ≡ Some m) where
    pub prefix_to_yes : m ≡ n → Done (Prefixes o s w Y) c0 s0 c1 s1 result → Done (Prefixes o s w D) c0 s0 c1 s1 result
    prefix_to_yes h d = last (begin (Prefixes o s w Y) good (λ r x q. subst (λ (y : MDiagram). Prefixes o s w y r x) (sym whole) (prefixes_yes e h q))) refl d

    pub prefix_to_no : m ≢ n → Done (Prefixes o s w Z) c0 s0 c1 s1 result → Done (Prefixes o s w D) c0 s0 c1 s1 result
    prefix_to_no h d = last (begin (Prefixes o s w Z) good (λ r x q. subst (λ (y : MDiagram). Prefixes o s w y r x) (sym whole) (prefixes_no e h q))) refl d
