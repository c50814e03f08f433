-- The words that take no operand.
use Rattle.std.proofs.Common.{◌≡◌, ℕ, List, [], ◌∷◌, ◌++◌, set, Some, Ok, Err, Result, sym, refl, ap, ap₂, ◌∙◌, subst₂}
use Rattle.weights.specs.Weights.{Ops}
use Rattle.format.specs.Actions.{keep_all}
use Rattle.format.specs.Policy.Policy.{Drop, Pass, Test, Set, Cost}
use Rattle.meaning.specs.Leaves.{Action}
use Rattle.meaning.specs.Diagrams.{Diagram as MDiagram, Leaf as MLeaf, Node as MNode}
use Rattle.requests.specs.Requests.{Request, node, leaf_records}
use Rattle.requests.specs.Rules.{pass_cells, Compiled, compiled_drop, compiled_pass, compiled_test, compiled_set, compiled_cost}
use Rattle.requests.specs.Claims.{Construction}
use Rattle.faults.specs.declared.layers.StoreFault.{StoreFault}
use Rattle.format.specs.declared.settings.Amount.{Amount}
use Rattle.records.specs.declared.kinds.Diagram.{Diagram}
use Rattle.records.specs.declared.kinds.Diagram.TheVariants.{Leaf}
use Rattle.counts.specs.declared.counts.Counts.{Counts}
use Rattle.engine.specs.declared.memory.Stores.{Stores}
use Rattle.engine.specs.Done.{SoundStores, NothingLost, Done, Entering}
use Rattle.engine.specs.Rounds.{Passes}
use Rattle.engine.specs.Compiling.{Singles}
use Rattle.engine.specs.InTurn.{Then}
use Rattle.engine.proofs.Composing.{start, complete}
use Rattle.engine.proofs.Chain.{Pending, begin, step, stop, last}
use Rattle.engine.proofs.FollowRules.{empty_leaf}
use Rattle.engine.proofs.NarrowRules.{here}

abbrev Over : ℕ → ℕ → MDiagram → Construction
Over f n p = Entering f n p (MLeaf [])

module _ {o : Ops} {c : Counts} {s : Stores} (g : SoundStores c s) where
  pub drop_done : {zero : Amount} → zero.number ≡ 0 → Done (Compiled o Drop) c s c s (Ok (Leaf zero))
  drop_done {zero} e = complete [] (start g) refl (empty_leaf (here c s) zero e) compiled_drop

  module _ {c' : Counts} {s' : Stores} {result : Result Diagram StoreFault} where
    pub pass_done : Done (Passes o) c s c' s' result → Done (Compiled o Pass) c s c' s' result
    pass_done d = last (begin (Passes o) g (λ r x h. subst₂ (λ (y : MDiagram) (z : List Request). Compiled o Pass y z) (sym h.0) (sym h.1) compiled_pass)) refl d

    pub set_done : {f n : ℕ} {a : Action} {w : ℕ} → a ≡ set keep_all f (Some n) → w ≡ o.one → Done (Singles o a w) c s c' s' result → Done (Compiled o (Set f n)) c s c' s' result
    set_done {f} {n} i j d =
        last (begin (Singles o (set keep_all f (Some n)) o.one) g (λ r x h. subst₂ (λ (y : MDiagram) (z : List Request). Compiled o (Set f n) y z) (sym h.0) (sym h.1) compiled_set)) (λ k. Singles o (i k) (j k)) d

    pub cost_done : {n : ℕ} {a : Action} {w : ℕ} → a ≡ keep_all → w ≡ o.cost n → Done (Singles o a w) c s c' s' result → Done (Compiled o (Cost n)) c s c' s' result
    cost_done {n} i j d =
        last (begin (Singles o keep_all (o.cost n)) g (λ r x h. subst₂ (λ (y : MDiagram) (z : List Request). Compiled o (Cost n) y z) (sym h.0) (sym h.1) compiled_cost)) (λ k. Singles o (i k) (j k)) d

  module _ (f n : ℕ) where
    test_started : Pending (Compiled o (Test f n)) c s [] (Then (Passes o) (Over f n)) c s
    test_started =
        begin (Then (Passes o) (Over f n)) g
        (λ r x t.
        let p = t.first.0 in
        let i : MNode f n (MLeaf (pass_cells o)) (MLeaf []) ≡ r = sym (t.second.0 ∙ ap (λ (y : MDiagram). MNode f n y (MLeaf [])) p) in
        let j : leaf_records (pass_cells o) ++ (node f n (MLeaf (pass_cells o)) (MLeaf []) ∷ []) ≡ x = sym (t.whole ∙ ap₂ {C = List Request} (λ (y z : List Request). y ++ z) t.first.1 (t.second.1 ∙ ap {B = List Request} (λ (y : MDiagram). node f n y (MLeaf []) ∷ []) p)) in
        subst₂ (λ (y : MDiagram) (z : List Request). Compiled o (Test f n) y z) i j compiled_test)

    pub test_stops : {c' : Counts} {s' : Stores} {k : StoreFault} {result : Result Diagram StoreFault} (d : Done (Passes o) c s c' s' (Err k)) → result ≡ Err k → Done (Compiled o (Test f n)) c s c' s' result
    test_stops d e = stop test_started refl (λ q. (_, _, (refl, refl))) d e

    pub test_made : {c' c'' : Counts} {s' s'' : Stores} {w : Diagram} {Y Z : MDiagram} {result : Result Diagram StoreFault} (d : Done (Passes o) c s c' s' (Ok w)) → NothingLost c s c' s' → Y ≡ d.out → Z ≡ MLeaf [] → Done (Entering f n Y Z) c' s' c'' s'' result → Done (Compiled o (Test f n)) c s c'' s'' result
    test_made d k i j d2 = last (step test_started refl d k) (λ h. Entering f n (i h) (j h)) d2
