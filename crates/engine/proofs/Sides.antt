-- A construction of a node: that of the yes side, that of the no side, and then one of both.
use Rattle.std.proofs.Common.{◌≡◌, ℕ, ◌+◌, ◌*◌, ◌<◌, List, [], ◌++◌, None, get_or, Ok, Err, Result, sym, refl, ap, ◌∙◌, subst, arith}
use Rattle.weights.specs.Weights.{Ops}
use Rattle.meaning.specs.Leaves.{Action}
use Rattle.meaning.specs.Diagrams.{Diagram as MDiagram, Node as MNode}
use Rattle.requests.specs.Requests.{Request}
use Rattle.requests.specs.Rules.{Makes, Chooses, Prefixes, prefixes_both, Sequences, sequences_node, Negates, negates_node}
use Rattle.requests.specs.Claims.{Construction, AtLeastOne}
use Rattle.requests.proofs.Total.{make_total, choose_total, prefix_total, sequence_total, negate_total}
use Rattle.faults.specs.declared.layers.StoreFault.{StoreFault}
use Rattle.records.specs.declared.kinds.Diagram.{Diagram}
use Rattle.counts.specs.declared.counts.Counts.{Counts}
use Rattle.engine.specs.declared.memory.Stores.{Stores}
use Rattle.engine.specs.Done.{SoundStores, NothingLost, Done}
use Rattle.engine.specs.InTurn.{Then}
use Rattle.engine.proofs.Chain.{Pending, begin, step, stop, last, then_total}

pub record Sides (Q : Construction) (F : MDiagram → Construction) (G : MDiagram → MDiagram → Construction) (Y Z : MDiagram) : Type 0 where
  pub node : (v w r : MDiagram) (a b c : List Request) → F Y v a → F Z w b → G v w r c → Q r (a ++ (b ++ c))
  pub side_total : (d : MDiagram) → AtLeastOne (F d)
  pub node_total : (v w : MDiagram) → AtLeastOne (G v w)

module _ {Q : Construction} {F : MDiagram → Construction} {G : MDiagram → MDiagram → Construction} {Y Z : MDiagram} (S : Sides Q F G Y Z) {c0 : Counts} {s0 : Stores} (good : SoundStores c0 s0) where
  started : Pending Q c0 s0 [] (Then (F Y) (λ v. Then (F Z) (λ w. G v w))) c0 s0
  started =
      begin (Then (F Y) (λ v. Then (F Z) (λ w. G v w))) good
      (λ r x t. subst (λ (y : List Request). Q r y) (sym (t.whole ∙ ap (λ (y : List Request). t.asks ++ y) t.second.whole)) (S.node t.between t.second.between r t.asks t.second.asks t.second.more t.first t.second.first t.second.second))

  pub stops_first : {c1 : Counts} {s1 : Stores} {k : StoreFault} {result : Result Diagram StoreFault} (d : Done (F Y) c0 s0 c1 s1 (Err k)) → result ≡ Err k → Done Q c0 s0 c1 s1 result
  stops_first d e = stop started refl (λ q. then_total (S.side_total Z) (λ w. S.node_total q w)) d e

  module _ {c1 : Counts} {s1 : Stores} {v : Diagram} (d1 : Done (F Y) c0 s0 c1 s1 (Ok v)) (k_1 : NothingLost c0 s0 c1 s1) {R : Construction} (e1 : R ≡ F Z) {c2 : Counts} {s2 : Stores} where
    pub stops_second : {k : StoreFault} {result : Result Diagram StoreFault} (d : Done R c1 s1 c2 s2 (Err k)) → result ≡ Err k → Done Q c0 s0 c2 s2 result
    stops_second d e = stop (step started refl d1 k_1) e1 (λ q. S.node_total d1.out q) d e

    pub made_of_both : {w : Diagram} (d2 : Done R c1 s1 c2 s2 (Ok w)) → NothingLost c1 s1 c2 s2 → {T : Construction} {c3 : Counts} {s3 : Stores} {result : Result Diagram StoreFault} → T ≡ G d1.out d2.out → Done T c2 s2 c3 s3 result → Done Q c0 s0 c3 s3 result
    made_of_both d2 k_2 e d3 = last (step (step started refl d1 k_1) e1 d2 k_2) e d3

module _ {o : Ops} {D Y Z : MDiagram} {f n : ℕ} (whole : D ≡ MNode f n Y Z) where
  pub negate_sides : Sides (Negates o D) (Negates o) (Makes o f n) Y Z
  negate_sides =
      record {
        node = λ v w r a b c p q m. subst (λ (d : MDiagram). Negates o d r (a ++ (b ++ c))) (sym whole) (negates_node p q m);
        side_total = negate_total o;
        node_total = make_total o f n;
      }

  pub sequence_sides : (E : MDiagram) → Sides (Sequences o E D) (Sequences o E) (Chooses o f n) Y Z
  sequence_sides E =
      record {
        node = λ v w r a b c p q m. subst (λ (d : MDiagram). Sequences o E d r (a ++ (b ++ c))) (sym whole) (sequences_node p q m);
        side_total = sequence_total o E;
        node_total = choose_total o f n;
      }

  pub prefix_sides : (s : Action) (w : ℕ) → get_or s f None ≡ None → Sides (Prefixes o s w D) (Prefixes o s w) (Makes o f n) Y Z
  prefix_sides s w e =
      record {
        node = λ u v r a b c p q m. subst (λ (d : MDiagram). Prefixes o s w d r (a ++ (b ++ c))) (sym whole) (prefixes_both e p q m);
        side_total = prefix_total o s w;
        node_total = make_total o f n;
      }

-- a side has fewer parts
pub yes_less : (y y' z k t : ℕ) → y' ≡ y → k ≡ 1 + (y + z) → k ≡ t → y' < t
yes_less y y' z k t e f g = omega arith

pub no_less : (y z z' k t : ℕ) → z' ≡ z → k ≡ 1 + (y + z) → k ≡ t → z' < t
no_less y z z' k t e f g = omega arith

-- twice, where another call stands between
pub yes_less2 : (y y' z k t : ℕ) → y' ≡ y → k ≡ 1 + (y + z) → 2 * k ≡ t → 2 * y' + 1 < t
yes_less2 y y' z k t e f g = omega arith

pub no_less2 : (y z z' k t : ℕ) → z' ≡ z → k ≡ 1 + (y + z) → 2 * k ≡ t → 2 * z' + 1 < t
no_less2 y z z' k t e f g = omega arith
