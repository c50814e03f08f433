-- Narrow and make by their rules, over stores.
use Rattle.std.proofs.Common.{◌≡◌, ℕ, ◌+◌, ◌<◌, ◌≤◌, ◌≢◌, List, [], ◌∷◌, ◌++◌, Ok, Err, Result, sym, refl, ap, ap₂, ◌∙◌, subst, subst₂, append_assoc, arith}
use Rattle.weights.specs.Weights.{Ops}
use Rattle.meaning.specs.Leaves.{Cell as MCell}
use Rattle.meaning.specs.Diagrams.{Diagram as MDiagram, Leaf as MLeaf, Node as MNode, extent, equal_diagrams}
use Rattle.requests.specs.Requests.{Request, node}
use Rattle.requests.specs.Rules.{Narrows, narrows_leaf, narrows_yes, narrows_no, narrows_both, Makes, makes_no, makes_node}
use Rattle.requests.proofs.Total.{narrow_total, make_total}
use Rattle.engine.proofs.Numbers.{in_left, in_right}
use Rattle.faults.specs.declared.layers.StoreFault.{StoreFault}
use Rattle.records.specs.declared.kinds.Diagram.{Diagram}
use Rattle.records.specs.declared.kinds.Diagram.TheVariants.{Leaf, Branch}
use Rattle.counts.specs.declared.counts.Counts.{Counts}
use Rattle.engine.specs.declared.memory.Stores.{Stores}
use Rattle.engine.specs.Contents.{contents}
use Rattle.format.specs.declared.settings.Amount.{Amount}
use Rattle.records.specs.declared.kinds.Node.{Node}
use Rattle.requests.specs.Claims.{Construction}
use Rattle.engine.specs.State.{State, state, diagram_of, Present, Names}
use Rattle.engine.specs.Done.{SoundStores, NothingLost, Done, Entering, NodeRead}
use Rattle.engine.specs.Leaves.{LeafNarrows, leaf_at}
use Rattle.engine.proofs.Composing.{Among, Sofar, start, next, refused, complete, tail, itself, names_grown, same_diagram, present_grown}
use Rattle.engine.proofs.Decoding.{one_word, nodes_long}

module _ {o : Ops} where
  mutual
    pub narrows_small : {d : MDiagram} {f n : ℕ} {r : MDiagram} {a : List Request} → Narrows o d f n r a → extent r ≤ extent d
    narrows_small narrows_leaf = omega arith
    narrows_small (narrows_yes p q) = omega arith
    narrows_small (narrows_no p q s) = omega (arith, narrows_small s)
    narrows_small (narrows_both p s t m) = omega (arith, narrows_small s, narrows_small t, makes_small m)

    pub makes_small : {f n : ℕ} {y z r : MDiagram} {a : List Request} → Makes o f n y z r a → extent r ≤ 1 + (extent y + extent z)
    makes_small (makes_no s t e) = omega arith
    makes_small (makes_node s t h) = omega (arith, narrows_small s)

  -- made from both sides narrowed, whatever they are
  pub makes_any :
      {f n : ℕ} {y z v w : MDiagram} {a b : List Request} →
      Narrows o y f n v a →
      Narrows o z f n w b →
      (r : MDiagram) × (x : List Request) × Makes o f n y z r x × Among a x × Among b x
  makes_any {f} {n} {y} {z} {v} {w} {a} {b} p q = go (equal_diagrams v w)
    where
      go : Dec (v ≡ w) → (r : MDiagram) × (x : List Request) × Makes o f n y z r x × Among a x × Among b x
      go (yes e) = (z, a ++ b, makes_no p q e, λ q m. in_left q a b m, λ q m. in_right q a b m)
      go (no h) =
          let t = node f n v z ∷ [] in
          (MNode f n v z, a ++ (b ++ t), makes_node p q h, λ q m. in_left q a (b ++ t) m, λ q m. in_right q a (b ++ t) (in_left q b t m))

abbrev pub here : Counts → Stores → State
here c s = state (contents c s)

pub nothing : (x : List Request) → Among [] x
nothing x q m = absurd m

module _ {o : Ops} {c0 c1 : Counts} {s0 s1 : Stores} (good : SoundStores c0 s0) {f n : ℕ} {Y : MDiagram} (Z : MDiagram) where
  pub make_stops_first :
      {k : StoreFault} {result : Result Diagram StoreFault} (d : Done (Narrows o Y f n) c0 s0 c1 s1 (Err k)) →
      result ≡ Err k →
      Done (Makes o f n Y Z) c0 s0 c1 s1 result
  make_stops_first d e =
      let N = narrow_total o Z f n in
      let M = makes_any d.by_the_rules N.2 in
      refused (start good) M.0 M.1 d e M.2 (nothing M.1) M.3

module _ {o : Ops} {c0 c1 : Counts} {s0 s1 : Stores} (good : SoundStores c0 s0) {f n : ℕ} {Y Z Z' : MDiagram} {v no : Diagram} (p : Names (here c0 s0) no Z) (d1 : Done (Narrows o Y f n) c0 s0 c1 s1 (Ok v)) (k_1 : NothingLost c0 s0 c1 s1) (i : Z' ≡ Z) where
  moved : {w : MDiagram} {b : List Request} → Narrows o Z' f n w b → Narrows o Z f n w b
  moved {w} {b} r = subst (λ (x : MDiagram). Narrows o x f n w b) i r

  pub make_stops_second :
      {c2 : Counts} {s2 : Stores} {k : StoreFault} {result : Result Diagram StoreFault} (d : Done (Narrows o Z' f n) c1 s1 c2 s2 (Err k)) →
      result ≡ Err k →
      Done (Makes o f n Y Z) c0 s0 c2 s2 result
  make_stops_second d e =
      let M = makes_any d1.by_the_rules (moved d.by_the_rules) in
      refused (next (start good) d1 k_1) M.0 M.1 d e M.2 M.3 M.4

  module _ {w : Diagram} {c2 : Counts} {s2 : Stores} (d2 : Done (Narrows o Z' f n) c1 s1 c2 s2 (Ok w)) (k_2 : NothingLost c1 s1 c2 s2) where
    sofar : Sofar c0 s0 (d1.asks ++ d2.asks) c2 s2
    sofar = next (next (start good) d1 k_1) d2 k_2

    pub make_yes : Names (here c2 s2) v d1.out
    make_yes = names_grown d2.made.added.grown d1.made.names

    pub make_no : Names (here c2 s2) no Z
    make_no = names_grown d2.made.added.grown (names_grown d1.made.added.grown p)

    pub make_same : v ≡ w → Done (Makes o f n Y Z) c0 s0 c2 s2 (Ok no)
    make_same e =
        let same : d1.out ≡ d2.out = sym make_yes.stands ∙ (ap (diagram_of (here c2 s2)) e ∙ d2.made.names.stands) in
        complete (d1.asks ++ d2.asks) sofar refl make_no (makes_no d1.by_the_rules (moved d2.by_the_rules) same)

    pub make_enters :
        (v ≡ w → ⊥) →
        {c3 : Counts} {s3 : Stores} {V Z'' : MDiagram} {result : Result Diagram StoreFault} →
        V ≡ d1.out →
        Z'' ≡ Z →
        Done (Entering f n V Z'') c2 s2 c3 s3 result →
        Done (Makes o f n Y Z) c0 s0 c3 s3 result
    make_enters h j l d3 = tail sofar d3 rule
      where
        differ : d1.out ≢ d2.out
        differ e = h (one_word c2 s2 d2.made.good v w d2.out (subst (λ (x : MDiagram). Names (here c2 s2) v x) e make_yes) d2.made.names)

        made_node : Makes o f n Y Z (MNode f n d1.out Z) (d1.asks ++ (d2.asks ++ (node f n d1.out Z ∷ [])))
        made_node = makes_node d1.by_the_rules (moved d2.by_the_rules) differ

        out_is : d3.out ≡ MNode f n d1.out Z
        out_is = d3.by_the_rules.0 ∙ ap₂ {C = MDiagram} (λ (y z : MDiagram). MNode f n y z) j l

        asks_are : d3.asks ≡ node f n d1.out Z ∷ []
        asks_are = d3.by_the_rules.1 ∙ ap₂ {C = List Request} (λ (y z : MDiagram). node f n y z ∷ []) j l

        asks_is : (d1.asks ++ d2.asks) ++ d3.asks ≡ d1.asks ++ (d2.asks ++ (node f n d1.out Z ∷ []))
        asks_is = append_assoc d1.asks d2.asks d3.asks ∙ ap (λ (t : List Request). d1.asks ++ (d2.asks ++ t)) asks_are

        rule : Makes o f n Y Z d3.out ((d1.asks ++ d2.asks) ++ d3.asks)
        rule = subst₂ (λ (r : MDiagram) (x : List Request). Makes o f n Y Z r x) (sym out_is) (sym asks_is) made_node

module _ {o : Ops} where
  -- narrowed on both sides, whatever they are
  pub narrows_any :
      (g m : ℕ) {f n : ℕ} {y z v w : MDiagram} {a b : List Request} →
      g ≢ f →
      Narrows o y f n v a →
      Narrows o z f n w b →
      (r : MDiagram) × (x : List Request) × Narrows o (MNode g m y z) f n r x × Among a x × Among b x
  narrows_any g m {f} {n} {y} {z} {v} {w} {a} {b} h p q =
      let M = make_total o g m v w in
      (M.0, a ++ (b ++ M.1), narrows_both h p q M.2, λ q m. in_left q a (b ++ M.1) m, λ q m. in_right q a (b ++ M.1) (in_left q b M.1 m))

module _ {o : Ops} {c0 c1 : Counts} {s0 s1 : Stores} (good : SoundStores c0 s0) {f n : ℕ} where
  pub narrow_at_leaf :
      {l : List MCell} {D : MDiagram} {result : Result Diagram StoreFault} →
      D ≡ MLeaf l →
      Done (LeafNarrows o l f n) c0 s0 c1 s1 result →
      Done (Narrows o D f n) c0 s0 c1 s1 result
  narrow_at_leaf {l} {D} e d = tail (start good) d (subst (λ (x : MDiagram). Narrows o x f n d.out d.asks) (sym e) rule)
    where
      rule : Narrows o (MLeaf l) f n d.out d.asks
      rule = subst₂ (λ (r : MDiagram) (x : List Request). Narrows o (MLeaf l) f n r x) (sym d.by_the_rules.0) (sym d.by_the_rules.1) narrows_leaf

module _ (o : Ops) {c0 : Counts} {s0 : Stores} (good : SoundStores c0 s0) (f n : ℕ) {number : Amount} {x : Node} (read : NodeRead (here c0 s0) number x) where
  abbrev Whole : Construction
  Whole = Narrows o (diagram_of (here c0 s0) (Branch number)) f n

  whole : {r : MDiagram} {a : List Request} → Narrows o (MNode x.test.field x.test.value (diagram_of (here c0 s0) x.yes) (diagram_of (here c0 s0) x.no)) f n r a → Whole r a
  whole {r} {a} q = subst (λ (d : MDiagram). Narrows o d f n r a) (sym read.itself) q

  pub narrow_yes : x.test.field ≡ f → x.test.value ≡ n → Done Whole c0 s0 c0 s0 (Ok x.yes)
  narrow_yes e h = complete [] (start good) refl (itself (here c0 s0) x.yes read.yes_present) (whole (narrows_yes e h))

  module _ {c1 : Counts} {s1 : Stores} where
    pub narrow_no :
        {result : Result Diagram StoreFault} →
        x.test.field ≡ f →
        (x.test.value ≡ n → ⊥) →
        Done (Narrows o (diagram_of (here c0 s0) x.no) f n) c0 s0 c1 s1 result →
        Done Whole c0 s0 c1 s1 result
    narrow_no e h d = tail (start good) d (whole (narrows_no e h d.by_the_rules))

    pub narrow_stops_first :
        {k : StoreFault} {result : Result Diagram StoreFault} →
        (x.test.field ≡ f → ⊥) →
        (d : Done (Narrows o (diagram_of (here c0 s0) x.yes) f n) c0 s0 c1 s1 (Err k)) →
        result ≡ Err k →
        Done Whole c0 s0 c1 s1 result
    narrow_stops_first h d e =
        let N = narrow_total o (diagram_of (here c0 s0) x.no) f n in
        let M = narrows_any x.test.field x.test.value h d.by_the_rules N.2 in
        refused (start good) M.0 M.1 d e (whole M.2) (nothing M.1) M.3

    module _ (h : x.test.field ≡ f → ⊥) {v : Diagram} (d1 : Done (Narrows o (diagram_of (here c0 s0) x.yes) f n) c0 s0 c1 s1 (Ok v)) (k_1 : NothingLost c0 s0 c1 s1) where
      -- the no side is what it was
      pub no_stays : diagram_of (here c1 s1) x.no ≡ diagram_of (here c0 s0) x.no
      no_stays = same_diagram d1.made.added.grown x.no read.no_present

      pub no_still_present : Present (here c1 s1) x.no
      no_still_present = present_grown d1.made.added.grown x.no read.no_present

      back : {w : MDiagram} {b : List Request} → Narrows o (diagram_of (here c1 s1) x.no) f n w b → Narrows o (diagram_of (here c0 s0) x.no) f n w b
      back {w} {b} r = subst (λ (d : MDiagram). Narrows o d f n w b) no_stays r

      module _ {c2 : Counts} {s2 : Stores} where
        pub narrow_stops_second :
            {k : StoreFault} {result : Result Diagram StoreFault} (d : Done (Narrows o (diagram_of (here c1 s1) x.no) f n) c1 s1 c2 s2 (Err k)) →
            result ≡ Err k →
            Done Whole c0 s0 c2 s2 result
        narrow_stops_second d e =
            let M = narrows_any x.test.field x.test.value h d1.by_the_rules (back d.by_the_rules) in
            refused (next (start good) d1 k_1) M.0 M.1 d e (whole M.2) M.3 M.4

        module _ {w : Diagram} (d2 : Done (Narrows o (diagram_of (here c1 s1) x.no) f n) c1 s1 c2 s2 (Ok w)) (k_2 : NothingLost c1 s1 c2 s2) where
          pub yes_narrowed : Names (here c2 s2) v d1.out
          yes_narrowed = names_grown d2.made.added.grown d1.made.names

          pub narrow_makes :
              {c3 : Counts} {s3 : Stores} {V W : MDiagram} {result : Result Diagram StoreFault} →
              V ≡ d1.out →
              W ≡ d2.out →
              Done (Makes o x.test.field x.test.value V W) c2 s2 c3 s3 result →
              Done Whole c0 s0 c3 s3 result
          narrow_makes i j d3 =
              tail (next (next (start good) d1 k_1) d2 k_2) d3
              (subst (λ (l : List Request). Whole d3.out l) (sym (append_assoc d1.asks d2.asks d3.asks)) (whole (narrows_both h d1.by_the_rules (back d2.by_the_rules) made)))
            where
              made : Makes o x.test.field x.test.value d1.out d2.out d3.out d3.asks
              made = subst₂ (λ (y z : MDiagram). Makes o x.test.field x.test.value y z d3.out d3.asks) i j d3.by_the_rules

pub leaf_word : (c : Counts) (s : Stores) (w : Diagram) {first : Amount} → w ≡ Leaf first → diagram_of (here c s) w ≡ MLeaf (leaf_at (here c s) first.number)
unfolding diagram_of
leaf_word c s w e = ap (diagram_of (here c s)) e

node_counted_at : (c : Counts) (s : Stores) → SoundStores c s → (number : Amount) → Present (here c s) (Branch number) → (0 < number.number) × (number.number ≤ c.nodes)
unfolding state
node_counted_at c s g number p = (p.0, omega (arith, p.1, nodes_long (contents c s) g.sound, g.counted.nodes_counted))

pub node_counted : (c : Counts) (s : Stores) → SoundStores c s → (w : Diagram) (number : Amount) → w ≡ Branch number → Present (here c s) w → (0 < number.number) × (number.number ≤ c.nodes)
unfolding state
node_counted c s g w number e p = node_counted_at c s g number (subst (λ (x : Diagram). Present (here c s) x) e p)
