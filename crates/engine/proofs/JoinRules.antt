-- Join by its rules, over stores.
use Rattle.std.proofs.Common.{◌≡◌, ℕ, ◌+◌, ◌<◌, ◌≤◌, ◌≢◌, ◌⊎◌, List, [], ◌++◌, Some, Option, Ok, Err, Result, sym, refl, ap₂, ◌∙◌, subst, subst₂, inl, inr, ⊎_elim, append_assoc, arith}
use Rattle.weights.specs.Weights.{Ops}
use Rattle.meaning.specs.Decide.{choice}
use Rattle.meaning.specs.Diagrams.{Diagram as MDiagram, Leaf as MLeaf, Node as MNode, extent}
use Rattle.meaning.specs.Constructions.{root, first_root, off, equal_tests}
use Rattle.meaning.proofs.Splitting.{Rooted, Heads, leaves, split, heads}
use Rattle.requests.specs.Requests.{Request}
use Rattle.requests.specs.Rules.{Narrows, Makes, At, at_root, at_other, Joins, joins_split}
use Rattle.requests.proofs.Total.{narrow_total, make_total, join_total}
use Rattle.requests.proofs.Unique.{none_some, same_test}
use Rattle.faults.specs.declared.layers.StoreFault.{StoreFault}
use Rattle.records.specs.declared.kinds.Node.{Node}
use Rattle.records.specs.declared.kinds.Diagram.{Diagram}
use Rattle.counts.specs.declared.counts.Counts.{Counts}
use Rattle.engine.specs.declared.memory.Stores.{Stores}
use Rattle.engine.specs.State.{diagram_of, Names}
use Rattle.engine.specs.Done.{SoundStores, NothingLost, Done}
use Rattle.engine.specs.Leaves.{Split}
use Rattle.engine.proofs.Numbers.{in_left, in_right, in_split}
use Rattle.engine.proofs.Composing.{Among, Sofar, start, next, refused, complete, tail, itself, names_grown}
use Rattle.engine.proofs.NarrowRules.{here, nothing, narrows_small}

-- what is smaller where the test is d's root
abbrev pub Less : ℕ → ℕ → MDiagram → MDiagram → Type 0
Less f n d r = (extent r ≤ extent d) × (Rooted f n d → extent r < extent d)

module _ {o : Ops} where
  pub at_less : {d r : MDiagram} {f n : ℕ} {a : List Request} → At o d f n r a → Less f n d r
  at_less {d = MLeaf l} (at_other h q) = (narrows_small q, λ e. absurd e)
  at_less {d = MNode g m y z} (at_root p q) = (omega arith, λ e. omega arith)
  at_less {d = MNode g m y z} (at_other h q) = (narrows_small q, λ e. absurd (h (ap₂ {C = Option (ℕ × ℕ)} (λ (i j : ℕ). Some (i, j)) e.0 e.1)))

pub off_less : (f n : ℕ) (d : MDiagram) → Less f n d (off d f n)
off_less f n (MLeaf l) = (omega arith, λ e. absurd e)
off_less f n (MNode g m y z) = go (equal_tests g m f n)
  where
    go : (δ : Dec ((g ≡ f) × (m ≡ n))) → Less f n (MNode g m y z) (choice δ z (MNode g m y z))
    go (yes e) = (omega arith, λ q. omega arith)
    go (no h) = (omega arith, λ q. absurd (h q))

pub less_both : (f n : ℕ) (d e v w : MDiagram) → Rooted f n d ⊎ Rooted f n e → Less f n d v → Less f n e w → extent v + extent w < extent d + extent e
less_both f n d e v w (inl r) p q = omega (arith, p.1 r, q.0)
less_both f n d e v w (inr r) p q = omega (arith, p.0, q.1 r)

rooted_one : (d e : MDiagram) (f n : ℕ) → first_root (root d) (root e) ≡ Some (f, n) → Rooted f n d ⊎ Rooted f n e
rooted_one d e f n h = go (heads d e)
  where
    go : Heads d e → Rooted f n d ⊎ Rooted f n e
    go (leaves l m i j c) = none_some (sym c ∙ h)
    go (split g k c i j r) =
        let t = same_test h c in
        subst₂ (λ (x y : ℕ). Rooted x y d ⊎ Rooted x y e) t.0 t.1 r

pub ats_smaller : {o : Ops} {d e : MDiagram} {f n : ℕ} {v w : MDiagram} {a b : List Request} → first_root (root d) (root e) ≡ Some (f, n) → At o d f n v a → At o e f n w b → extent v + extent w < extent d + extent e
ats_smaller {o} {d} {e} {f} {n} {v} {w} h p q = less_both f n d e v w (rooted_one d e f n h) (at_less p) (at_less q)

pub offs_smaller : (d e : MDiagram) (f n : ℕ) → first_root (root d) (root e) ≡ Some (f, n) → extent (off d f n) + extent (off e f n) < extent d + extent e
offs_smaller d e f n h = less_both f n d e (off d f n) (off e f n) (rooted_one d e f n h) (off_less f n d) (off_less f n e)

pub at_any : (o : Ops) (d : MDiagram) (f n : ℕ) → (r : MDiagram) × (a : List Request) × At o d f n r a
at_any o (MLeaf l) f n = let N = narrow_total o (MLeaf l) f n in (N.0, N.1, at_other (λ e. none_some e) N.2)
at_any o (MNode g m y z) f n = go (equal_tests g m f n)
  where
    go : Dec ((g ≡ f) × (m ≡ n)) → (r : MDiagram) × (a : List Request) × At o (MNode g m y z) f n r a
    go (yes e) = (y, [], at_root e.0 e.1)
    go (no h) =
        let N = narrow_total o (MNode g m y z) f n in
        (N.0, N.1, at_other (λ e. h (let t = same_test e refl in (t.0, t.1))) N.2)

-- joined, whatever the rest gives
joins_any :
    {o : Ops} {d e v w y z : MDiagram} {f n : ℕ} {a b c g : List Request} →
    first_root (root d) (root e) ≡ Some (f, n) →
    At o d f n v a →
    At o e f n w b →
    Joins o v w y c →
    Joins o (off d f n) (off e f n) z g →
    (r : MDiagram) × (x : List Request) × Joins o d e r x × Among a x × Among (a ++ b) x × Among b x × Among ((a ++ b) ++ c) x × Among c x × Among g x
joins_any {o} {d} {e} {v} {w} {y} {z} {f} {n} {a} {b} {c} {g} h p q i j =
    let M = make_total o f n y z in
    let m = M.1 in
    let x = a ++ (b ++ (c ++ (g ++ m))) in
    let A : Among a x = λ q k. in_left q a (b ++ (c ++ (g ++ m))) k in
    let B : Among b x = λ q k. in_right q a (b ++ (c ++ (g ++ m))) (in_left q b (c ++ (g ++ m)) k) in
    let C : Among c x = λ q k. in_right q a (b ++ (c ++ (g ++ m))) (in_right q b (c ++ (g ++ m)) (in_left q c (g ++ m) k)) in
    let G : Among g x = λ q k. in_right q a (b ++ (c ++ (g ++ m))) (in_right q b (c ++ (g ++ m)) (in_right q c (g ++ m) (in_left q g m k))) in
    let AB : Among (a ++ b) x = both a b x A B in
    (M.0, x, joins_split h p q i j M.2, A, AB, B, both (a ++ b) c x AB C, C, G)
  where
    both : (a b x : List Request) → Among a x → Among b x → Among (a ++ b) x
    both a b x A B q k = ⊎_elim (A q) (B q) (in_split q a b k)

module _ {o : Ops} {c0 : Counts} {s0 : Stores} (good : SoundStores c0 s0) {D E : MDiagram} {f n : ℕ} (h : first_root (root D) (root E) ≡ Some (f, n)) where
  pub join_stops_first :
      {c1 : Counts} {s1 : Stores} {k : StoreFault} {result : Result Diagram StoreFault} (d : Done (At o D f n) c0 s0 c1 s1 (Err k)) →
      result ≡ Err k →
      Done (Joins o D E) c0 s0 c1 s1 result
  join_stops_first d e =
      let B = at_any o E f n in
      let X = joins_any h d.by_the_rules B.2 (join_total o d.out B.0).2 (join_total o (off D f n) (off E f n)).2 in
      refused (start good) X.0 X.1 d e X.2 (nothing X.1) X.3

  module _ {c1 : Counts} {s1 : Stores} {v : Diagram} (d1 : Done (At o D f n) c0 s0 c1 s1 (Ok v)) (k_1 : NothingLost c0 s0 c1 s1) {E' : MDiagram} (i : E' ≡ E) where
    right_back : {r : MDiagram} {a : List Request} → At o E' f n r a → At o E f n r a
    right_back {r} {a} q = subst (λ (x : MDiagram). At o x f n r a) i q

    pub join_stops_second :
        {c2 : Counts} {s2 : Stores} {k : StoreFault} {result : Result Diagram StoreFault} (d : Done (At o E' f n) c1 s1 c2 s2 (Err k)) →
        result ≡ Err k →
        Done (Joins o D E) c0 s0 c2 s2 result
    join_stops_second d e =
        let X = joins_any h d1.by_the_rules (right_back d.by_the_rules) (join_total o d1.out d.out).2 (join_total o (off D f n) (off E f n)).2 in
        refused (next (start good) d1 k_1) X.0 X.1 d e X.2 X.3 X.5

    module _ {c2 : Counts} {s2 : Stores} {w : Diagram} (d2 : Done (At o E' f n) c1 s1 c2 s2 (Ok w)) (k_2 : NothingLost c1 s1 c2 s2) where
      second : Sofar c0 s0 (d1.asks ++ d2.asks) c2 s2
      second = next (next (start good) d1 k_1) d2 k_2

      -- the operands of the first join
      pub left_names : Names (here c2 s2) v d1.out
      left_names = names_grown d2.made.added.grown d1.made.names

      pub first_smaller : {V W : MDiagram} → V ≡ d1.out → W ≡ d2.out → extent V + extent W < extent D + extent E
      first_smaller {V} {W} p q =
          subst₂ (λ (x y : MDiagram). extent x + extent y < extent D + extent E) (sym p) (sym q) (ats_smaller h d1.by_the_rules (right_back d2.by_the_rules))

      module _ {V W : MDiagram} (p : V ≡ d1.out) (q : W ≡ d2.out) where
        first_back : {r : MDiagram} {a : List Request} → Joins o V W r a → Joins o d1.out d2.out r a
        first_back {r} {a} j = subst₂ (λ (x y : MDiagram). Joins o x y r a) p q j

        pub join_stops_third :
            {c3 : Counts} {s3 : Stores} {k : StoreFault} {result : Result Diagram StoreFault} (d : Done (Joins o V W) c2 s2 c3 s3 (Err k)) →
            result ≡ Err k →
            Done (Joins o D E) c0 s0 c3 s3 result
        join_stops_third d e =
            let X = joins_any h d1.by_the_rules (right_back d2.by_the_rules) (first_back d.by_the_rules) (join_total o (off D f n) (off E f n)).2 in
            refused second X.0 X.1 d e X.2 X.4 X.7

        module _ {c3 : Counts} {s3 : Stores} {y : Diagram} (d3 : Done (Joins o V W) c2 s2 c3 s3 (Ok y)) (k_3 : NothingLost c2 s2 c3 s3) {L R : MDiagram} (l : L ≡ off D f n) (r : R ≡ off E f n) where
          third : Sofar c0 s0 ((d1.asks ++ d2.asks) ++ d3.asks) c3 s3
          third = next second d3 k_3

          off_back : {r' : MDiagram} {a : List Request} → Joins o L R r' a → Joins o (off D f n) (off E f n) r' a
          off_back {r'} {a} j = subst₂ (λ (x y : MDiagram). Joins o x y r' a) l r j

          pub join_stops_fourth :
              {c4 : Counts} {s4 : Stores} {k : StoreFault} {result : Result Diagram StoreFault} (d : Done (Joins o L R) c3 s3 c4 s4 (Err k)) →
              result ≡ Err k →
              Done (Joins o D E) c0 s0 c4 s4 result
          join_stops_fourth d e =
              let X = joins_any h d1.by_the_rules (right_back d2.by_the_rules) (first_back d3.by_the_rules) (off_back d.by_the_rules) in
              refused third X.0 X.1 d e X.2 X.6 X.8

          module _ {c4 : Counts} {s4 : Stores} {z : Diagram} (d4 : Done (Joins o L R) c3 s3 c4 s4 (Ok z)) (k_4 : NothingLost c3 s3 c4 s4) where
            pub yes_joined : Names (here c4 s4) y d3.out
            yes_joined = names_grown d4.made.added.grown d3.made.names

            pub join_makes :
                {c5 : Counts} {s5 : Stores} {Y Z : MDiagram} {result : Result Diagram StoreFault} →
                Y ≡ d3.out →
                Z ≡ d4.out →
                Done (Makes o f n Y Z) c4 s4 c5 s5 result →
                Done (Joins o D E) c0 s0 c5 s5 result
            join_makes {Y = Y} {Z = Z} s t d5 =
                tail (next third d4 k_4) d5
                (subst (λ (x : List Request). Joins o D E d5.out x) (sym (flat d1.asks d2.asks d3.asks d4.asks d5.asks))
                (joins_split h d1.by_the_rules (right_back d2.by_the_rules) (first_back d3.by_the_rules) (off_back d4.by_the_rules) made))
              where
                made : Makes o f n d3.out d4.out d5.out d5.asks
                made = subst₂ (λ (x y : MDiagram). Makes o f n x y d5.out d5.asks) s t d5.by_the_rules

                flat : (a b c d e : List Request) → (((a ++ b) ++ c) ++ d) ++ e ≡ a ++ (b ++ (c ++ (d ++ e)))
                flat a b c d e =
                    append_assoc ((a ++ b) ++ c) d e ∙
                    (append_assoc (a ++ b) c (d ++ e) ∙ append_assoc a b (c ++ (d ++ e)))

-- the yes side of a root, or the diagram narrowed
pub at_the_root :
    {o : Ops} {c : Counts} {s : Stores} → SoundStores c s → {D : MDiagram} {f n : ℕ} {x : Node} → Split (here c s) D f n x → Done (At o D f n) c s c s (Ok x.yes)
at_the_root {o} {c} {s} g {D} {f} {n} {x} p =
    complete [] (start g) refl (itself (here c s) x.yes p.yes_present)
    (subst (λ (y : MDiagram). At o y f n (diagram_of (here c s) x.yes) []) (sym p.whole) (at_root refl refl))

pub at_no_root :
    {o : Ops} {c c' : Counts} {s s' : Stores} → SoundStores c s → {D : MDiagram} {f n : ℕ} {result : Result Diagram StoreFault} →
    root D ≢ Some (f, n) →
    Done (Narrows o D f n) c s c' s' result →
    Done (At o D f n) c s c' s' result
at_no_root g h d = tail (start g) d (at_other h d.by_the_rules)

pub two_at : {V W D E : MDiagram} {k : ℕ} → V ≡ D → W ≡ E → extent D + extent E < k → extent V + extent W < k
two_at {V} {W} {D} {E} {k} p q h = subst₂ (λ (x y : MDiagram). extent x + extent y < k) (sym p) (sym q) h
