-- Choose by its rules, over stores.
use Rattle.std.proofs.Common.{◌≡◌, ℕ, ◌+◌, ◌<◌, ◌≢◌, ◌⊎◌, List, [], ◌++◌, Result, sym, ap, ap₂, ◌∙◌, subst, subst₂}
use Rattle.weights.specs.Weights.{Ops}
use Rattle.meaning.specs.Diagrams.{Diagram as MDiagram, extent}
use Rattle.meaning.specs.Constructions.{Tested, off}
use Rattle.meaning.proofs.Splitting.{Rooted}
use Rattle.meaning.proofs.Joining.{Least, own, other, least}
use Rattle.requests.specs.Requests.{Request}
use Rattle.requests.specs.Rules.{Makes, At, Chooses, chooses_here, chooses_same_field, chooses_other_field, least_test}
use Rattle.requests.specs.Claims.{Construction, AtLeastOne}
use Rattle.requests.proofs.Total.{make_total, choose_total}
use Rattle.faults.specs.declared.layers.StoreFault.{StoreFault}
use Rattle.records.specs.declared.kinds.Diagram.{Diagram}
use Rattle.counts.specs.declared.counts.Counts.{Counts}
use Rattle.engine.specs.declared.memory.Stores.{Stores}
use Rattle.engine.specs.Done.{SoundStores, Done}
use Rattle.engine.specs.InTurn.{Then}
use Rattle.engine.proofs.JoinRules.{at_any, at_less, off_less, less_both}
use Rattle.engine.proofs.Chain.{Pending, begin, last, then_total}

module _ (o : Ops) (f n g m : ℕ) (Y Z : MDiagram) where
  -- the same field, another value
  abbrev pub AfterOff : MDiagram → Construction
  AfterOff w = Then (Chooses o f n (off Y g m) (off Z g m)) (λ x. Makes o g m w x)

  abbrev pub SameField : Construction
  SameField = Then (At o Z g m) AfterOff

  -- another field
  abbrev pub AfterAt : MDiagram → MDiagram → Construction
  AfterAt v w = Then (Chooses o f n v w) AfterOff

  abbrev pub AfterYes : MDiagram → Construction
  AfterYes v = Then (At o Z g m) (AfterAt v)

  abbrev pub OtherField : Construction
  OtherField = Then (At o Y g m) AfterYes

  -- what can still follow
  pub then_off : (w : MDiagram) → AtLeastOne (AfterOff w)
  then_off w = then_total (choose_total o f n (off Y g m) (off Z g m)) (make_total o g m w)

  pub then_at : (v w : MDiagram) → AtLeastOne (AfterAt v w)
  then_at v w = then_total (choose_total o f n v w) then_off

  pub then_yes : (v : MDiagram) → AtLeastOne (AfterYes v)
  then_yes v = then_total (at_any o Z g m) (then_at v)

  module _ {c0 : Counts} {s0 : Stores} (good : SoundStores c0 s0) (e : (g, m) ≡ least_test f n Y Z) where
    pub same_field : g ≡ f → m ≢ n → Pending (Chooses o f n Y Z) c0 s0 [] SameField c0 s0
    same_field p q =
        begin SameField good
        (λ r x t. subst (λ (y : List Request). Chooses o f n Y Z r y) (sym (t.whole ∙ ap (λ (y : List Request). t.asks ++ y) t.second.whole)) (chooses_same_field (sym e) p q t.first t.second.first t.second.second))

    pub other_field : g ≢ f → Pending (Chooses o f n Y Z) c0 s0 [] OtherField c0 s0
    other_field p =
        begin OtherField good
        (λ r x t.
        let t1 = t.second in
        let t2 = t1.second in
        let t3 = t2.second in
        subst (λ (y : List Request). Chooses o f n Y Z r y)
        (sym (t.whole ∙ ap (λ (y : List Request). t.asks ++ y) (t1.whole ∙ ap (λ (y : List Request). t1.asks ++ y) (t2.whole ∙ ap (λ (y : List Request). t2.asks ++ y) t3.whole))))
        (chooses_other_field (sym e) p t.first t1.first t2.first t3.first t3.second))

    pub choose_here : {W : MDiagram} {c1 : Counts} {s1 : Stores} {result : Result Diagram StoreFault} → g ≡ f → m ≡ n → W ≡ off Z g m → Done (Makes o f n Y W) c0 s0 c1 s1 result → Done (Chooses o f n Y Z) c0 s0 c1 s1 result
    choose_here p q w d =
        last (begin (Makes o f n Y (off Z f n)) good (λ r x h. chooses_here (sym e ∙ ap₂ {C = Tested} (λ (i j : ℕ). (i, j)) p q) h))
        (λ i. Makes o f n Y ((w ∙ ap₂ (λ (a b : ℕ). off Z a b) p q) i)) d

module _ (f n g m : ℕ) (Y Z : MDiagram) (e : (g, m) ≡ least_test f n Y Z) (h : (g ≡ f) → (m ≡ n) → ⊥) where
  -- the root of one of the two, so that all gets smaller
  rooted_one : Rooted g m Y ⊎ Rooted g m Z
  rooted_one = go (least f n Y Z)
    where
      go : Least f n Y Z → Rooted g m Y ⊎ Rooted g m Z
      go (own i a b) = absurd (h (ap (λ (u : Tested). u.0) (e ∙ i)) (ap (λ (u : Tested). u.1) (e ∙ i)))
      go (other g' m' i a b b' r) =
          subst₂ (λ (x y : ℕ). Rooted x y Y ⊎ Rooted x y Z) (sym (ap (λ (u : Tested). u.0) (e ∙ i))) (sym (ap (λ (u : Tested). u.1) (e ∙ i))) r

  pub chosen_off_less : {V W : MDiagram} → V ≡ off Y g m → W ≡ off Z g m → extent V + extent W < extent Y + extent Z
  chosen_off_less {V} {W} v w =
      subst₂ (λ (x y : MDiagram). extent x + extent y < extent Y + extent Z) (sym v) (sym w)
      (less_both g m Y Z (off Y g m) (off Z g m) rooted_one (off_less g m Y) (off_less g m Z))

  pub chosen_at_less : {o : Ops} {V W v w : MDiagram} {a b : List Request} → V ≡ v → W ≡ w → At o Y g m v a → At o Z g m w b → extent V + extent W < extent Y + extent Z
  chosen_at_less {V = V} {W = W} {v = v} {w = w} i j p q =
      subst₂ (λ (x y : MDiagram). extent x + extent y < extent Y + extent Z) (sym i) (sym j)
      (less_both g m Y Z v w rooted_one (at_less p) (at_less q))
