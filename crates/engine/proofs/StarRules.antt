-- Star by its rules, over stores.
use Rattle.std.proofs.Common.{◌≡◌, ℕ, zero, suc, ◌<◌, ◌≢◌, List, ◌++◌, Ok, Err, Result, sym, refl, ap, ap₂, ◌∙◌, subst, subst₂, append_assoc, []}
use Rattle.weights.specs.Weights.{Ops, Laws}
use Rattle.weights.specs.Order.{In}
use Rattle.meaning.specs.Diagrams.{Diagram as MDiagram, Leaf as MLeaf, Formed}
use Rattle.meaning.specs.Constructions.{round, sequence, pass_diagram}
use Rattle.meaning.proofs.Starring.{rounds_bound, round_good}
use Rattle.meaning.proofs.Sequencing.{sequenced}
use Rattle.requests.specs.Requests.{Request, leaf_records}
use Rattle.requests.specs.Rules.{Sequences, Joins, Rounds, rounds_end, rounds_on, Stars, stars_rounds, pass_cells}
use Rattle.requests.proofs.Total.{join_total}
use Rattle.engine.specs.InTurn.{Then}
use Rattle.engine.proofs.Alike.{joins_alike}
use Rattle.engine.proofs.Chain.{Pending, begin, step, stop, last}
use Rattle.requests.proofs.Claims.{star_answers, join_gives, sequence_gives, rules_agree}
use Rattle.faults.specs.declared.layers.StoreFault.{StoreFault}
use Rattle.records.specs.declared.kinds.Diagram.{Diagram}
use Rattle.counts.specs.declared.counts.Counts.{Counts}
use Rattle.engine.specs.declared.memory.Stores.{Stores}
use Rattle.engine.specs.State.{diagram_of, Names}
use Rattle.engine.specs.Done.{SoundStores, NothingLost, Done}
use Rattle.engine.specs.Rounds.{NextRound, Passes, rest, next_round}
use Rattle.engine.proofs.Numbers.{in_left, in_right}
use Rattle.engine.proofs.Composing.{Among, Sofar, start, next, refused, complete, names_grown}
use Rattle.engine.proofs.Decoding.{one_word}
use Rattle.engine.proofs.NarrowRules.{here, nothing}
use Rattle.engine.proofs.Ending.{round_falls}

module _ {o : Ops} {c0 : Counts} {s0 : Stores} (good : SoundStores c0 s0) {D S : MDiagram} where
  round_started : Pending (NextRound o D S) c0 s0 [] (Then (Sequences o S D) (λ q. Joins o (MLeaf (pass_cells o)) q)) c0 s0
  round_started = begin (Then (Sequences o S D) (λ q. Joins o (MLeaf (pass_cells o)) q)) good (λ r x t. (t.between, t.asks, t.more, t.first, t.second, t.whole))

  pub round_stops : {c1 : Counts} {s1 : Stores} {k : StoreFault} {result : Result Diagram StoreFault} (d : Done (Sequences o S D) c0 s0 c1 s1 (Err k)) → result ≡ Err k → Done (NextRound o D S) c0 s0 c1 s1 result
  round_stops d e = stop round_started refl (join_total o (MLeaf (pass_cells o))) d e

  pub round_made : {c1 c2 : Counts} {s1 s2 : Stores} {w : Diagram} {P W : MDiagram} {result : Result Diagram StoreFault} (d : Done (Sequences o S D) c0 s0 c1 s1 (Ok w)) → NothingLost c0 s0 c1 s1 → P ≡ MLeaf (pass_cells o) → W ≡ d.out → Done (Joins o P W) c1 s1 c2 s2 result → Done (NextRound o D S) c0 s0 c2 s2 result
  round_made d k i j d2 = last (step round_started refl d k) (joins_alike o i j) d2

-- from here on the rules give these rounds
pub record Ahead (o : Ops) (d s : MDiagram) : Type 0 where
  pub out : MDiagram
  pub asks : List Request
  pub by_the_rules : Rounds o d s out asks

-- so many rounds have been made
pub record RoundsMade (o : Ops) (c : Counts) (s : Stores) (d : MDiagram) (body pass : Diagram) (c' : Counts) (s' : Stores) (last : Diagram) : Type 0 where
  pub steps : ℕ
  pub asks : List Request
  pub sofar : Sofar c s asks c' s'
  pub body_names : Names (here c' s') body d
  pub pass_names : Names (here c' s') pass (MLeaf (pass_cells o))
  pub last_names : Names (here c' s') last (round o d steps)
  pub goes_on : (r : MDiagram) (a : List Request) → Rounds o d (round o d steps) r a → Stars o d r (asks ++ a)
  pub ahead : Ahead o d (round o d steps)

-- the round that the rules go through first
peel :
    {o : Ops} {d s r : MDiagram} {a : List Request} →
    Rounds o d s r a →
    (t : MDiagram) × (x : List Request) × NextRound o d s t x × Among x a × ((t ≡ s → ⊥) → Ahead o d t)
peel (rounds_end {t = t} {a = a} {b = b} p j e) = (t, a ++ b, (_, a, b, p, j, refl), λ q m. m, λ h. absurd (h e))
peel (rounds_on {t = t} {r = r} {a = a} {b = b} {c = c} p j h f) =
    (t, a ++ b, (_, a, b, p, j, refl), λ q m. subst (λ (x : List Request). In q x) (append_assoc a b c) (in_left q (a ++ b) c m), λ n. record { out = r; asks = c; by_the_rules = f })

-- there is one next round
next_once : {o : Ops} {d s t t' : MDiagram} {x x' : List Request} → NextRound o d s t x → NextRound o d s t' x' → (t ≡ t') × (x ≡ x')
next_once {o} {d} {s} {t} {t'} (q, a, b, p, j, e) (q', a', b', p', j', e') =
    let S = (rules_agree o).sequence_once d s q q' a a' p p' in
    let J = (rules_agree o).join_once (MLeaf (pass_cells o)) q t t' b b' j (subst (λ (y : MDiagram). Joins o (MLeaf (pass_cells o)) y t' b') (sym S.0) j') in
    (J.0, e ∙ (ap₂ {C = List Request} (λ (y z : List Request). y ++ z) S.1 J.1 ∙ sym e'))

module _ {o : Ops} (L : Laws o) {d : MDiagram} (h : Formed o d) where
  -- the next round is what it is worked out to
  next_is : (k : ℕ) {t : MDiagram} {x : List Request} → NextRound o d (round o d k) t x → t ≡ round o d (suc k)
  unfolding round
  next_is k {t} (q, a, b, p, j, e) =
      let S = sequence_gives o L d (round o d k) h (round_good L d h k) in
      let J = join_gives o L (pass_diagram o) (sequence o d (round o d k)) (round_good L d h 0) (sequenced L (round o d k) (round_good L d h k) d h).formed in
      let i = S.nothing_else q a p in
      (J.nothing_else t b (subst (λ (y : MDiagram). Joins o (pass_diagram o) y t b) i.0 j)).0

  pub first_made : {c c' : Counts} {s s' : Stores} {body last : Diagram} → SoundStores c s → Names (here c s) body d → (p : Done (Passes o) c s c' s' (Ok last)) → NothingLost c s c' s' → RoundsMade o c s d body last c' s' last
  unfolding round
  first_made g n p k =
      let A = star_answers o L d h in
      record {
        steps = zero;
        asks = p.asks;
        sofar = next (start g) p k;
        body_names = names_grown p.made.added.grown n;
        pass_names = record { present = p.made.names.present; stands = p.made.names.stands ∙ p.by_the_rules.0 };
        last_names = record { present = p.made.names.present; stands = p.made.names.stands ∙ p.by_the_rules.0 };
        goes_on = λ r a R. subst (λ (x : List Request). Stars o d r (x ++ a)) (sym p.by_the_rules.1) (stars_rounds R);
        ahead = begin (A.1.by_the_rules);
      }
    where
      begin : {r : MDiagram} {a : List Request} → Stars o d r a → Ahead o d (MLeaf (pass_cells o))
      begin (stars_rounds R) = record { out = _; asks = _; by_the_rules = R }

  module _ {c c' : Counts} {s s' : Stores} {body pass last : Diagram} (m : RoundsMade o c s d body pass c' s' last) {D S : MDiagram} (i : D ≡ d) (j : S ≡ round o d m.steps) where
    moved : {t : MDiagram} {x : List Request} → NextRound o D S t x → NextRound o d (round o d m.steps) t x
    moved {t} {x} n = subst₂ (λ (y z : MDiagram). NextRound o y z t x) i j n

    pub star_ends : {c'' : Counts} {s'' : Stores} {w : Diagram} (n : Done (NextRound o D S) c' s' c'' s'' (Ok w)) → NothingLost c' s' c'' s'' → w ≡ last → Done (Stars o d) c s c'' s'' (Ok last)
    star_ends {c''} {s''} {w} n k e = finish (moved n.by_the_rules)
      where
        old : Names (here c'' s'') last (round o d m.steps)
        old = names_grown n.made.added.grown m.last_names

        same : n.out ≡ round o d m.steps
        same = sym n.made.names.stands ∙ (ap (diagram_of (here c'' s'')) e ∙ old.stands)

        finish : NextRound o d (round o d m.steps) n.out n.asks → Done (Stars o d) c s c'' s'' (Ok last)
        finish (q, a, b, p, r, f) =
            complete (m.asks ++ n.asks) (next m.sofar n k) refl old
            (subst (λ (x : List Request). Stars o d (round o d m.steps) (m.asks ++ x)) (sym f) (m.goes_on (round o d m.steps) (a ++ b) (rounds_end p r same)))

    pub one_more : {c'' : Counts} {s'' : Stores} {w : Diagram} (n : Done (NextRound o D S) c' s' c'' s'' (Ok w)) → NothingLost c' s' c'' s'' → (w ≡ last → ⊥) → RoundsMade o c s d body pass c'' s'' w × (n.out ≢ round o d m.steps) × (n.out ≡ round o d (suc m.steps))
    one_more {c''} {s''} {w} n k e = (made (moved n.by_the_rules), differ, is)
      where
        old : Names (here c'' s'') last (round o d m.steps)
        old = names_grown n.made.added.grown m.last_names

        differ : n.out ≢ round o d m.steps
        differ q = e (one_word c'' s'' n.made.good w last (round o d m.steps) (subst (λ (y : MDiagram). Names (here c'' s'') w y) q n.made.names) old)

        is : n.out ≡ round o d (suc m.steps)
        is = next_is m.steps (moved n.by_the_rules)

        made : NextRound o d (round o d m.steps) n.out n.asks → RoundsMade o c s d body pass c'' s'' w
        made (q, a, b, p, r, f) =
            record {
              steps = suc m.steps;
              asks = m.asks ++ n.asks;
              sofar = next m.sofar n k;
              body_names = names_grown n.made.added.grown m.body_names;
              pass_names = names_grown n.made.added.grown m.pass_names;
              last_names = subst (λ (y : MDiagram). Names (here c'' s'') w y) is n.made.names;
              goes_on = on;
              ahead = further m.ahead.by_the_rules;
            }
          where
            on : (r' : MDiagram) (a' : List Request) → Rounds o d (round o d (suc m.steps)) r' a' → Stars o d r' ((m.asks ++ n.asks) ++ a')
            on r' a' R =
                subst (λ (x : List Request). Stars o d r' x) (sym flat)
                (m.goes_on r' (a ++ (b ++ a')) (rounds_on p r differ (subst (λ (y : MDiagram). Rounds o d y r' a') (sym is) R)))
              where
                flat : (m.asks ++ n.asks) ++ a' ≡ m.asks ++ (a ++ (b ++ a'))
                flat = append_assoc m.asks n.asks a' ∙ ap (λ (x : List Request). m.asks ++ x) (ap (λ (x : List Request). x ++ a') f ∙ append_assoc a b a')

            further : {r' : MDiagram} {a' : List Request} → Rounds o d (round o d m.steps) r' a' → Ahead o d (round o d (suc m.steps))
            further R =
                let P = peel R in
                let U = next_once P.2 (moved n.by_the_rules) in
                subst (λ (y : MDiagram). Ahead o d y) (U.0 ∙ is) (P.4 (λ e. differ (sym U.0 ∙ e)))

    pub star_stops : {c'' : Counts} {s'' : Stores} {f : StoreFault} {result : Result Diagram StoreFault} (n : Done (NextRound o D S) c' s' c'' s'' (Err f)) → result ≡ Err f → Done (Stars o d) c s c'' s'' result
    star_stops n e =
        let A = m.ahead in
        let P = peel A.by_the_rules in
        let U = next_once P.2 (moved n.by_the_rules) in
        refused m.sofar A.out (m.asks ++ A.asks) n e (m.goes_on A.out A.asks A.by_the_rules)
        (λ q k. in_left q m.asks A.asks k)
        (λ q k. in_right q m.asks A.asks (P.3 q (subst (λ (x : List Request). In q x) (sym U.1) k)))

  pub pass_stops : {c c' : Counts} {s s' : Stores} {f : StoreFault} {result : Result Diagram StoreFault} → SoundStores c s → (p : Done (Passes o) c s c' s' (Err f)) → result ≡ Err f → Done (Stars o d) c s c' s' result
  pass_stops {c} {c'} {s} {s'} {f} {result} g p e = go (star_answers o L d h).1.by_the_rules
    where
      go : {r : MDiagram} {a : List Request} → Stars o d r a → Done (Stars o d) c s c' s' result
      go (stars_rounds {r = r} {a = a} R) =
          refused (start g) r (leaf_records (pass_cells o) ++ a) p e (stars_rounds R) (nothing (leaf_records (pass_cells o) ++ a))
          (λ q k. in_left q (leaf_records (pass_cells o)) a (subst (λ (x : List Request). In q x) p.by_the_rules.1 k))

  -- a further round falls
  pub falls_round : (k : ℕ) {D T S : MDiagram} → D ≡ d → T ≡ round o d (suc k) → S ≡ round o d k → round o d (suc k) ≢ round o d k → {D' : MDiagram} → D' ≡ d → rest (next_round o D) (rounds_bound D) T < rest (next_round o D') (rounds_bound D') S
  falls_round k {D} {T} {S} i j l n {D'} i' =
      subst₂ (λ (x y : ℕ). x < y)
      (sym (ap₂ (λ (x y : MDiagram). rest (next_round o x) (rounds_bound x) y) i j))
      (sym (ap₂ (λ (x y : MDiagram). rest (next_round o x) (rounds_bound x) y) i' l))
      (round_falls L d h k n)
