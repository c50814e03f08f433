-- Not, star and the diagrams of policies by the rules give what they are worked out to. Assumes nothing.
use Rattle.std.proofs.Common.{◌≡◌, ℕ, zero, suc, ◌+◌, ◌<◌, ◌≤◌, ◌≢◌, List, [], ◌∷◌, ◌++◌, set, Some, sym, refl, ap, ◌∙◌, subst, arith}
use Rattle.format.specs.Fields.{fields, LegalValue}
use Rattle.format.specs.Actions.{keep_all}
use Rattle.format.specs.Policy.{Policy, Drop, Pass, Test, Set, Cost, Not, Union, Sequence, Star, Legal}
use Rattle.weights.specs.Weights.{Ops, Laws}
use Rattle.meaning.specs.Decide.{choice}
use Rattle.meaning.specs.Leaves.{Cell, Each, LeafFormed}
use Rattle.meaning.specs.Diagrams.{Diagram, Leaf, Node, equal_diagrams, make, Tests, After, Formed}
use Rattle.meaning.specs.Constructions.{join, sequence, drop_diagram, pass_diagram, test_diagram, negate_leaf, negate, round, Compiles, drops, passes, tests, sets, costs, nots, unions, sequences, stars}
use Rattle.meaning.proofs.Gathering.{choice_both}
use Rattle.meaning.proofs.Making.{make_tests, make_formed}
use Rattle.meaning.proofs.Joining.{joined}
use Rattle.meaning.proofs.Sequencing.{sequenced}
use Rattle.meaning.proofs.Simple.{keep_formed, set_formed, single_formed, pass_formed, drop_is_formed, test_formed}
use Rattle.meaning.proofs.Starring.{round_good}
use Rattle.requests.specs.Requests.{node, leaf_records, RecordFormed}
use Rattle.requests.specs.Rules.{Makes, Joins, Sequences, one_cell, pass_cells, Negates, negates_drop, negates_pass, negates_other, negates_node, Rounds, rounds_end, rounds_on, Stars, stars_rounds, Compiled, compiled_drop, compiled_pass, compiled_test, compiled_set, compiled_cost, compiled_not, compiled_union, compiled_sequence, compiled_star}
use Rattle.requests.proofs.Narrowed.{Given, leaf_sound, sound_two, sound_three, Ready, make_given}
use Rattle.requests.proofs.Joined.{weaker, join_given}
use Rattle.requests.proofs.Followed.{sequence_given}

leaf_cells : {l m : List Cell} → Leaf l ≡ Leaf m → l ≡ m
leaf_cells e = cc

module _ {o : Ops} (L : Laws o) where
  negate_tests : (P : ℕ → ℕ → Type 0) (d : Diagram) → Tests P d → Tests P (negate o d)
  unfolding negate
  negate_tests P (Leaf l) t = choice_both (Tests P) (equal_diagrams (Leaf l) drop_diagram) _ _ (λ e. tt) (λ e. choice_both (Tests P) (equal_diagrams (Leaf l) (pass_diagram o)) _ _ (λ e. tt) (λ e. tt))
  negate_tests P (Node f n y z) t = make_tests L P f n (negate o y) (negate o z) t.0 (negate_tests P y t.1) (negate_tests P z t.2)

  -- what make asks of the two negated sides
  negate_ready : (f n : ℕ) (y z : Diagram) → Formed o (Node f n y z) → Formed o (negate o y) → Formed o (negate o z) → Ready o f n (negate o y) (negate o z)
  negate_ready f n y z h p q =
      record {
        exists = h.0.field_exists;
        legal = h.0.value_legal;
        yes_formed = p;
        no_formed = q;
        yes_fields = negate_tests (λ g m. f ≤ g) y (weaker f y h.0.yes_greater_fields);
        no_after = negate_tests (After f n) z h.0.no_greater_tests;
      }

  pub negate_formed : (d : Diagram) → Formed o d → Formed o (negate o d)
  unfolding negate
  negate_formed (Leaf l) h = choice_both (Formed o) (equal_diagrams (Leaf l) drop_diagram) _ _ (λ e. pass_formed L) (λ e. choice_both (Formed o) (equal_diagrams (Leaf l) (pass_diagram o)) _ _ (λ e. drop_is_formed L) (λ e. h))
  negate_formed (Node f n y z) h =
      let R = negate_ready f n y z h (negate_formed y h.1) (negate_formed z h.2) in
      make_formed L f n (negate o y) (negate o z) R.exists R.legal R.yes_formed R.no_formed R.yes_fields R.no_after

  pass_sound : Each (RecordFormed o) (leaf_records (pass_cells o))
  pass_sound = leaf_sound o (pass_cells o) (pass_formed L)

  negate_leaf_given : (l : List Cell) → LeafFormed o l → Given o (Negates o (Leaf l)) (negate_leaf o (Leaf l))
  negate_leaf_given l h = go (equal_diagrams (Leaf l) drop_diagram) (equal_diagrams (Leaf l) (pass_diagram o))
    where
      go : (δ : Dec (Leaf l ≡ drop_diagram)) (ε : Dec (Leaf l ≡ pass_diagram o)) → Given o (Negates o (Leaf l)) (choice δ (pass_diagram o) (choice ε drop_diagram (Leaf l)))
      go (yes e) ε = record { asks = leaf_records (pass_cells o); built = negates_drop (leaf_cells e); sound = pass_sound }
      go (no p) (yes e) = record { asks = []; built = negates_pass (λ q. p (ap {B = Diagram} Leaf q)) (leaf_cells e); sound = tt }
      go (no p) (no k) = record { asks = leaf_records l; built = negates_other (λ q. p (ap {B = Diagram} Leaf q)) (λ q. k (ap {B = Diagram} Leaf q)); sound = leaf_sound o l h }

  negate_node_given : (f n : ℕ) (y z : Diagram) → Formed o (Node f n y z) → Given o (Negates o y) (negate o y) → Given o (Negates o z) (negate o z) → Given o (Negates o (Node f n y z)) (make o f n (negate o y) (negate o z))
  negate_node_given f n y z h P Q =
      record {
        asks = P.asks ++ (Q.asks ++ M.asks);
        built = negates_node P.built Q.built M.built;
        sound = sound_three o P.asks Q.asks M.asks P.sound Q.sound M.sound;
      }
    where
      M : Given o (Makes o f n (negate o y) (negate o z)) (make o f n (negate o y) (negate o z))
      M = make_given L f n (negate o y) (negate o z) (negate_ready f n y z h (negate_formed y h.1) (negate_formed z h.2))

  pub negate_given : (d : Diagram) → Formed o d → Given o (Negates o d) (negate o d)
  unfolding negate
  negate_given (Leaf l) h = negate_leaf_given l h
  negate_given (Node f n y z) h = negate_node_given f n y z h (negate_given y h.1) (negate_given z h.2)

  module _ (d : Diagram) (hd : Formed o d) where
    -- a round that the next one repeats is repeated by every later one
    repeated : (i k m : ℕ) → i + k ≡ m → round o d (suc k) ≡ round o d k → round o d m ≡ round o d k
    unfolding round
    repeated zero k m e h = ap (round o d) (none e)
      where
        none : 0 + k ≡ m → m ≡ k
        none r = omega arith
    repeated (suc i) k m e h = ap (round o d) (next e) ∙ ap (λ (x : Diagram). join o (pass_diagram o) (sequence o d x)) (repeated i k (i + k) refl h) ∙ h
      where
        next : suc i + k ≡ m → m ≡ suc (i + k)
        next r = omega arith

    after : (k : ℕ) → Given o (Sequences o (round o d k) d) (sequence o d (round o d k))
    after k = sequence_given L (round o d k) (round_good L d hd k) d hd

    next_given : (k : ℕ) → Given o (Joins o (Leaf (pass_cells o)) (sequence o d (round o d k))) (round o d (suc k))
    unfolding round
    next_given k = join_given L (pass_diagram o) (sequence o d (round o d k)) (pass_formed L) (sequenced L (round o d k) (round_good L d hd k) d hd).formed

    round_last : (k m : ℕ) → round o d (suc k) ≡ round o d k → round o d m ≡ round o d k → Given o (Rounds o d (round o d k)) (round o d m)
    round_last k m e r =
        subst (Given o (Rounds o d (round o d k))) (sym r)
        (record { asks = (after k).asks ++ (next_given k).asks; built = rounds_end (after k).built (next_given k).built e; sound = sound_two o (after k).asks (next_given k).asks (after k).sound (next_given k).sound })

    round_more : (k m : ℕ) → round o d (suc k) ≢ round o d k → Given o (Rounds o d (round o d (suc k))) (round o d m) → Given o (Rounds o d (round o d k)) (round o d m)
    round_more k m h R =
        record {
          asks = (after k).asks ++ ((next_given k).asks ++ R.asks);
          built = rounds_on (after k).built (next_given k).built h R.built;
          sound = sound_three o (after k).asks (next_given k).asks R.asks (after k).sound (next_given k).sound R.sound;
        }

    -- i rounds after round k the rounds have ended
    rounds_given : (i k m : ℕ) → i + k ≡ m → round o d m ≡ round o d (suc m) → Given o (Rounds o d (round o d k)) (round o d m)
    rounds_given zero k m e h = round_last k m (ap (round o d) (none_next e) ∙ sym h ∙ ap (round o d) (none e)) (ap (round o d) (none e))
      where
        none : 0 + k ≡ m → m ≡ k
        none r = omega arith

        none_next : 0 + k ≡ m → suc k ≡ suc m
        none_next r = omega arith
    rounds_given (suc i) k m e h = go (equal_diagrams (round o d (suc k)) (round o d k)) (rounds_given i (suc k) m (moved e) h)
      where
        moved : suc i + k ≡ m → i + suc k ≡ m
        moved r = omega arith

        go : Dec (round o d (suc k) ≡ round o d k) → Given o (Rounds o d (round o d (suc k))) (round o d m) → Given o (Rounds o d (round o d k)) (round o d m)
        go (yes q) R = round_last k m q (repeated (suc i) k m e q)
        go (no q) R = round_more k m q R

    pub star_given : (m : ℕ) → round o d m ≡ round o d (suc m) → Given o (Stars o d) (round o d m)
    unfolding round
    star_given m e =
        let R = rounds_given m 0 m (whole m) e in
        record { asks = leaf_records (pass_cells o) ++ R.asks; built = stars_rounds R.built; sound = sound_two o (leaf_records (pass_cells o)) R.asks pass_sound R.sound }
      where
        whole : (k : ℕ) → k + 0 ≡ k
        whole k = omega arith

  -- given by the rules, and well-formed
  Good : Policy → Diagram → Type 0
  Good p d = Given o (Compiled o p) d × Formed o d

  leaf_good : (p : Policy) (l : List Cell) → Compiled o p (Leaf l) (leaf_records l) → LeafFormed o l → Good p (Leaf l)
  unfolding Good
  leaf_good p l c h = (record { asks = leaf_records l; built = c; sound = leaf_sound o l h }, h)

  test_good : (f n : ℕ) → f < fields → LegalValue f n → Good (Test f n) (test_diagram o f n)
  unfolding Good
  test_good f n p q = (
    record {
      asks = leaf_records (pass_cells o) ++ (node f n (pass_diagram o) drop_diagram ∷ []);
      built = compiled_test;
      sound = sound_two o (leaf_records (pass_cells o)) (node f n (pass_diagram o) drop_diagram ∷ []) pass_sound (test_formed L f n p q, tt);
    },
    test_formed L f n p q,
  )

  not_good : (p : Policy) (d : Diagram) → Good p d → Good (Not p) (negate o d)
  unfolding Good
  not_good p d (P, h) =
      let N = negate_given d h in
      (record { asks = P.asks ++ N.asks; built = compiled_not P.built N.built; sound = sound_two o P.asks N.asks P.sound N.sound }, negate_formed d h)

  union_good : (p q : Policy) (d e : Diagram) → Good p d → Good q e → Good (Union p q) (join o d e)
  unfolding Good
  union_good p q d e (P, h) (Q, k) =
      let J = join_given L d e h k in (
        record {
          asks = P.asks ++ (Q.asks ++ J.asks);
          built = compiled_union P.built Q.built J.built;
          sound = sound_three o P.asks Q.asks J.asks P.sound Q.sound J.sound;
        },
        (joined L d e h k).formed,
      )

  sequence_good : (p q : Policy) (d e : Diagram) → Good p d → Good q e → Good (Sequence p q) (sequence o d e)
  unfolding Good
  sequence_good p q d e (P, h) (Q, k) =
      let S = sequence_given L e k d h in (
        record {
          asks = P.asks ++ (Q.asks ++ S.asks);
          built = compiled_sequence P.built Q.built S.built;
          sound = sound_three o P.asks Q.asks S.asks P.sound Q.sound S.sound;
        },
        (sequenced L e k d h).formed,
      )

  star_good : (p : Policy) (d : Diagram) (k : ℕ) → round o d k ≡ round o d (suc k) → Good p d → Good (Star p) (round o d k)
  unfolding Good
  star_good p d k e (P, h) =
      let S = star_given d h k e in
      (record { asks = P.asks ++ S.asks; built = compiled_star P.built S.built; sound = sound_two o P.asks S.asks P.sound S.sound }, round_good L d h k)

  compile_good : (p : Policy) (d : Diagram) → Compiles o p d → Legal p → Good p d
  compile_good p d drops l = leaf_good Drop [] compiled_drop (drop_is_formed L)
  compile_good p d passes l = leaf_good Pass (pass_cells o) compiled_pass (pass_formed L)
  compile_good p d (tests f n) l = test_good f n l.0 l.1
  compile_good p d (sets f n) l = leaf_good (Set f n) (one_cell o (set keep_all f (Some n)) o.one) compiled_set (single_formed L (set keep_all f (Some n)) o.one (set_formed f n l.1) L.one_weight)
  compile_good p d (costs n) l = leaf_good (Cost n) (one_cell o keep_all (o.cost n)) compiled_cost (single_formed L keep_all (o.cost n) keep_formed (L.cost_weight n l))
  compile_good p d (nots {p = q} {d = e} c) l = not_good q e (compile_good q e c l.1)
  compile_good p d (unions {p = q} {q = r} {d = e} {e = g} c c') l = union_good q r e g (compile_good q e c l.0) (compile_good r g c' l.1)
  compile_good p d (sequences {p = q} {q = r} {d = e} {e = g} c c') l = sequence_good q r e g (compile_good q e c l.0) (compile_good r g c' l.1)
  compile_good p d (stars {p = q} {d = e} k c same) l = star_good q e k same (compile_good q e c l)

  pub compile_given : (p : Policy) (d : Diagram) → Compiles o p d → Legal p → Given o (Compiled o p) d
  unfolding Good
  compile_given p d c l = (compile_good p d c l).0
