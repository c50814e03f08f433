-- The rounds of star end.
use Rattle.std.proofs.Common.{◌≡◌, ℕ, zero, suc, ◌+◌, ◌<◌, ◌≢◌, sym, refl, ap, ◌∙◌, subst, arith}
use Rattle.weights.specs.Weights.{Ops, Laws}
use Rattle.meaning.specs.Decide.{choice}
use Rattle.meaning.specs.Diagrams.{Diagram, Formed, equal_diagrams}
use Rattle.meaning.specs.Constructions.{round}
use Rattle.meaning.proofs.Starring.{rounds_bound, rounds_end_by}
use Rattle.engine.specs.Rounds.{rest, next_round}

module _ (next : Diagram → Diagram) where
  iterate : ℕ → Diagram → Diagram
  iterate zero s = s
  iterate (suc k) s = iterate k (next s)

  -- after so many steps the next is the last
  Ends : ℕ → Diagram → Type 0
  Ends k s = iterate k s ≡ next (iterate k s)

  stable : (b : ℕ) (s : Diagram) → Ends b s → rest next (suc b) s ≡ rest next b s
  unfolding Ends iterate rest
  stable zero s e = go (equal_diagrams (next s) s)
    where
      go : (d : Dec (next s ≡ s)) → choice d zero (suc zero) ≡ zero
      go (yes q) = refl
      go (no h) = absurd (h (sym e))
  stable (suc b) s e = go (equal_diagrams (next s) s) (stable b (next s) e)
    where
      go : (d : Dec (next s ≡ s)) → rest next (suc b) (next s) ≡ rest next b (next s) → choice d zero (suc (rest next (suc b) (next s))) ≡ choice d zero (suc (rest next b (next s)))
      go (yes q) r = refl
      go (no h) r = ap suc r

  rest_falls : (b : ℕ) (s : Diagram) → Ends b s → next s ≢ s → rest next b (next s) < rest next b s
  unfolding Ends iterate rest
  rest_falls zero s e h = absurd (h (sym e))
  rest_falls (suc b) s e h = go (equal_diagrams (next s) s) (stable b (next s) e)
    where
      go : (d : Dec (next s ≡ s)) → rest next (suc b) (next s) ≡ rest next b (next s) → rest next (suc b) (next s) < choice d zero (suc (rest next b (next s)))
      go (yes q) r = absurd (h q)
      go (no n) r = omega arith

module _ {o : Ops} (L : Laws o) (d : Diagram) (h : Formed o d) where
  iterated : (j k : ℕ) → iterate (next_round o d) j (round o d k) ≡ round o d (j + k)
  unfolding iterate next_round round
  iterated zero k = ap (round o d) (none k)
    where
      none : (k : ℕ) → k ≡ 0 + k
      none k = omega arith
  iterated (suc j) k = iterated j (suc k) ∙ ap (round o d) (moved j k)
    where
      moved : (j k : ℕ) → j + suc k ≡ suc j + k
      moved j k = omega arith

  ended : (k : ℕ) → round o d (k + rounds_bound d) ≡ round o d (suc (k + rounds_bound d))
  unfolding round next_round
  ended zero = subst (λ (n : ℕ). round o d n ≡ round o d (suc n)) (none (rounds_bound d)) (rounds_end_by L d h)
    where
      none : (k : ℕ) → k ≡ 0 + k
      none k = omega arith
  ended (suc k) = subst (λ (n : ℕ). round o d n ≡ round o d (suc n)) (more k (rounds_bound d)) (ap (next_round o d) (ended k))
    where
      more : (k b : ℕ) → suc (k + b) ≡ suc k + b
      more k b = omega arith

  pub round_falls : (k : ℕ) → round o d (suc k) ≢ round o d k → rest (next_round o d) (rounds_bound d) (round o d (suc k)) < rest (next_round o d) (rounds_bound d) (round o d k)
  unfolding Ends next_round round
  round_falls k q = rest_falls (next_round o d) (rounds_bound d) (round o d k) ends q
    where
      back : (b k : ℕ) → k + b ≡ b + k
      back b k = omega arith

      there : iterate (next_round o d) (rounds_bound d) (round o d k) ≡ round o d (k + rounds_bound d)
      there = iterated (rounds_bound d) k ∙ ap (round o d) (sym (back (rounds_bound d) k))

      ends : Ends (next_round o d) (rounds_bound d) (round o d k)
      ends = there ∙ (ended k ∙ ap (next_round o d) (sym there))
