-- What the constructions give for a call. Assumes nothing.
use Rattle.std.proofs.Common.{◌≡◌, ℕ, List, Some, None, sym, refl, ◌∙◌, subst}
use Rattle.std.proofs.lemmas.Option.{none-some, same_Some}
use Rattle.format.specs.Policy.{Policy, Legal}
use Rattle.checking.proofs.Determinism.{determined}
use Rattle.weights.specs.Weights.{Ops, Laws}
use Rattle.meaning.specs.Leaves.{Each}
use Rattle.meaning.specs.Diagrams.{Diagram, Formed, weigh}
use Rattle.meaning.specs.Constructions.{join, sequence, round}
use Rattle.meaning.specs.Meanings.{Meaning, Means, IsUnion, IsSequence, IsStar}
use Rattle.requests.specs.Requests.{Request, RecordFormed}
use Rattle.requests.specs.Rules.{Joins, Sequences, Stars, Compiled}
use Rattle.requests.specs.Claims.{Gives}
use Rattle.requests.proofs.Claims.{rules_agree, join_gives, sequence_gives, star_gives, compile_gives}
use Rattle.laws.specs.Claims.{DiagramOf, Stars as StarsEnd}
use Rattle.laws.proofs.Laws.{diagrams_give_meanings_lem, join_is_union_lem, sequence_is_sequence_lem, the_rounds_end}
use Rattle.stored.specs.Stored.{Stored, diagram, Has}
use Rattle.stored.specs.Grows.{Adds}
use Rattle.stored.specs.Whole.{Inside}
use Rattle.stored.proofs.Growth.{all_inside, more_records, asked_there}
use Rattle.stored.proofs.Inside.{joins_inside, sequences_inside, stars_inside, compiled_inside}
use Rattle.steps.specs.States.{State}
use Rattle.steps.specs.Sound.{SoundStores}
use Rattle.steps.specs.Steps.{Call, Builds, of_policy, of_union, of_sequence, of_star, Unheld, union_first, union_second, sequence_first, sequence_second, star_operand, install_operand}
use Rattle.steps.proofs.Stores.{diagram_formed}

pub same_diagram : (s : Stored) (w : ℕ) (d e : Diagram) → diagram s w ≡ Some d → diagram s w ≡ Some e → d ≡ e
same_diagram s w d e p q = same_Some d e (sym p ∙ q)

pub some_not_none : (s : Stored) (w : ℕ) (d : Diagram) → diagram s w ≡ Some d → diagram s w ≡ None → ⊥
some_not_none s w d p q = none-some d (sym q ∙ p)

-- a construction's result and what is known of it
pub record Made (o : Ops) (M : Meaning → Type 0) (r : Diagram) (asks : List Request) : Type 0 where
  pub formed : Formed o r
  pub asks_formed : Each (RecordFormed o) asks
  pub means : M (weigh o r)

made :
    {o : Ops} (R : Diagram → List Request → Type 0) (M : Meaning → Type 0) (g : Diagram) → Gives o R g → Formed o g → M (weigh o g) →
    (r : Diagram) (asks : List Request) → R r asks → Made o M r asks
made {o} R M g G f m r asks h =
    record {
      formed = subst (Formed o) (sym e.0) f;
      asks_formed = subst (Each (RecordFormed o)) (sym e.1) G.records_formed;
      means = subst (λ (d : Diagram). M (weigh o d)) (sym e.0) m;
    }
  where
    e : (r ≡ g) × (asks ≡ G.asks)
    e = G.nothing_else r asks h

module _ {o : Ops} (L : Laws o) where
  pub policy_made : (p : Policy) → Legal p → (r : Diagram) (asks : List Request) → Compiled o p r asks → Made o (Means o p) r asks
  policy_made p l r asks h = made (Compiled o p) (Means o p) D.0 (compile_gives o L p l D.0 D.1.compiles) D.1.formed D.1.means r asks h
    where
      D : (d : Diagram) × DiagramOf o p d
      D = diagrams_give_meanings_lem o L p l

  pub union_made : (d e : Diagram) → Formed o d → Formed o e → (r : Diagram) (asks : List Request) → Joins o d e r asks → Made o (IsUnion o (weigh o d) (weigh o e)) r asks
  union_made d e f g r asks h = made (Joins o d e) (IsUnion o (weigh o d) (weigh o e)) (join o d e) (join_gives o L d e f g) J.0 J.1 r asks h
    where
      J : Formed o (join o d e) × IsUnion o (weigh o d) (weigh o e) (weigh o (join o d e))
      J = join_is_union_lem o L d e f g

  pub sequence_made : (d e : Diagram) → Formed o d → Formed o e → (r : Diagram) (asks : List Request) → Sequences o e d r asks → Made o (IsSequence o (weigh o d) (weigh o e)) r asks
  sequence_made d e f g r asks h = made (Sequences o e d) (IsSequence o (weigh o d) (weigh o e)) (sequence o d e) (sequence_gives o L d e f g) J.0 J.1 r asks h
    where
      J : Formed o (sequence o d e) × IsSequence o (weigh o d) (weigh o e) (weigh o (sequence o d e))
      J = sequence_is_sequence_lem o L d e f g

  pub star_made : (d : Diagram) → Formed o d → (r : Diagram) (asks : List Request) → Stars o d r asks → Made o (IsStar o (weigh o d)) r asks
  star_made d f r asks h = made (Stars o d) (IsStar o (weigh o d)) (round o d E.ends.0) (star_gives o L d f E.ends.0 E.ends.1) (E.formed E.ends.0) (E.star E.ends.0 E.ends.1) r asks h
    where
      E : StarsEnd o d
      E = the_rounds_end o L d f

  -- whatever the call, the diagram built and the records asked for are formed
  pub built_formed : (s : State) → SoundStores o s → (c : Call) (r : Diagram) (asks : List Request) → Builds o s.stored c r asks → Formed o r × Each (RecordFormed o) asks
  built_formed s h c r asks (of_policy {p = p} l k) = let M = policy_made p l.legal r asks k in (M.formed, M.asks_formed)
  built_formed s h c r asks (of_union {x = x} {y = y} {d = d} {e = e} p q k) =
      let M = union_made d e (diagram_formed o s h x d p) (diagram_formed o s h y e q) r asks k in (M.formed, M.asks_formed)
  built_formed s h c r asks (of_sequence {x = x} {y = y} {d = d} {e = e} p q k) =
      let M = sequence_made d e (diagram_formed o s h x d p) (diagram_formed o s h y e q) r asks k in (M.formed, M.asks_formed)
  built_formed s h c r asks (of_star {x = x} {d = d} p k) = let M = star_made d (diagram_formed o s h x d p) r asks k in (M.formed, M.asks_formed)

-- every record of what was asked for is in store
pub built_inside : (o : Ops) (s : State) → SoundStores o s → (c : Call) (r : Diagram) (asks : List Request) (m : Stored) → Builds o s.stored c r asks → Adds s.stored asks m → Each (Inside (Has m)) asks
built_inside o s h c r asks m (of_policy l k) g = compiled_inside (Has m) k (asked_there s.stored asks m g)
built_inside o s h c r asks m (of_union {x = x} {y = y} {d = d} {e = e} p q k) g =
    joins_inside (Has m) k (asked_there s.stored asks m g) (more_records s.stored m g.grown d (all_inside s.rooms s.stored h.whole x d p)) (more_records s.stored m g.grown e (all_inside s.rooms s.stored h.whole y e q))
built_inside o s h c r asks m (of_sequence {x = x} {y = y} {d = d} {e = e} p q k) g =
    sequences_inside (Has m) k (asked_there s.stored asks m g) (more_records s.stored m g.grown e (all_inside s.rooms s.stored h.whole y e q)) (more_records s.stored m g.grown d (all_inside s.rooms s.stored h.whole x d p))
built_inside o s h c r asks m (of_star {x = x} {d = d} p k) g =
    stars_inside (Has m) k (asked_there s.stored asks m g) (more_records s.stored m g.grown d (all_inside s.rooms s.stored h.whole x d p))

-- the constructions give one diagram for a call, and request the same records
pub built_once : (o : Ops) (s : Stored) (c : Call) (r r' : Diagram) (a a' : List Request) → Builds o s c r a → Builds o s c r' a' → (r ≡ r') × (a ≡ a')
built_once o s c r r' a a' (of_policy {ws = ws} {p = p} l k) (of_policy {p = q} l' k') =
    (rules_agree o).compile_once p r r' a a' k (subst (λ (u : Policy). Compiled o u r' a') ((determined ws).one_policy q p l'.legal l.legal l'.words l.words) k')
built_once o s c r r' a a' (of_union {x = x} {y = y} {d = d} {e = e} p q k) (of_union {d = d'} {e = e'} p' q' k') =
    (rules_agree o).join_once d e r r' a a' k (subst (λ (u : Diagram). Joins o u e r' a') (same_diagram s x d' d p' p) (subst (λ (u : Diagram). Joins o d' u r' a') (same_diagram s y e' e q' q) k'))
built_once o s c r r' a a' (of_sequence {x = x} {y = y} {d = d} {e = e} p q k) (of_sequence {d = d'} {e = e'} p' q' k') =
    (rules_agree o).sequence_once d e r r' a a' k (subst (λ (u : Diagram). Sequences o e u r' a') (same_diagram s x d' d p' p) (subst (λ (u : Diagram). Sequences o u d' r' a') (same_diagram s y e' e q' q) k'))
built_once o s c r r' a a' (of_star {x = x} {d = d} p k) (of_star {d = d'} p' k') =
    (rules_agree o).star_once d r r' a a' k (subst (λ (u : Diagram). Stars o u r' a') (same_diagram s x d' d p' p) k')

-- a call for which the constructions give a diagram has all its operands
pub built_held : (o : Ops) (s : Stored) (c : Call) (r : Diagram) (a : List Request) (place : ℕ) → Builds o s c r a → Unheld s c place → ⊥
built_held o s c r a i (of_policy l k) u = elim u [ ]
built_held o s c r a i (of_union {x = x} {y = y} {d = d} {e = e} p q k) (union_first n) = some_not_none s x d p n
built_held o s c r a i (of_union {x = x} {y = y} {d = d} {e = e} p q k) (union_second m n) = some_not_none s y e q n
built_held o s c r a i (of_sequence {x = x} {y = y} {d = d} {e = e} p q k) (sequence_first n) = some_not_none s x d p n
built_held o s c r a i (of_sequence {x = x} {y = y} {d = d} {e = e} p q k) (sequence_second m n) = some_not_none s y e q n
built_held o s c r a i (of_star {x = x} {d = d} p k) (star_operand n) = some_not_none s x d p n

-- one operand is the first that is not held
pub unheld_once : (s : Stored) (c : Call) (i j : ℕ) → Unheld s c i → Unheld s c j → i ≡ j
unheld_once s c i j (union_first n) (union_first m) = refl
unheld_once s c i j (union_first {x = x} n) (union_second {d = d} p m) = absurd (some_not_none s x d p n)
unheld_once s c i j (union_second {x = x} {d = d} p n) (union_first m) = absurd (some_not_none s x d p m)
unheld_once s c i j (union_second p n) (union_second q m) = refl
unheld_once s c i j (sequence_first n) (sequence_first m) = refl
unheld_once s c i j (sequence_first {x = x} n) (sequence_second {d = d} p m) = absurd (some_not_none s x d p n)
unheld_once s c i j (sequence_second {x = x} {d = d} p n) (sequence_first m) = absurd (some_not_none s x d p m)
unheld_once s c i j (sequence_second p n) (sequence_second q m) = refl
unheld_once s c i j (star_operand n) (star_operand m) = refl
unheld_once s c i j (install_operand n) (install_operand m) = refl
