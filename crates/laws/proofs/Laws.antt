-- The theorems, from the theory of diagrams. Assumes nothing.
use mathlib.Core.Path.{sym, ap, subst, ◌∙◌}
use mathlib.Core.List.{List}
use Prim.Native.Nat.{ℕ}
use Rattle.format.specs.Policy.{Policy, Legal}
use Rattle.weights.specs.Weights.{Ops, Laws}
use Rattle.weights.specs.Order.{Lub}
use Rattle.meaning.specs.Leaves.{Frame}
use Rattle.meaning.specs.Diagrams.{Diagram, weigh, known}
use Rattle.meaning.specs.Constructions.{join, choose, sequence, negate, prefix, Compiles}
use Rattle.meaning.specs.Frames.{InRange, Spare}
use Rattle.meaning.proofs.Narrowing.{formed_weighted, weigh_weight, agrees_known, weigh_narrows, extent_narrows}
use Rattle.meaning.proofs.Making.{formed_narrows, make_formed, make_weighs_yes, make_weighs_no, make_extent}
use Rattle.meaning.proofs.Canonical.{canonical, same_weights_same}
use Rattle.meaning.proofs.Joining.{Joined, joined, Chosen, chosen}
use Rattle.meaning.proofs.Sequencing.{Prefixed, prefixed, Sequenced, sequenced}
use Rattle.meaning.proofs.Simple.{Negated, negated}
use Rattle.meaning.proofs.Starring.{sequence_lub, star_means, round_good, rounds_end}
use Rattle.meaning.proofs.Compiling.{means_alike, Compiled, compiled, compiles, compiles_once, named_in_either, uses_first, uses_second, spare_either}
use Rattle.laws.specs.Claims.{OneMeaning, NarrowKeeps, MakeKeeps, Canonical, JoinIsUnion, ChooseIsChoice, PrefixGoesBefore, SequenceIsSequence, NegateIsNot, StarEnds, DiagramOf, DiagramsGiveMeanings, DiagramsDecide}

-- the diagram of a legal policy
of_policy : {o : Ops} (L : Laws o) (p q : Policy) → Legal p → (d : Diagram) → Compiles o p d → Compiled o (named_in_either p q) p d
of_policy L p q h d c = compiled (named_in_either p q) L p d c h (uses_first p q)

pub diagrams_give_meanings_lem : DiagramsGiveMeanings
diagrams_give_meanings_lem o L p h = (d.0, record { compiles = d.1; only_one = λ e c. compiles_once o p d.0 e d.1 c; formed = D.formed; means = D.means })
  where
    d : (e : Diagram) × Compiles o p e
    d = compiles (named_in_either p p) L p h (uses_first p p)

    D : Compiled o (named_in_either p p) p d.0
    D = of_policy L p p h d.0 d.1

pub one_meaning : OneMeaning
one_meaning o L p h = (weigh o r.0, r.1.means, λ n k. means_alike L p (weigh o r.0) n r.1.means k)
  where
    r : (d : Diagram) × DiagramOf o p d
    r = diagrams_give_meanings_lem o L p h

pub narrow_keeps : NarrowKeeps
narrow_keeps o L d h f n =
    record {
      formed = formed_narrows L d (known f n) h;
      weighs = λ s t e. weigh_narrows L d (known f n) s t (formed_weighted o d h) (agrees_known f n s e);
      no_larger = extent_narrows o d (known f n);
    }

pub make_keeps : MakeKeeps
make_keeps o L f n p q y z hy hz ty tz =
    record {
      formed = make_formed L f n y z p q hy hz ty tz;
      weighs_yes = λ s t e. make_weighs_yes L f n y z s t (formed_weighted o y hy) (formed_weighted o z hz) e;
      weighs_no = λ s t e. make_weighs_no L f n y z s t e;
      no_larger = make_extent L f n y z;
    }

pub told : Canonical
told o L names w d e p q i j h = canonical names w L d e p q i j h

pub join_is_union_lem : JoinIsUnion
join_is_union_lem o L d e p q = (J.formed, λ s t x y. J.weighs s t)
  where
    J : Joined o d e (join o d e)
    J = joined L d e p q

pub choose_is_choice : ChooseIsChoice
choose_is_choice o L f n i j y z p q = record { formed = C.formed; weighs_yes = C.weighs_yes; weighs_no = C.weighs_no }
  where
    C : Chosen o f n y z (choose o f n y z)
    C = chosen L f n i j y z p q

pub prefix_goes_before_lem : PrefixGoesBefore
prefix_goes_before_lem o L a ha w hw d hd = (P.formed, λ s t x y. P.weighs s t x.all_fields)
  where
    P : Prefixed o a w d (prefix o a w d)
    P = prefixed L a w ha hw d hd

pub sequence_is_sequence_lem : SequenceIsSequence
sequence_is_sequence_lem o L d e p q =
    (S.formed, λ s t x y. subst (Lub o {I = (h : Frame) × InRange h} (λ h. o.times (weigh o d s h.0) (weigh o e h.0 t))) (sym (S.weighs s t x.all_fields)) (sequence_lub L d p (weigh o e) (λ h k. weigh_weight L e h k (formed_weighted o e q)) s t x))
  where
    S : Sequenced o d e (sequence o d e)
    S = sequenced L e q d p

pub negate_is_not_lem : NegateIsNot
negate_is_not_lem o L p h k d c = (N.formed, λ s t x y. N.weighs s t x.all_fields)
  where
    D : Compiled o (named_in_either p p) p d
    D = of_policy L p p h d c

    N : Negated L d (negate o d)
    N = negated L d D.formed (D.plain k)

pub the_rounds_end : StarEnds
the_rounds_end o L d p =
    record { ends = rounds_end L d p; formed = λ k. round_good L d p k; star = λ k e. star_means L d p k e }

pub diagrams_decide : DiagramsDecide
diagrams_decide o L p q h k d e c c' =
    record {
      same_diagram = λ s. same_weights_same N w L d e D.formed E.formed D.named E.named (s (weigh o d) (weigh o e) D.means E.means);
      same_meaning = λ r a b x y s t i j. means_alike L p a (weigh o d) x D.means s t i j ∙ ap (λ (u : Diagram). weigh o u s t) r ∙ means_alike L q (weigh o e) b E.means y s t i j;
      told_apart = λ r. canonical N w L d e D.formed E.formed D.named E.named r;
    }
  where
    N : ℕ → List ℕ
    N = named_in_either p q

    w : Spare N
    w = spare_either p q h.short k.short

    D : Compiled o N p d
    D = compiled N L p d c h.legal (uses_first p q)

    E : Compiled o N q e
    E = compiled N L q e c' k.legal (uses_second p q)
