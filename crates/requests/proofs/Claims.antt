-- The claims, each from the rules and from what is worked out. Assumes nothing.
use Rattle.std.proofs.Common.{◌≡◌, ℕ, suc, List}
use Rattle.weights.specs.Weights.{Ops}
use Rattle.weights.specs.Order.{In}
use Rattle.meaning.specs.Diagrams.{Diagram}
use Rattle.meaning.specs.Constructions.{round, Compiles}
use Rattle.meaning.proofs.Starring.{rounds_end}
use Rattle.meaning.proofs.Compiling.{compiles, named_in_either, uses_first}
use Rattle.requests.specs.Requests.{Request}
use Rattle.requests.specs.Claims.{AtMostOne, RulesAgree, RulesCover, RequestsSuffice, Gives, NarrowGives, MakeGives, JoinGives, ChooseGives, PrefixGives, SequenceGives, NegateGives, StarGives, StarAnswers, CompileGives, CompileAnswers}
use Rattle.requests.proofs.Unique.{narrows_same, makes_same, joins_same, chooses_same, prefixes_same, sequences_same, negates_same, stars_same, compiled_same}
use Rattle.requests.proofs.Narrowed.{Given, narrow_given, make_given}
use Rattle.requests.proofs.Joined.{join_given, choose_given}
use Rattle.requests.proofs.Followed.{prefix_given, sequence_given}
use Rattle.requests.proofs.Total.{narrow_total, make_total, join_total, choose_total, prefix_total, sequence_total, negate_total}
use Rattle.requests.proofs.Holding.{narrows_hold, makes_hold, joins_hold, chooses_hold, prefixes_hold, sequences_hold, negates_hold, stars_hold, compiled_hold}
use Rattle.requests.proofs.Compiled.{negate_given, star_given, compile_given}

pub rules_agree : (o : Ops) → RulesAgree o
rules_agree o =
    record {
      narrow_once = λ d f n r s a b p q. narrows_same p q;
      make_once = λ f n y z r s a b p q. makes_same p q;
      join_once = λ d e r s a b p q. joins_same p q;
      choose_once = λ f n y z r s a b p q. chooses_same p q;
      prefix_once = λ t w d r s a b p q. prefixes_same p q;
      sequence_once = λ d e r s a b p q. sequences_same p q;
      negate_once = λ d r s a b p q. negates_same p q;
      star_once = λ d r s a b p q. stars_same p q;
      compile_once = λ t r s a b p q. compiled_same p q;
    }

pub rules_cover : (o : Ops) → RulesCover o
rules_cover o =
    record {
      narrow_covers = narrow_total o;
      make_covers = make_total o;
      join_covers = join_total o;
      choose_covers = choose_total o;
      prefix_covers = prefix_total o;
      sequence_covers = λ d e. sequence_total o e d;
      negate_covers = negate_total o;
    }

pub requests_suffice : RequestsSuffice
requests_suffice o held =
    record {
      narrow_holds = λ d f n k r a p h. narrows_hold H p h k;
      make_holds = λ f n y z k j r a p h. makes_hold H p h k j;
      join_holds = λ d e k j r a p h. joins_hold H p h k j;
      choose_holds = λ f n y z k j r a p h. chooses_hold H p h k j;
      prefix_holds = λ s w d k r a p h. prefixes_hold H p h k;
      sequence_holds = λ d e k j r a p h. sequences_hold H p h j k;
      negate_holds = λ d k r a p h. negates_hold H p h k;
      star_holds = λ d k r a p h. stars_hold H p h k;
      compile_holds = λ t r a p h. compiled_hold H p h;
    }
  where
    H : Request → Type 0
    H q = In q held

gives : (o : Ops) (R : Diagram → List Request → Type 0) (r : Diagram) → AtMostOne R → Given o R r → Gives o R r
gives o R r once g =
    record {
      asks = g.asks;
      by_the_rules = g.built;
      nothing_else = λ s b h. once s r b g.asks h g.built;
      records_formed = g.sound;
    }

pub narrow_gives : NarrowGives
narrow_gives o L d h f n = gives o _ _ ((rules_agree o).narrow_once d f n) (narrow_given L d f n h)

pub make_gives : MakeGives
make_gives o L f n p q y z h k t u =
    gives o _ _ ((rules_agree o).make_once f n y z)
    (make_given L f n y z (record { exists = p; legal = q; yes_formed = h; no_formed = k; yes_fields = t; no_after = u }))

pub join_gives : JoinGives
join_gives o L d e h k = gives o _ _ ((rules_agree o).join_once d e) (join_given L d e h k)

pub choose_gives : ChooseGives
choose_gives o L f n p q y z h k = gives o _ _ ((rules_agree o).choose_once f n y z) (choose_given L f n p q y z h k)

pub prefix_gives : PrefixGives
prefix_gives o L s w p q d h = gives o _ _ ((rules_agree o).prefix_once s w d) (prefix_given L s w p q d h)

pub sequence_gives : SequenceGives
sequence_gives o L d e h k = gives o _ _ ((rules_agree o).sequence_once d e) (sequence_given L e k d h)

pub negate_gives : NegateGives
negate_gives o L d h = gives o _ _ ((rules_agree o).negate_once d) (negate_given L d h)

pub star_gives : StarGives
star_gives o L d h k e = gives o _ _ ((rules_agree o).star_once d) (star_given L d h k e)

pub star_answers : StarAnswers
star_answers o L d h = (R.0, star_gives o L d h R.0 R.1)
  where
    R : (k : ℕ) × (round o d k ≡ round o d (suc k))
    R = rounds_end L d h

pub compile_gives : CompileGives
compile_gives o L p l d c = gives o _ _ ((rules_agree o).compile_once p) (compile_given L p d c l)

pub compile_answers : CompileAnswers
compile_answers o L p l = (D.0, D.1, compile_gives o L p l D.0 D.1)
  where
    D : (d : Diagram) × Compiles o p d
    D = compiles (named_in_either p p) L p l (uses_first p p)
