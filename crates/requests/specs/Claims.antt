-- What the rules give, for every lawful weight kind.
use Rattle.std.specs.Prelude.{◌≡◌, ℕ, suc, ◌<◌, ◌≤◌, List}
use Rattle.format.specs.Fields.{fields, LegalValue}
use Rattle.format.specs.Policy.{Policy, Legal}
use Rattle.weights.specs.Weights.{Ops, Weight, Laws}
use Rattle.weights.specs.Order.{In}
use Rattle.meaning.specs.Leaves.{Action, Each, ActionFormed}
use Rattle.meaning.specs.Diagrams.{Diagram, narrow, make, Tests, After, Formed}
use Rattle.meaning.specs.Constructions.{join, choose, prefix, sequence, negate, round, Compiles}
use Rattle.requests.specs.Requests.{Request, Records, RecordFormed}
use Rattle.requests.specs.Rules.{Narrows, Makes, Joins, Chooses, Prefixes, Sequences, Negates, Stars, Compiled}

-- a construction by its rules: a diagram, and the records that it requests
abbrev pub Construction : Type 1
Construction = Diagram → List Request → Type 0

-- the rules give at most one diagram and one list of requests
abbrev pub AtMostOne : Construction → Type 0
AtMostOne R = (r s : Diagram) (a b : List Request) → R r a → R s b → (r ≡ s) × (a ≡ b)

-- the rules give a diagram
abbrev pub AtLeastOne : Construction → Type 0
AtLeastOne R = (r : Diagram) × (a : List Request) × R r a

-- the rules agree on all operands, well-formed or not
pub record RulesAgree (o : Ops) : Type 0 where
  pub narrow_once : (d : Diagram) (f n : ℕ) → AtMostOne (Narrows o d f n)
  pub make_once : (f n : ℕ) (y z : Diagram) → AtMostOne (Makes o f n y z)
  pub join_once : (d e : Diagram) → AtMostOne (Joins o d e)
  pub choose_once : (f n : ℕ) (y z : Diagram) → AtMostOne (Chooses o f n y z)
  pub prefix_once : (s : Action) (w : ℕ) (d : Diagram) → AtMostOne (Prefixes o s w d)
  pub sequence_once : (d e : Diagram) → AtMostOne (Sequences o e d)
  pub negate_once : (d : Diagram) → AtMostOne (Negates o d)
  pub star_once : (d : Diagram) → AtMostOne (Stars o d)
  pub compile_once : (p : Policy) → AtMostOne (Compiled o p)

-- and they cover all operands; only star asks that its operand be well-formed
pub record RulesCover (o : Ops) : Type 0 where
  pub narrow_covers : (d : Diagram) (f n : ℕ) → AtLeastOne (Narrows o d f n)
  pub make_covers : (f n : ℕ) (y z : Diagram) → AtLeastOne (Makes o f n y z)
  pub join_covers : (d e : Diagram) → AtLeastOne (Joins o d e)
  pub choose_covers : (f n : ℕ) (y z : Diagram) → AtLeastOne (Chooses o f n y z)
  pub prefix_covers : (s : Action) (w : ℕ) (d : Diagram) → AtLeastOne (Prefixes o s w d)
  pub sequence_covers : (d e : Diagram) → AtLeastOne (Sequences o e d)
  pub negate_covers : (d : Diagram) → AtLeastOne (Negates o d)

abbrev pub SomeAnswer : Type 0
SomeAnswer = (o : Ops) → RulesCover o

abbrev pub OneAnswer : Type 0
OneAnswer = (o : Ops) → RulesAgree o

-- the rules give the diagram r and nothing else, and request only records of well-formed diagrams
pub record Gives (o : Ops) (R : Construction) (r : Diagram) : Type 0 where
  pub asks : List Request
  pub by_the_rules : R r asks
  pub nothing_else : (s : Diagram) (b : List Request) → R s b → (s ≡ r) × (b ≡ asks)
  pub records_formed : Each (RecordFormed o) asks

abbrev pub NarrowGives : Type 0
NarrowGives = (o : Ops) → Laws o → (d : Diagram) → Formed o d → (f n : ℕ) → Gives o (Narrows o d f n) (narrow o d f n)

-- the yes side tests no earlier field, the no side only later tests
abbrev pub MakeGives : Type 0
MakeGives =
    (o : Ops) →
    Laws o →
    (f n : ℕ) →
    f < fields →
    LegalValue f n →
    (y z : Diagram) →
    Formed o y →
    Formed o z →
    Tests (λ g m. f ≤ g) y →
    Tests (After f n) z →
    Gives o (Makes o f n y z) (make o f n y z)

abbrev pub JoinGives : Type 0
JoinGives = (o : Ops) → Laws o → (d e : Diagram) → Formed o d → Formed o e → Gives o (Joins o d e) (join o d e)

abbrev pub ChooseGives : Type 0
ChooseGives =
    (o : Ops) →
    Laws o →
    (f n : ℕ) →
    f < fields →
    LegalValue f n →
    (y z : Diagram) →
    Formed o y →
    Formed o z →
    Gives o (Chooses o f n y z) (choose o f n y z)

abbrev pub PrefixGives : Type 0
PrefixGives =
    (o : Ops) →
    Laws o →
    (s : Action) (w : ℕ) →
    ActionFormed s →
    Weight o w →
    (d : Diagram) →
    Formed o d →
    Gives o (Prefixes o s w d) (prefix o s w d)

abbrev pub SequenceGives : Type 0
SequenceGives = (o : Ops) → Laws o → (d e : Diagram) → Formed o d → Formed o e → Gives o (Sequences o e d) (sequence o d e)

abbrev pub NegateGives : Type 0
NegateGives = (o : Ops) → Laws o → (d : Diagram) → Formed o d → Gives o (Negates o d) (negate o d)

-- star gives the round that the next one repeats, whichever such round it is
abbrev pub StarGives : Type 0
StarGives =
    (o : Ops) →
    Laws o →
    (d : Diagram) →
    Formed o d →
    (k : ℕ) →
    round o d k ≡ round o d (suc k) →
    Gives o (Stars o d) (round o d k)

-- and there is such a round
abbrev pub StarAnswers : Type 0
StarAnswers =
    (o : Ops) → Laws o → (d : Diagram) → Formed o d → (k : ℕ) × Gives o (Stars o d) (round o d k)

abbrev pub CompileGives : Type 0
CompileGives = (o : Ops) → Laws o → (p : Policy) → Legal p → (d : Diagram) → Compiles o p d → Gives o (Compiled o p) d

-- a legal policy has a diagram
abbrev pub CompileAnswers : Type 0
CompileAnswers = (o : Ops) → Laws o → (p : Policy) → Legal p → (d : Diagram) × Compiles o p d × Gives o (Compiled o p) d

-- every record of the diagram is among these
abbrev pub Held : List Request → Diagram → Type 0
Held held d = Records (λ q. In q held) d

-- where the records requested are held too, every record of the diagram is held
abbrev pub Holds : List Request → Construction → Type 0
Holds held R = (r : Diagram) (a : List Request) → R r a → Each (λ q. In q held) a → Held held r

-- no record of a result is missing among those of the operands and those requested
pub record NothingMissing (o : Ops) (held : List Request) : Type 0 where
  pub narrow_holds : (d : Diagram) (f n : ℕ) → Held held d → Holds held (Narrows o d f n)
  pub make_holds : (f n : ℕ) (y z : Diagram) → Held held y → Held held z → Holds held (Makes o f n y z)
  pub join_holds : (d e : Diagram) → Held held d → Held held e → Holds held (Joins o d e)
  pub choose_holds : (f n : ℕ) (y z : Diagram) → Held held y → Held held z → Holds held (Chooses o f n y z)
  pub prefix_holds : (s : Action) (w : ℕ) (d : Diagram) → Held held d → Holds held (Prefixes o s w d)
  pub sequence_holds : (d e : Diagram) → Held held d → Held held e → Holds held (Sequences o e d)
  pub negate_holds : (d : Diagram) → Held held d → Holds held (Negates o d)
  pub star_holds : (d : Diagram) → Held held d → Holds held (Stars o d)
  pub compile_holds : (p : Policy) → Holds held (Compiled o p)

abbrev pub RequestsSuffice : Type 0
RequestsSuffice = (o : Ops) (held : List Request) → NothingMissing o held
