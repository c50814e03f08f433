-- What holds of policies and diagrams, for every lawful weight kind.
use Rattle.std.specs.Prelude.{◌≡◌, List, ◌≢◌, ℕ, suc, ◌<◌, ◌≤◌, ◌+◌, length, get_or}
use Rattle.format.specs.Fields.{fields, LegalValue}
use Rattle.format.specs.Limits.{words_limit}
use Rattle.format.specs.Actions.{apply}
use Rattle.format.specs.Policy.{Policy, postfix, Predicate, Legal}
use Rattle.weights.specs.Weights.{Ops, Laws, Weight}
use Rattle.meaning.specs.Leaves.{Action, Frame, ActionFormed}
use Rattle.meaning.specs.Diagrams.{Diagram, weigh, narrow, make, Tests, After, Formed, extent}
use Rattle.meaning.specs.Constructions.{join, choose, prefix, sequence, negate, round, Compiles}
use Rattle.meaning.specs.Frames.{Spare, Named, ToldApart}
use Rattle.meaning.specs.Meanings.{Meaning, Everywhere, Alike, IsUnion, IsSequence, IsNot, IsStar, Means}

-- a legal policy within the limit of words
pub record Sound (p : Policy) : Type 0 where
  pub legal : Legal p
  pub short : length (postfix p) ≤ words_limit

-- there is a meaning, and every other is the same on frames in range
abbrev pub OneMeaning : Type 0
OneMeaning =
    (o : Ops) → Laws o → (p : Policy) → Legal p → (m : Meaning) × Means o p m × ((n : Meaning) → Means o p n → Alike m n)

-- narrowing by (f, n) keeps the weights of the frames whose field f holds n
pub record Narrowed (o : Ops) (d : Diagram) (f n : ℕ) : Type 0 where
  pub formed : Formed o (narrow o d f n)
  pub weighs : (s t : Frame) → get_or s f 0 ≡ n → weigh o (narrow o d f n) s t ≡ weigh o d s t
  pub no_larger : extent (narrow o d f n) ≤ extent d

abbrev pub NarrowKeeps : Type 0
NarrowKeeps = (o : Ops) → Laws o → (d : Diagram) → Formed o d → (f n : ℕ) → Narrowed o d f n

-- make gives the yes side's weights where field f holds n, else the no side's
pub record Made (o : Ops) (f n : ℕ) (y z : Diagram) : Type 0 where
  pub formed : Formed o (make o f n y z)
  pub weighs_yes : (s t : Frame) → get_or s f 0 ≡ n → weigh o (make o f n y z) s t ≡ weigh o y s t
  pub weighs_no : (s t : Frame) → get_or s f 0 ≢ n → weigh o (make o f n y z) s t ≡ weigh o z s t
  pub no_larger : extent (make o f n y z) ≤ 1 + (extent y + extent z)

-- the yes side tests no earlier field, the no side only later tests
abbrev pub MakeKeeps : Type 0
MakeKeeps =
    (o : Ops) →
    Laws o →
    (f n : ℕ) →
    f < fields →
    LegalValue f n →
    (y z : Diagram) →
    Formed o y →
    Formed o z →
    Tests (λ g m. f ≤ g) y →
    Tests (After f n) z →
    Made o f n y z

-- two formed diagrams that differ, with fewer names in each field than the field has values, are told apart by frames
abbrev pub Canonical : Type 0
Canonical =
    (o : Ops) →
    Laws o →
    (names : ℕ → List ℕ) →
    Spare names →
    (d e : Diagram) →
    Formed o d →
    Formed o e →
    Named names d →
    Named names e →
    d ≢ e →
    ToldApart o d e

abbrev pub JoinIsUnion : Type 0
JoinIsUnion =
    (o : Ops) →
    Laws o →
    (d e : Diagram) →
    Formed o d →
    Formed o e →
    Formed o (join o d e) × IsUnion o (weigh o d) (weigh o e) (weigh o (join o d e))

-- y where field f holds n, else z
pub record Chooses (o : Ops) (f n : ℕ) (y z : Diagram) : Type 0 where
  pub formed : Formed o (choose o f n y z)
  pub weighs_yes : (s t : Frame) → get_or s f 0 ≡ n → weigh o (choose o f n y z) s t ≡ weigh o y s t
  pub weighs_no : (s t : Frame) → get_or s f 0 ≢ n → weigh o (choose o f n y z) s t ≡ weigh o z s t

abbrev pub ChooseIsChoice : Type 0
ChooseIsChoice =
    (o : Ops) →
    Laws o →
    (f n : ℕ) →
    f < fields →
    LegalValue f n →
    (y z : Diagram) →
    Formed o y →
    Formed o z →
    Chooses o f n y z

-- w times what the diagram gives to the frame that the action makes
abbrev pub PrefixGoesBefore : Type 0
PrefixGoesBefore =
    (o : Ops) →
    Laws o →
    (a : Action) →
    ActionFormed a →
    (w : ℕ) →
    Weight o w →
    (d : Diagram) →
    Formed o d →
    Formed o (prefix o a w d) × Everywhere (λ s t. weigh o (prefix o a w d) s t ≡ o.times w (weigh o d (apply a s) t))

abbrev pub SequenceIsSequence : Type 0
SequenceIsSequence =
    (o : Ops) →
    Laws o →
    (d e : Diagram) →
    Formed o d →
    Formed o e →
    Formed o (sequence o d e) × IsSequence o (weigh o d) (weigh o e) (weigh o (sequence o d e))

-- of the diagram of a predicate
abbrev pub NegateIsNot : Type 0
NegateIsNot =
    (o : Ops) →
    Laws o →
    (p : Policy) →
    Legal p →
    Predicate p →
    (d : Diagram) →
    Compiles o p d →
    Formed o (negate o d) × IsNot o (weigh o d) (weigh o (negate o d))

-- some round is repeated by the next, and each such round is the star
pub record Stars (o : Ops) (d : Diagram) : Type 0 where
  pub ends : (k : ℕ) × (round o d k ≡ round o d (suc k))
  pub formed : (k : ℕ) → Formed o (round o d k)
  pub star : (k : ℕ) → round o d k ≡ round o d (suc k) → IsStar o (weigh o d) (weigh o (round o d k))

abbrev pub StarEnds : Type 0
StarEnds = (o : Ops) → Laws o → (d : Diagram) → Formed o d → Stars o d

-- the one diagram of the policy is formed and gives what the policy means
pub record DiagramOf (o : Ops) (p : Policy) (d : Diagram) : Type 0 where
  pub compiles : Compiles o p d
  pub only_one : (e : Diagram) → Compiles o p e → d ≡ e
  pub formed : Formed o d
  pub means : Means o p (weigh o d)

abbrev pub DiagramsGiveMeanings : Type 0
DiagramsGiveMeanings = (o : Ops) → Laws o → (p : Policy) → Legal p → (d : Diagram) × DiagramOf o p d

-- what the two policies mean is the same
abbrev pub SameMeaning : Ops → Policy → Policy → Type 0
SameMeaning o p q = (a b : Meaning) → Means o p a → Means o q b → Alike a b

-- policies mean the same exactly if their diagrams are the same
pub record SameExactly (o : Ops) (p q : Policy) (d e : Diagram) : Type 0 where
  pub same_diagram : SameMeaning o p q → d ≡ e
  pub same_meaning : d ≡ e → SameMeaning o p q
  -- and otherwise frames tell them apart
  pub told_apart : d ≢ e → ToldApart o d e

abbrev pub DiagramsDecide : Type 0
DiagramsDecide =
    (o : Ops) →
    Laws o →
    (p q : Policy) →
    Sound p →
    Sound q →
    (d e : Diagram) →
    Compiles o p d →
    Compiles o q e →
    SameExactly o p q d e
