-- What sound stores hold. Assumes nothing.
use Rattle.std.proofs.Common.{◌≡◌, ℕ, Some, Option, ap, ◌∙◌, arith}
use Rattle.weights.specs.Weights.{Ops, Laws}
use Rattle.weights.specs.Order.{In}
use Rattle.meaning.specs.Diagrams.{Diagram, Formed, weigh}
use Rattle.meaning.specs.Frames.{Spare}
use Rattle.meaning.specs.Meanings.{Alike}
use Rattle.meaning.proofs.Canonical.{same_weights_same}
use Rattle.requests.specs.Claims.{Held}
use Rattle.stored.specs.Stored.{diagram, Has}
use Rattle.stored.proofs.Growth.{one_word, all_inside, records_more, diagram_formed as formed_of}
use Rattle.stored.proofs.Counting.{contents, in_contents, few_contents}
use Rattle.steps.specs.States.{State}
use Rattle.steps.specs.Sound.{SoundStores}
use Rattle.steps.proofs.Names.{names, length_names, held_named}

pub diagram_formed : (o : Ops) (s : State) → SoundStores o s → (w : ℕ) (d : Diagram) → diagram s.stored w ≡ Some d → Formed o d
diagram_formed o s h w d e = formed_of s.rooms s.stored h.whole h.formed w d e

all_held : (o : Ops) (s : State) → SoundStores o s → (w : ℕ) (d : Diagram) → diagram s.stored w ≡ Some d → Held (contents s.stored) d
all_held o s h w d e = records_more (Has s.stored) (λ q. In q (contents s.stored)) (in_contents s.stored) d (all_inside s.rooms s.stored h.whole w d e)

-- so few records are in store that no field has all of its values named
pub spare_names : (o : Ops) (s : State) → SoundStores o s → Spare (names (contents s.stored))
spare_names o s h f l = let a = length_names (contents s.stored) f in let b = few_contents s.rooms s.stored h.whole h.few in omega (arith, a, b)

-- held diagrams of equal weights have one word
pub one_word_for_equal :
    {o : Ops} → Laws o → (s : State) → SoundStores o s → (v w : ℕ) (d e : Diagram) →
    diagram s.stored v ≡ Some d → diagram s.stored w ≡ Some e → Alike (weigh o d) (weigh o e) → v ≡ w
one_word_for_equal {o} L s h v w d e p q a =
    one_word s.rooms s.stored h.whole v w e (p ∙ ap {B = Option Diagram} Some same) q
  where
    same : d ≡ e
    same =
        same_weights_same (names (contents s.stored)) (spare_names o s h) L d e (diagram_formed o s h v d p) (diagram_formed o s h w e q)
        (held_named (contents s.stored) d (all_held o s h v d p)) (held_named (contents s.stored) e (all_held o s h w e q)) a
