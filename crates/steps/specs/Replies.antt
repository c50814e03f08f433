-- In every state that a chain of steps reaches, each call has a reply, and only one refusal if it has any.
use Rattle.std.specs.Prelude.{◌≡◌, List}
use Rattle.format.specs.Policy.{Policy}
use Rattle.checking.specs.Checking.{Accepted}
use Rattle.weights.specs.Weights.{Ops, Laws}
use Rattle.faults.specs.declared.layers.BenchFault.{BenchFault}
use Rattle.counts.specs.declared.memory.Sizes.{Sizes}
use Rattle.counts.specs.Memory.{AllFit}
use Rattle.steps.specs.States.{State, opened}
use Rattle.steps.specs.Steps.{Call, Compile, Union, Sequence, Star, Install, Forward, Reply, Refused, Refuses, Step, Run}

-- what is compiled are a policy's words; any other call can be made
abbrev pub Possible : Call → Type 0
Possible (Compile ws) = (p : Policy) × Accepted ws p
Possible (Union x y) = Unit {0}
Possible (Sequence x y) = Unit {0}
Possible (Star x) = Unit {0}
Possible (Install x) = Unit {0}
Possible (Forward ws n) = Unit {0}

pub record Decided (o : Ops) (s : State) : Type 0 where
  -- the bench is never stuck
  pub some_step : (c : Call) → Possible c → (r : Reply) × (s' : State) × Step o s c r s'
  -- two different refusals never hold of one call
  pub one_refusal : (c : Call) (f g : BenchFault) → Refuses o s c f → Refuses o s c g → f ≡ g
  -- what a refusal holds of is not accepted
  pub not_both : (c : Call) (r : Reply) (s' : State) (f : BenchFault) → Step o s c r s' → Refuses o s c f → r ≡ Refused f

abbrev pub EveryCallIsDecided : Type 0
EveryCallIsDecided =
    (o : Ops) → Laws o → (z : Sizes) → AllFit z → (cs : List Call) (rs : List Reply) (s : State) → Run o (opened z) cs rs s → Decided o s
