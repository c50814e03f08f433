-- How a person names the kinds of weights.
use Rattle.std.specs.Prelude.{ℕ, List, codes}
use Rattle.replays.specs.declared.kind.Kind.{Kind}
use Rattle.replays.specs.declared.kind.Kind.TheVariants.{Reach, Cost}

abbrev pub kind_name : Kind → List ℕ
kind_name Reach = codes "reach"
kind_name Cost = codes "cost"
