-- Frames in range, and values among names.
use Rattle.std.specs.Prelude.{◌≡◌, ℕ, ◌<◌, ◌≢◌, List, length, slice_index}
use Rattle.format.specs.Fields.{fields, range, LegalValue}
use Rattle.weights.specs.Weights.{Ops}
use Rattle.weights.specs.Order.{In}
use Rattle.meaning.specs.Leaves.{Frame}
use Rattle.meaning.specs.Diagrams.{Diagram, Tests, Sets, weigh}

-- a value for each field, and legal
pub record InRange (s : Frame) : Type 0 where
  pub all_fields : length s ≡ fields
  pub legal : (f : ℕ) → f < fields → LegalValue f (slice_index s f)

-- for each field fewer names than the field has values
abbrev pub Spare : (ℕ → List ℕ) → Type 0
Spare names = (f : ℕ) → f < fields → length (names f) < range f

-- every value that is tested or set in a field is among the field's names
pub record Named (names : ℕ → List ℕ) (d : Diagram) : Type 0 where
  pub tests : Tests (λ f n. In n (names f)) d
  pub sets : Sets (λ f n. In n (names f)) d

-- a frame in and a frame out to which the two give different weights
pub record ToldApart (o : Ops) (d e : Diagram) : Type 0 where
  pub arriving : Frame
  pub leaving : Frame
  pub arriving_in_range : InRange arriving
  pub leaving_in_range : InRange leaving
  pub differ : weigh o d arriving leaving ≢ weigh o e arriving leaving
