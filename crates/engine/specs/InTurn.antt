-- One construction after another. It serves proofs alone: what the engine promises is in Views, Listed and what they cite.
use Rattle.std.specs.Prelude.{◌≡◌, List, ◌++◌}
use Rattle.meaning.specs.Diagrams.{Diagram}
use Rattle.requests.specs.Requests.{Request}
use Rattle.requests.specs.Claims.{Construction}

-- R, and then K of what it gives
pub record Then (R : Construction) (K : Diagram → Construction) (r : Diagram) (x : List Request) : Type 0 where
  pub between : Diagram
  pub asks : List Request
  pub more : List Request
  pub first : R between asks
  pub second : K between r more
  pub whole : x ≡ asks ++ more
