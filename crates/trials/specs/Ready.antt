-- A script whose calls can be performed. Only private contracts cite this.
use Rattle.std.specs.Prelude.{◌≡◌, ℕ, ◌≤◌, List, length, Ok}
use Rattle.scripts.specs.Lines.{Asked}
use Rattle.scripts.specs.Scripts.{script_said, frames_of, rooms_of}
use Rattle.trials.specs.Trials.{calls_limit}

-- its calls are few enough, these are the words of their frames, and there is room for what they forward
pub record Ready (script frames : List ℕ) (room : ℕ) : Type 0 where
  pub asks : List Asked
  pub said : script_said script ≡ Ok asks
  pub frames_first : frames ≡ frames_of asks
  pub few : length asks ≤ calls_limit
  pub roomy : rooms_of asks ≤ room
