-- A frame set field by field.
use Rattle.std.proofs.Common.{◌≡◌, ℕ, List, ◌∷◌, Some, None, sym, refl}
use Rattle.std.specs.Prelude.{slice_set}
use Rattle.scripts.specs.Forwards.{setting_said, settings_said}

pub no_setting : (s said : List ℕ) (rest : List (List ℕ)) → None ≡ setting_said said → settings_said s (said ∷ rest) ≡ None
no_setting s said rest e = rw (sym e) refl

pub a_setting : (s said : List ℕ) (rest : List (List ℕ)) (f n : ℕ) → Some (f, n) ≡ setting_said said → settings_said s (said ∷ rest) ≡ settings_said (slice_set s f n) rest
a_setting s said rest f n e = rw (sym e) refl
