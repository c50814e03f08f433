use Rattle.std.specs.Prelude.{◌≡◌, ℕ, ◌<◌, true, bit_and, nat_lt}
use Rattle.std.proofs.Common.{◌∙◌, arith}
use Rattle.std.proofs.lemmas.Nat.{and_comm, and_mask}
use Rattle.std.proofs.lemmas.Bool.{ltb-true}
use Rattle.cases_weights.specs.Ports.{sets_end, all_ports}

pub below : (a : ℕ) → nat_lt a sets_end ≡ true → a < sets_end
below a = ltb-true a sets_end

pub all_right : (a : ℕ) → nat_lt a sets_end ≡ true → bit_and a all_ports ≡ a
all_right a w = let h = below a w in let e = and_mask a 16 in omega arith

pub all_left : (a : ℕ) → nat_lt a sets_end ≡ true → bit_and all_ports a ≡ a
all_left a w = and_comm all_ports a ∙ all_right a w
