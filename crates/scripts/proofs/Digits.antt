-- Words digit by digit.
use Rattle.std.proofs.Common.{ℕ, ◌+◌, ◌*◌, ◌^◌, ◌<◌, ◌≤◌, arith, lit<}
use Rattle.std.proofs.Math.Nat.{pow-le-pow_right}
use Rattle.std.proofs.lemmas.Grind.{pow_more}

-- before its last digit a word has room for one more
pub room : (w i : ℕ) → w < 16 ^ i → i < 8 → w < 0x10000000
room w i h l = let most : 16 ^ i ≤ 16 ^ 7 = pow-le-pow_right {n = 16} (lit< tt) {i = i} {j = 7} (omega arith) in omega (arith, most)

pub more : (w i d : ℕ) → w < 16 ^ i → d < 16 → w * 16 + d < 16 ^ (i + 1)
more w i d h l = omega (arith, pow_more 16 i)
