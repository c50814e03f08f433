use Rattle.std.proofs.Common.{refl, arith}
use Rattle.std.proofs.lemmas.Bool.Decides.{nat_tests}
use Rattle.std.proofs.lemmas.Cmp.{same_from_slice_cmp_tested}
use Rattle.std.specs.Ordering.{nat_cmp, is_lt}
use Rattle.frames.specs.Frames.{before}
use Rattle.frames.proofs.frame.Frame.before.Goals as goal

pub returns : goal.returns
returns c =
    let told = same_from_slice_cmp_tested nat_cmp is_lt before refl (λ _ _. refl) (λ _ _. refl) (λ x y xs ys o h. grind (arith, nat_tests)) in
    told c.args.self.now.values c.args.other.now.values c.lt.result c.lt.ensures
