use Rattle.std.proofs.Common.{◌≢◌, ℕ, refl, arith}
use Rattle.format.specs.Words.{kind_of}
use Rattle.format.specs.PolicyWords.{bits_of}
use Rattle.format.specs.PolicyKinds.{number_of}
use Rattle.format.specs.declared.kinds.PolicyKind.{PolicyKind}
use Rattle.format.specs.declared.kinds.PolicyKind.TheVariants as kind
use Rattle.format.specs.declared.settings.PolicyWord.{PolicyWord}
use Rattle.format.specs.declared.settings.PolicyWord.TheVariants.{Drop, Pass, Test, Set, Cost, Not, Union, Sequence, Star}
use Rattle.format.proofs.PolicyWordTryFromU32.try_from.Goals as goal

-- bits whose kind's number no kind has are no policy word's
no_word : (bits : ℕ) → ((k : PolicyKind) → number_of k ≢ kind_of bits) → (w : PolicyWord) → bits_of w ≢ bits
no_word bits none Drop e = let n = none kind.Drop in omega (arith, n, e)
no_word bits none Pass e = let n = none kind.Pass in omega (arith, n, e)
no_word bits none (Test s) e = let n = none kind.Test in omega (arith, n, e, s.exists, s.legal)
no_word bits none (Set s) e = let n = none kind.Set in omega (arith, n, e, s.exists, s.legal)
no_word bits none (Cost a) e = let n = none kind.Cost in omega (arith, n, e, a.fits)
no_word bits none Not e = let n = none kind.Not in omega (arith, n, e)
no_word bits none Union e = let n = none kind.Union in omega (arith, n, e)
no_word bits none Sequence e = let n = none kind.Sequence in omega (arith, n, e)
no_word bits none Star e = let n = none kind.Star in omega (arith, n, e)

pub returns-in_default : goal.returns-in_default
returns-in_default c = (refl, λ w _. no_word c.args.bits (rw c.from-kind.ensures.0 at c.in_default.ensures.1) w)
