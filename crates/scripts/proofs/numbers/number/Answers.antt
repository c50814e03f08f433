use Rattle.std.proofs.Common.{rules, tests}
use Rattle.std.proofs.lemmas.Iterator.{YieldsList-from_slice}
use Rattle.std.proofs.lemmas.Iterator.Search.{all_from_yields_List}
use Rattle.std.proofs.lemmas.Bool.Decides.{nat_tests}
use Rattle.std.proofs.Common.{arith}
use Rattle.scripts.specs.Numbers.{is_digit}
use Rattle.scripts.proofs.numbers.number.Goals as goal

pub returns : goal.returns
returns c =
    let all = all_from_yields_List is_digit _ _ c.all.result c.all.ensures.ran (YieldsList-from_slice c.args.digits.now (cc)) (λ x b q k. search (rules, tests)) in
    grind (arith, nat_tests, all, c.decimal.ensures)
