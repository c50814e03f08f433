use Rattle.std.proofs.Common.{◌≡◌, ◌+◌, ◌%◌, ◌∷◌, [], decimal, arith, sym}
use Rattle.std.proofs.lemmas.Fmt.{decimal_digit, decimal_step}
use Rattle.pages.proofs.Saying.{◌>>◌, says_of_eq}
use Rattle.numerals.proofs.DecimalPrint.+print.Goals as goal
use Rattle.numerals.proofs.DecimalPrint.+print.Goals.{then-self-ge10, else-self-ge10}

pub print-requires : goal.print-requires
print-requires t c =
    let measure : c.args.self.now.0 ≡ t = c.decreases in (omega arith, tt)

pub returns : goal.returns
returns t c =
    let n = c.args.self.now.0
    in elim c.if-self-ge10.branch [
      | then-self-ge10 w ↦
          says_of_eq (sym (decimal_step n w.if-self-ge10.true (omega arith))) (w.print.ensures >> (rw w.page-is at c.push.ensures))
      | else-self-ge10 w ↦
          let small : n % 10 ≡ n = omega arith
          in let digit : (48 + n % 10) ∷ [] ≡ decimal n = rw small (sym (decimal_digit n w.if-self-ge10.false))
          in says_of_eq digit (rw w.page-is at c.push.ensures)
    ]
