use Rattle.numerals.proofs.DecimalPrint.+print.Given as goal

abbrev pub decreases-print : goal.decreases-print
decreases-print l = l.self.now.0
