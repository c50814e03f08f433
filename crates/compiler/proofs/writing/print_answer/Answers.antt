use Rattle.std.proofs.Common.{Ok, Err, refl, ap, arith}
use Rattle.faults.specs.Lines.{refused_line}
use Rattle.compiler.specs.Texts.{bytes_of_words}
use Rattle.compiler.proofs.Lengths.{short_table, short_line}
use Rattle.compiler.proofs.writing.print_answer.Goals as goal

pub returns-in-Ok : goal.returns-in-Ok
returns-in-Ok g c =
    let given = c.in-Ok.ensures in
    record { bytes = bytes_of_words given.0; compiled = (Ok given.0, given.1, refl); short = short_table given.1; says = given.2 }

pub returns-in-Err : goal.returns-in-Err
returns-in-Err g c =
    let s = c.from.result in
    record {
      bytes = refused_line s;
      compiled = (Err c.in-Err.fault, c.in-Err.ensures.0, ap refused_line c.from.ensures);
      short = short_line s (omega arith) (omega arith) (omega arith);
      says = rw c.in-Err.ensures.1 at c.print.ensures;
    }
