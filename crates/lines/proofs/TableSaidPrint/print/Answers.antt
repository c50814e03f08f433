use Rattle.std.proofs.Common.{◌≡◌, codes, arith}
use Rattle.std.proofs.lemmas.Grind.{common_steps}
use Rattle.tables.specs.declared.kind.TableKind.TheVariants.{Head, Match, Weight, Set, End}
use Rattle.pages.proofs.Saying.{says_of_eq}
use Rattle.lines.specs.Lines.{table_word_said}
use Rattle.lines.proofs.TableSaidPrint.print.Goals as goal

pub returns-in-Err : goal.returns-in-Err
returns-in-Err c =
    let no = c.in-Err.ensures.1
    in let unknown : codes " ?" ≡ table_word_said c.args.self.now.0 =
    grind (arith, common_steps, no Head, no Match, no Weight, no Set, no End)
    in says_of_eq unknown c.push_str.ensures
