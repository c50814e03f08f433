use Rattle.pages.proofs.Saying.{◌>>◌, says_of_eq}
use Rattle.reports.proofs.print_setting.Goals as goal

pub returns : goal.returns
returns c = says_of_eq c.field_name.ensures c.push_str.ensures >> c.push_str-2.ensures >> c.print.ensures
