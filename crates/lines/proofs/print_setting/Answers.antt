use Rattle.std.proofs.Common.{decimal, ap, ◌∙◌}
use Rattle.format.specs.Fields.{field_name}
use Rattle.pages.proofs.Saying.{◌>>◌, says_of_eq}
use Rattle.lines.proofs.print_setting.Goals as goal

pub returns : goal.returns
returns c =
    let (kind, field, value) = c.from-word.ensures
    in let name = c.field_name.ensures ∙ ap field_name field
    in c.push_str.ensures
    >> says_of_eq name c.push_str-2.ensures
    >> c.push_str-3.ensures
    >> says_of_eq (ap decimal value) c.print.ensures
