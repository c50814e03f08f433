use Rattle.std.proofs.Common.{rules, tests, bytes_eq, sym, ◌∙◌}
use Rattle.std.proofs.lemmas.Iterator.{YieldsList-from_range}
use Rattle.std.proofs.lemmas.Iterator.Adapters.{option_map_id}
use Rattle.std.proofs.lemmas.Iterator.Search.{find_from_yields_List}
use Rattle.format.specs.Fields.{field_name}
use Rattle.tokens.proofs.symbols.field_of.Goals as goal

pub returns : goal.returns
returns c =
    sym (option_map_id c.find.result) ∙
    find_from_yields_List (λ field. bytes_eq c.args.word.now (field_name field)) _ _ c.find.result c.find.ensures.ran
    (YieldsList-from_range 0 8 8 (cc) (cc)) (λ x b q k. search (rules, tests))
