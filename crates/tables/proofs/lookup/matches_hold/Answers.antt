use Rattle.std.proofs.Common.{rules, tests, ◌∙◌}
use Rattle.std.proofs.lemmas.Iterator.{YieldsList-from_slice}
use Rattle.std.proofs.lemmas.Iterator.Search.{all_from_yields_List}
use Rattle.tables.specs.Scans.{match_holds}
use Rattle.tables.proofs.Scans.{all_hold}
use Rattle.tables.proofs.lookup.matches_hold.Goals as goal

pub returns : goal.returns
returns c =
    all_from_yields_List (λ w. match_holds w c.args.frame.now.values) _ _ _ c.all.ensures.ran (YieldsList-from_slice c.args.matches.now cc) (λ x b q k. search (rules, tests)) ∙
    all_hold c.args.matches.now c.args.frame.now.values
