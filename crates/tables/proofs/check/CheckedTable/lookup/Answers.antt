use Rattle.std.proofs.Common.{◌≡◌, Some, None, option_map, rules, tests, refl, sym, ap, ◌∙◌, arith}
use Rattle.std.specs.List.{find}
use Rattle.std.proofs.lemmas.Iterator.Consumers.{YieldsList-from_first}
use Rattle.std.proofs.lemmas.Iterator.Search.{find_from_yields_List}
use Rattle.tables.specs.Scans.{row_holds, first_row, heads_past}
use Rattle.tables.proofs.Rows.{lookup_decides}
use Rattle.tables.proofs.check.CheckedTable.lookup.Goals as goal

pub returns-in_err-row : goal.returns-in_err-row
returns-in_err-row g c rows legal e =
    let s = c.args.frame.now.values in
    let f : option_map (λ x. x.now) c.find.result ≡ find (λ ws. row_holds ws s) (heads_past 0 c.args.self.now.words.now) =
    find_from_yields_List (λ row. row_holds row s) c.find.new.self _ c.find.result c.find.ensures.ran (YieldsList-from_first (λ x. x.now) (λ r. heads_past 0 r.words.now) _ refl) (λ x b q k. search (rules, tests)) in
    let none : c.find.result ≡ None = grind arith in
    let is : c.from_residual.result ≡ None = grind arith in
    rw is (lookup_decides g.met.K.WeightKind.lawful rows s c.args.self.now.words.now None legal e (ap (option_map first_row) (ap (option_map (λ x. x.now)) (sym none) ∙ f)))

pub returns : goal.returns
returns g c rows legal e =
    let s = c.args.frame.now.values in
    let f : option_map (λ x. x.now) c.find.result ≡ find (λ ws. row_holds ws s) (heads_past 0 c.args.self.now.words.now) =
    find_from_yields_List (λ row. row_holds row s) c.find.new.self _ c.find.result c.find.ensures.ran (YieldsList-from_first (λ x. x.now) (λ r. heads_past 0 r.words.now) _ refl) (λ x b q k. search (rules, tests)) in
    let some : c.find.result ≡ Some c.in_ok-row.row = grind arith in
    lookup_decides g.met.K.WeightKind.lawful rows s c.args.self.now.words.now (Some c.first_row.result) legal e
    (ap Some c.first_row.ensures ∙ ap (option_map first_row) (ap (option_map (λ x. x.now)) (sym some) ∙ f))
