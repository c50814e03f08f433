use Rattle.std.proofs.Common.{◌≡◌, true, false, sym, ◌∙◌, rules, arith, tests}
use Rattle.std.proofs.lemmas.Iterator.{IsFirst-from_position, YieldsList-from_slice}
use Rattle.tables.specs.Scans.{closes}
use Rattle.tables.proofs.Scans.{body_first, body_within}
use Rattle.tables.proofs.lookup.body_length.Goals as goal

pub returns : goal.returns
returns c =
    let ws = c.args.words.now in
    let e = body_first ws c.position.result (IsFirst-from_position _ _ c.position.result (λ w. closes w ≡ true) (λ w. closes w ≡ false) c.position.ensures.ran (YieldsList-from_slice ws cc) (λ x q k. search (rules, tests)) (λ x q k. search (rules, tests))) in
    let l = body_within ws in
    (c.unwrap_or.ensures ∙ sym e, omega arith)
