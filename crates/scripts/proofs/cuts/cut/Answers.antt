use Rattle.std.proofs.Common.{rules, tests, ◌==◌, take, drop, ap, sym, ◌∙◌, ◌+◌, arith, length-drop}
use Rattle.std.proofs.lemmas.Iterator.{YieldsList-from_slice}
use Rattle.std.proofs.lemmas.Iterator.Search.{position_from_yields_List}
use Rattle.std.proofs.lemmas.List.{take_rest}
use Rattle.scripts.proofs.Breaks.{found, absent, split_found, split_absent, before_absent, after_absent}
use Rattle.scripts.proofs.cuts.cut.Goals as goal

pub returns-in-Some : goal.returns-in-Some
returns-in-Some c =
    let place = position_from_yields_List (λ b. b == c.args.at) _ _ c.position.result c.position.ensures.ran (YieldsList-from_slice c.args.bytes.now (cc)) (λ x b q k. search (rules, tests)) in
    let h = found (λ b. b == c.args.at) c.args.bytes.now c.in-Some.place (sym c.in-Some.is ∙ place) in
    record {
      before = ap (λ n. take n c.args.bytes.now) h.0;
      after = take_rest c.args.bytes.now (c.in-Some.place + 1) ∙ ap (λ n. drop (n + 1) c.args.bytes.now) h.0;
      none_after = tt;
      shorter = rw (take_rest c.args.bytes.now (c.in-Some.place + 1)) (omega (arith, length-drop (c.in-Some.place + 1) c.args.bytes.now));
      split = rw (take_rest c.args.bytes.now (c.in-Some.place + 1), h.0) (split_found (λ b. b == c.args.at) c.args.bytes.now h.1);
    }

pub returns-in-None : goal.returns-in-None
returns-in-None c =
    let place = position_from_yields_List (λ b. b == c.args.at) _ _ c.position.result c.position.ensures.ran (YieldsList-from_slice c.args.bytes.now (cc)) (λ x b q k. search (rules, tests)) in
    let h = absent (λ b. b == c.args.at) c.args.bytes.now (sym c.in-None.is ∙ place) in
    record {
      before = sym (before_absent (λ b. b == c.args.at) c.args.bytes.now h);
      after = tt;
      none_after = after_absent (λ b. b == c.args.at) c.args.bytes.now h;
      shorter = tt;
      split = split_absent (λ b. b == c.args.at) c.args.bytes.now h;
    }
