use Rattle.std.proofs.Common.{◌++◌, ◌∷◌, [], Some, option_map, sym, ◌∙◌, subst}
use Rattle.std.specs.declared.cmp.Ordering.TheVariants.{Less, Equal, Greater}
use Rattle.tables.specs.Emits.{Sent}
use Rattle.tables.specs.Scans.{NextSent, sent_of}
use Rattle.tables.proofs.Order.{compared}
use Rattle.tables.proofs.Best.{skipped, taken_first, taken_lesser, passed, joined}
use Rattle.tables.proofs.forward.take_in.Goals as goal

pub returns-then-not-comes_after : goal.returns-then-not-comes_after
returns-then-not-comes_after g c xs h =
    skipped g.K.WeightKind.ops (option_map (λ s. s.now.values) c.args.last) xs (sent_of c.args.sent.now) (option_map sent_of c.args.best.now) h
    (sym c.comes_after.ensures ∙ c.if-not-comes_after.true)

pub returns-in-None : goal.returns-in-None
returns-in-None g c xs h =
    let o = g.K.WeightKind.ops in
    let last = option_map (λ s. s.now.values) c.args.last in
    let x = sent_of c.args.sent.now in
    let n = rw c.in-None.is at h in
    subst (λ (y : Sent). NextSent o last (xs ++ (x ∷ [])) (Some y)) (sym c.first.ensures)
    (taken_first o last xs x n (sym c.comes_after.ensures ∙ c.if-not-comes_after.false))

pub returns-in-Less : goal.returns-in-Less
returns-in-Less g c xs h =
    let o = g.K.WeightKind.ops in
    let last = option_map (λ s. s.now.values) c.args.last in
    let x = sent_of c.args.sent.now in
    let n = rw c.in-Some.is at h in
    let r = compared x.frame c.in-Some.found.frame.values Less (sym c.in-Less.ensures) in
    subst (λ (y : Sent). NextSent o last (xs ++ (x ∷ [])) (Some y)) (sym c.first-in-Less.ensures)
    (taken_lesser o last xs (sent_of c.in-Some.found) x n r.0 (sym c.comes_after.ensures ∙ c.if-not-comes_after.false))

pub returns-in-Equal : goal.returns-in-Equal
returns-in-Equal g c xs h =
    let n = rw c.in-Some.is at h in
    let r = compared c.args.sent.now.frame.values c.in-Some.found.frame.values Equal (sym c.in-Equal.ensures) in
    joined g.K.WeightKind.ops (option_map (λ s. s.now.values) c.args.last) xs (sent_of c.in-Some.found) (sent_of c.args.sent.now) c.join-found.result n
    c.join-found.ensures.value r.1

pub returns-in-Greater : goal.returns-in-Greater
returns-in-Greater g c xs h =
    let n = rw c.in-Some.is at h in
    let r = compared c.args.sent.now.frame.values c.in-Some.found.frame.values Greater (sym c.in-Greater.ensures) in
    passed g.K.WeightKind.ops (option_map (λ s. s.now.values) c.args.last) xs (sent_of c.in-Some.found) (sent_of c.args.sent.now) n (λ _. r.0) r.1
