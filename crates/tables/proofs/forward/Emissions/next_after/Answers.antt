use Rattle.std.proofs.Common.{◌≡◌, ℕ, List, [], ◌∷◌, ◌++◌, Option, None, Some, Bor, option_map, ap, subst}
use Rattle.std.specs.Option.{option_copied}
use Rattle.frames.specs.declared.frame.Frame.{Frame}
use Rattle.tables.specs.Emits.{Sent}
use Rattle.tables.specs.Scans.{sends, NextSent, values_of, sent_of}
use Rattle.tables.proofs.Best.{scan_begun, scan_more, scan_done}
use Rattle.tables.proofs.forward.Emissions.next_after.Goals as goal

same_last : (r : Option (Bor Frame)) (last : Option Frame) → option_copied r ≡ last → option_map (λ s. s.now.values) r ≡ values_of last
same_last None last e = ap values_of e
same_last (Some s) last e = ap values_of e

pub loop-sent-init : goal.loop-sent-init
loop-sent-init g c =
    rw c.into_iter-sent-iterator.ensures.into_iter_gives
    (scan_begun g.K.WeightKind.ops (values_of c.args.last) (sends c.args.self.row.now c.args.self.frame.values))

pub loop-sent-preserved : goal.loop-sent-preserved
loop-sent-preserved g c =
    let o = g.K.WeightKind.ops in
    let step =
    subst (λ (l : Option (List ℕ)). (xs : List Sent) → NextSent o l xs (option_map sent_of c.loop-sent.best) →
    NextSent o l (xs ++ (sent_of c.in-Some.sent ∷ [])) (option_map sent_of c.take_in.new.best))
    (same_last c.as_ref.result c.args.last c.as_ref.ensures.value) c.take_in.ensures in
    scan_more o (values_of c.args.last) (sends c.args.self.row.now c.args.self.frame.values) _ _ (sent_of c.in-Some.sent) _ _
    c.loop-sent.invariant c.in-Some.ensures.steps step

pub returns : goal.returns
returns g c =
    scan_done g.K.WeightKind.ops (values_of c.args.last) (sends c.args.self.row.now c.args.self.frame.values) _ _
    c.loop-sent.invariant c.in-None.ensures.steps.0
