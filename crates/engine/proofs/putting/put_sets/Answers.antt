use Rattle.std.proofs.Common.{ℕ, List, ◌+◌, drop, subst, sym, arith}
use Rattle.engine.specs.declared.sheet.Sheet.{Sheet}
use Rattle.engine.specs.Listing.{set_words}
use Rattle.engine.proofs.InTurn.{Putting, pushed, putting_start, putting_room, putting_more, putting_end, set_is, set_is_not, no_more_sets}
use Rattle.engine.proofs.putting.put_sets.Goals.{in-Some, in_default}
use Rattle.engine.proofs.putting.put_sets.Goals as goal

pub fields-init : goal.fields-init
fields-init c = putting_start _ _

pub push-requires : goal.push-requires
push-requires c = let r = putting_room c.fields.invariant (set_is c.args.kept.now.sets c.fields.field (omega (arith, c.fields-test.true, c.args.kept.now.whole)) c.in-Some.is) c.requires in omega (arith, r)

pub fields-preserved : goal.fields-preserved
fields-preserved c = elim c.match-kept-field.branch [
  | in-Some w ↦
      subst (λ (x : Sheet). Putting c.args.sheet.now (set_words 0 c.args.kept.now.sets) (set_words (c.fields.field + 1) (drop (c.fields.field + 1) c.args.kept.now.sets)) 0 x) (sym w.sheet-is)
      (putting_more c.fields.invariant (set_is c.args.kept.now.sets c.fields.field (omega (arith, c.fields-test.true, c.args.kept.now.whole)) w.in-Some.is)
      (pushed {s' = w.push.new.self} w.from.ensures w.push.ensures.written w.push.ensures.rows w.push.ensures.lender))
  | in_default w ↦
      subst (λ (x : Sheet). Putting c.args.sheet.now (set_words 0 c.args.kept.now.sets) (set_words (c.fields.field + 1) (drop (c.fields.field + 1) c.args.kept.now.sets)) 0 x) (sym w.sheet-is)
      (subst (λ (l : List ℕ). Putting c.args.sheet.now (set_words 0 c.args.kept.now.sets) l 0 c.fields.sheet) (set_is_not c.args.kept.now.sets c.fields.field (omega (arith, c.fields-test.true, c.args.kept.now.whole)) w.in_default.is) c.fields.invariant)
]

pub returns : goal.returns
returns c = putting_end c.fields.invariant (no_more_sets c.args.kept.now.sets c.fields.field (omega (arith, c.fields-test.false, c.args.kept.now.whole)))
