use Rattle.std.proofs.Common.{sym, refl, ◌∙◌}
use Rattle.grammar.proofs.Finishing.{room_to_end, finished, not_finished}
use Rattle.grammar.proofs.machine.Machine.finish.Goals as goal

pub returns-then-not-may_end-clause-finished : goal.returns-then-not-may_end-clause-finished
returns-then-not-may_end-clause-finished c = λ was ss h. (refl, not_finished h (sym c.may_end.ensures ∙ c.if-not-may_end.true))

pub end_sum-requires : goal.end_sum-requires
end_sum-requires c = room_to_end c.requires.2 (sym c.may_end.ensures ∙ c.if-not-may_end.false)

pub returns-clause-finished : goal.returns-clause-finished
returns-clause-finished c = λ was ss h. finished h (sym c.may_end.ensures ∙ c.if-not-may_end.false) c.end_sum.new.self c.end_sum.ensures.emitted
