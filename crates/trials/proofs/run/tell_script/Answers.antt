use Rattle.std.proofs.Common.{◌≡◌, length, sym, ◌∙◌, arith, length-take}
use Rattle.pages.proofs.Saying.{printed}
use Rattle.trials.specs.Trials.{calls_limit}
use Rattle.trials.proofs.Reading.{Read, calls_read}
use Rattle.trials.proofs.run.tell_script.Goals as goal

pub slice_bounds-calls-end : goal.slice_bounds-calls-end
slice_bounds-calls-end g c =
    let long : length c.read_calls-count.new.calls ≡ calls_limit = omega arith in
    let read = calls_read c.requires.ready long c.read_calls-count.ensures in
    omega (arith, read.few)

pub slice_bounds-calls-end-2 : goal.slice_bounds-calls-end-2
slice_bounds-calls-end-2 g c =
    let long : length c.read_calls-count.new.calls ≡ calls_limit = omega arith in
    let read = calls_read c.requires.ready long c.read_calls-count.ensures in
    omega (arith, long, read.few, length-take c.read_calls-count.result c.read_calls-count.new.calls)

pub print_calls-requires : goal.print_calls-requires
print_calls-requires g c =
    let long : length c.read_calls-count.new.calls ≡ calls_limit = omega arith in
    let read = calls_read c.requires.ready long c.read_calls-count.ensures in
    record {
      few = omega (arith, read.few, length-take c.read_calls-count.result c.read_calls-count.new.calls);
      written = read.roomy;
      in_force = c.requires.in_force;
    }

pub returns : goal.returns
returns g c =
    let long : length c.read_calls-count.new.calls ≡ calls_limit = omega arith in
    let read = calls_read c.requires.ready long c.read_calls-count.ensures in
    let told = c.print_calls.ensures in
    let out = c.out-1.given.1.1 (sym (told.2.lender ∙ c.new-page.ensures.lender)) ∙ c.finish.ensures.memory in (
      told.0,
      record { calls = _; read = read.said; tells = told.1 },
      printed c.new-page.ensures.said c.new-page.ensures.memory told.2 c.finish.ensures.answer (sym out),
    )
