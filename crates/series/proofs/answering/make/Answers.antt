use Rattle.std.proofs.Common.{Ok, refl, ap, ◌∙◌}
use Rattle.steps.specs.Steps as bench
use Rattle.series.specs.Calls.{part_length}
use Rattle.series.proofs.Single.{answered_word, answered_install, answered_forward, answered_text}
use Rattle.series.proofs.answering.make.Goals as goal

pub returns-in-Compile : goal.returns-in-Compile
returns-in-Compile g c =
    answered_text g.K.WeightKind.ops c.args.given.now c.args.call.now c.in-Compile.text c.args.bench.now c.compile_text.result c.map.result c.args.words.now c.compile_text.new.self c.in-Compile.is c.requires
    c.map.ensures.cases c.compile_text.ensures

pub returns-in-Union : goal.returns-in-Union
returns-in-Union g c =
    answered_word g.K.WeightKind.ops c.args.given.now c.args.call.now _ c.args.bench.now c.in-Union.is c.union.result c.map-in-Union.result c.args.words.now c.union.new.self _ c.requires refl
    (λ i. Ok (bench.Union (c.word_of.ensures i) (c.word_of-in-Union.ensures i))) c.map-in-Union.ensures.cases c.union.ensures

pub returns-in-Sequence : goal.returns-in-Sequence
returns-in-Sequence g c =
    answered_word g.K.WeightKind.ops c.args.given.now c.args.call.now _ c.args.bench.now c.in-Sequence.is c.sequence.result c.map-in-Sequence.result c.args.words.now c.sequence.new.self _ c.requires refl
    (λ i. Ok (bench.Sequence (c.word_of-in-Sequence.ensures i) (c.word_of-in-Sequence-2.ensures i))) c.map-in-Sequence.ensures.cases c.sequence.ensures

pub returns-in-Star : goal.returns-in-Star
returns-in-Star g c =
    answered_word g.K.WeightKind.ops c.args.given.now c.args.call.now _ c.args.bench.now c.in-Star.is c.star.result c.map-in-Star.result c.args.words.now c.star.new.self _ c.requires refl
    (λ i. Ok (bench.Star (c.word_of-in-Star.ensures i))) c.map-in-Star.ensures.cases c.star.ensures

pub returns-in-Install : goal.returns-in-Install
returns-in-Install g c =
    answered_install g.K.WeightKind.ops c.args.given.now c.args.call.now _ c.args.bench.now c.in-Install.is c.install.result c.map-in-Install.result c.args.words.now c.install.new.self _ c.requires refl
    (λ i. Ok (bench.Install (c.word_of-in-Install.ensures i))) c.map-in-Install.ensures.cases c.install.ensures

pub returns-in-Forward : goal.returns-in-Forward
returns-in-Forward g c =
    answered_forward g.K.WeightKind.ops c.args.given.now c.args.call.now _ c.args.bench.now c.in-Forward.is c.forward.result c.map-in-Forward.result c.args.words.now c.forward.new.out _
    (ap (λ n. Ok (bench.Forward c.in-Forward.frame.now n)) (c.requires ∙ ap part_length c.in-Forward.is)) c.map-in-Forward.ensures.cases c.forward.ensures.step c.forward.ensures.past c.forward.ensures.zeros
