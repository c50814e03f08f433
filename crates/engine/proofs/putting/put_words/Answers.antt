use Rattle.std.proofs.Common.{refl, arith}
use Rattle.std.proofs.Math.ListN.{drop_of_length-le}
use Rattle.engine.proofs.InTurn.{pushed, putting_start, putting_room, putting_more, putting_end, one_word}
use Rattle.engine.proofs.putting.put_words.Goals as goal

pub words-init : goal.words-init
words-init c = putting_start _ _

pub push-requires : goal.push-requires
push-requires c = let r = putting_room c.words.invariant (one_word c.args.words.now c.words.word-index c.words-test.true) c.requires in omega (arith, r)

pub words-preserved : goal.words-preserved
words-preserved c =
    let p = c.push.ensures in
    putting_more c.words.invariant (one_word c.args.words.now c.words.word-index c.words-test.true) (pushed {s' = c.push.new.self} refl p.written p.rows p.lender)

pub returns : goal.returns
returns c = putting_end c.words.invariant (drop_of_length-le c.args.words.now (omega (arith, c.words-test.false)))
