use Rattle.std.proofs.Common.{◌≡◌, ◌++◌, length, take, drop, subst, arith}
use Rattle.std.proofs.lemmas.List.{length-take-le}
use Rattle.grammar.specs.Reading.{Answers, room_in}
use Rattle.grammar.proofs.Whole.{answers_within}
use Rattle.grammar.proofs.reader.parse.Goals as goal

pub returns : goal.returns
returns c =
    let out = c.args.out.now in
    let is = c.parse_into.new.memory in
    let fits = length-take-le c.min-room.result out (omega arith) in
    let room : c.min-room.result ≡ room_in (length out) = omega arith in
    subst (λ r. Answers c.args.text.now r c.parse_into.result out (is ++ drop c.min-room.result out)) room
    (answers_within c.args.text.now out is c.min-room.result c.parse_into.result (omega arith)
    (subst (λ r. Answers c.args.text.now r c.parse_into.result (take c.min-room.result out) is) fits c.parse_into.ensures))
