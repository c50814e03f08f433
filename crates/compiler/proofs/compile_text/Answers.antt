use Rattle.std.proofs.Common.{arith}
use Rattle.compiler.proofs.Lengths.{told}
use Rattle.compiler.proofs.compile_text.Goals as goal

pub returns-in-Ok-clause-bytes : goal.returns-in-Ok-clause-bytes
returns-in-Ok-clause-bytes g c = (told c.finish.result c.print_answer.ensures c.new-page.ensures.said c.new-page.ensures.memory (omega arith) c.finish.ensures.answer c.in-Ok.is c.finish.ensures.memory).bytes

pub returns-in-Ok-clause-only : goal.returns-in-Ok-clause-only
returns-in-Ok-clause-only g c = (told c.finish.result c.print_answer.ensures c.new-page.ensures.said c.new-page.ensures.memory (omega arith) c.finish.ensures.answer c.in-Ok.is c.finish.ensures.memory).only

pub returns-in-Ok-clause-front : goal.returns-in-Ok-clause-front
returns-in-Ok-clause-front g c = (told c.finish.result c.print_answer.ensures c.new-page.ensures.said c.new-page.ensures.memory (omega arith) c.finish.ensures.answer c.in-Ok.is c.finish.ensures.memory).front

pub returns-in-Ok-clause-rest : goal.returns-in-Ok-clause-rest
returns-in-Ok-clause-rest g c = (told c.finish.result c.print_answer.ensures c.new-page.ensures.said c.new-page.ensures.memory (omega arith) c.finish.ensures.answer c.in-Ok.is c.finish.ensures.memory).rest

pub returns-in-Ok-2-clause-bytes : goal.returns-in-Ok-2-clause-bytes
returns-in-Ok-2-clause-bytes g c = (told c.finish.result c.print_answer.ensures c.new-page.ensures.said c.new-page.ensures.memory (omega arith) c.finish.ensures.answer c.in-Ok.is c.finish.ensures.memory).bytes

pub returns-in-Ok-2-clause-only : goal.returns-in-Ok-2-clause-only
returns-in-Ok-2-clause-only g c = (told c.finish.result c.print_answer.ensures c.new-page.ensures.said c.new-page.ensures.memory (omega arith) c.finish.ensures.answer c.in-Ok.is c.finish.ensures.memory).only

pub returns-in-Ok-2-clause-front : goal.returns-in-Ok-2-clause-front
returns-in-Ok-2-clause-front g c = (told c.finish.result c.print_answer.ensures c.new-page.ensures.said c.new-page.ensures.memory (omega arith) c.finish.ensures.answer c.in-Ok.is c.finish.ensures.memory).front

pub returns-in-Ok-2-clause-rest : goal.returns-in-Ok-2-clause-rest
returns-in-Ok-2-clause-rest g c = (told c.finish.result c.print_answer.ensures c.new-page.ensures.said c.new-page.ensures.memory (omega arith) c.finish.ensures.answer c.in-Ok.is c.finish.ensures.memory).rest
