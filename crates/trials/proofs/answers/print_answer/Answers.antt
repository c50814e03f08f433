use Rattle.trials.proofs.answers.print_answer.Goals as goal

pub returns-in-Word : goal.returns-in-Word
returns-in-Word c = rw c.in-Word.is (c.print_word.ensures c.args.part.now)

pub returns-in-Installed : goal.returns-in-Installed
returns-in-Installed c = rw c.in-Installed.is (c.print_installed.ensures c.args.part.now)
