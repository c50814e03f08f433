use Rattle.checking.proofs.checked.CheckedPolicy.words.Goals as goal

pub returns-clause-legal : goal.returns-clause-legal
returns-clause-legal c = rw c.as_slice.ensures.value c.args.self.now.legal
