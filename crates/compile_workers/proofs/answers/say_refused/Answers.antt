use Rattle.compile_workers.proofs.answers.say_refused.Goals as goal

pub returns : goal.returns
returns c = rw c.text.ensures at c.say.ensures
