use Rattle.line_form.specs.Lines.{line_view}
use Rattle.compile_workers.proofs.LineAnswers.{serve_refusal}
use Rattle.compile_workers.proofs.service.serve_refused.Goals as goal

pub returns-clause-answers : goal.returns-clause-answers
returns-clause-answers g c =
    serve_refusal c.args.service.now.plan.now c.args.progress.pass.party (line_view c.args.line.now)
    c.args.answers.now.items c.say_refused-said.new.answers.items c.args.progress.own
    c.args.progress.pass.seen c.say_refused-said.result c.args.cause c.requires.refused c.say_refused-said.ensures
