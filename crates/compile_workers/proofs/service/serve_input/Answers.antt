use Rattle.std.proofs.Common.{◌∙◌, subst}
use Rattle.std.specs.Prelude.{◌≡◌}
use Rattle.line_form.specs.Lines.{line_view}
use Rattle.input_rules.specs.Views.{input_view}
use Rattle.series_tables.specs.Fits.{FitsPlan}
use Rattle.series_tables.specs.Plan.{PlanShape}
use Rattle.accounts_history.specs.History.{IsLawful}
use Rattle.office.specs.Calls.{Submits}
use Rattle.office.specs.Seen.{SentOne}
use Rattle.office.specs.declared.replies.Submitted.{Submitted}
use Rattle.compile_workers.proofs.Journals.{known_grows}
use Rattle.compile_workers.proofs.LineAnswers.{serve_accepted, serve_full}
use Rattle.compile_workers.proofs.Waiting.{answers_nothing}
use Rattle.compile_workers.proofs.service.serve_input.Goals as goal

pub submit-pass-requires-clause-fits : goal.submit-pass-requires-clause-fits
submit-pass-requires-clause-fits g c κs within = λ plan is.
    let same : c.args.service.now.plan.now ≡ plan = cc (c.requires.serving.label) in
    subst (λ (p : PlanShape). FitsPlan p c.args.input) same c.requires.fits

pub returns-in-Accepted-clause-answers : goal.returns-in-Accepted-clause-answers
returns-in-Accepted-clause-answers g c =
    let seen = c.submit-pass.result.0.seen in
    let lawful : IsLawful c.args.service.now.plan.now seen =
    c.submit-pass.ensures.pass.1 c.args.service.now.plan.now
    (c.submit-pass.ensures.pass.0.2 ∙ c.requires.serving.label) in
    let one : SentOne c.args.progress.pass.party c.args.input c.in-Accepted.number c.args.progress.pass.seen seen =
    subst (λ (r : Submitted). Submits c.args.input r c.args.progress.pass c.submit-pass.result.0) c.in-Accepted.is
    c.submit-pass.ensures.reply in
    serve_accepted c.args.service.now.plan.now c.args.progress.pass.party (line_view c.args.line.now)
    c.args.answers.now.items c.say_accepted-said.new.answers.items c.args.progress.own
    c.args.progress.pass.seen seen c.say_accepted-said.result (input_view c.args.asked.now) c.args.input
    c.in-Accepted.number lawful one c.requires.asks c.requires.judged c.say_accepted-said.ensures

pub returns-in-Full-clause-known : goal.returns-in-Full-clause-known
returns-in-Full-clause-known g c =
    let reply = subst (λ (r : Submitted). Submits c.args.input r c.args.progress.pass c.submit-pass.result.0)
    c.in-Full.is
    c.submit-pass.ensures.reply in
    known_grows c.args.progress.pass.party c.args.progress.own c.args.progress.pass.seen c.submit-pass.result.0.seen
    reply.0 c.requires.serving.known

pub returns-in-Full-clause-answers : goal.returns-in-Full-clause-answers
returns-in-Full-clause-answers g c =
    let seen = c.submit-pass.result.0.seen in
    let lawful : IsLawful c.args.service.now.plan.now seen =
    c.submit-pass.ensures.pass.1 c.args.service.now.plan.now
    (c.submit-pass.ensures.pass.0.2 ∙ c.requires.serving.label) in
    let reply = subst (λ (r : Submitted). Submits c.args.input r c.args.progress.pass c.submit-pass.result.0)
    c.in-Full.is
    c.submit-pass.ensures.reply in
    serve_full c.args.service.now.plan.now c.args.progress.pass.party (line_view c.args.line.now)
    c.args.answers.now.items c.say_refused-said.new.answers.items c.args.progress.own
    c.args.progress.pass.seen seen c.say_refused-said.result (input_view c.args.asked.now) c.args.input lawful reply.0
    reply.1 c.requires.asks c.requires.judged c.say_refused-said.ensures

pub returns-in-Memory-clause-known : goal.returns-in-Memory-clause-known
returns-in-Memory-clause-known g c =
    known_grows c.args.progress.pass.party c.args.progress.own c.args.progress.pass.seen c.submit-pass.result.0.seen
    (subst (λ (r : Submitted). Submits c.args.input r c.args.progress.pass c.submit-pass.result.0) c.in-Memory.is
    c.submit-pass.ensures.reply)
    c.requires.serving.known

pub returns-in-Memory-clause-answers : goal.returns-in-Memory-clause-answers
returns-in-Memory-clause-answers g c =
    let seen = c.submit-pass.result.0.seen in
    let lawful : IsLawful c.args.service.now.plan.now seen =
    c.submit-pass.ensures.pass.1 c.args.service.now.plan.now
    (c.submit-pass.ensures.pass.0.2 ∙ c.requires.serving.label) in
    answers_nothing c.args.service.now.plan.now c.args.progress.pass.party (line_view c.args.line.now)
    c.args.answers.now.items c.args.progress.own c.args.progress.pass.seen seen _ lawful
    (subst (λ (r : Submitted). Submits c.args.input r c.args.progress.pass c.submit-pass.result.0) c.in-Memory.is
    c.submit-pass.ensures.reply)
