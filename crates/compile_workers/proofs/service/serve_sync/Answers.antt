use Rattle.std.proofs.Common.{◌∙◌, ℕ, ◌≤◌}
use Rattle.std.specs.Prelude.{◌≡◌}
use Rattle.line_form.specs.Lines.{line_view}
use Rattle.accounts_history.specs.History.{IsLawful, front_of}
use Rattle.compile_workers.proofs.Journals.{known_grows}
use Rattle.compile_workers.proofs.LineAnswers.{serve_synced}
use Rattle.compile_workers.proofs.Shown.{at_ok}
use Rattle.compile_workers.proofs.Waiting.{answers_nothing}
use Rattle.compile_workers.proofs.service.serve_sync.Goals as goal

pub returns-in-Ok-clause-known : goal.returns-in-Ok-clause-known
returns-in-Ok-clause-known g c =
    known_grows c.args.progress.pass.party c.args.progress.own c.args.progress.pass.seen c.sync-pass.result.0.seen
    c.sync-pass.ensures.nothing c.requires.serving.known

pub returns-in-Err-clause-known : goal.returns-in-Err-clause-known
returns-in-Err-clause-known g c =
    known_grows c.args.progress.pass.party c.args.progress.own c.args.progress.pass.seen c.sync-pass.result.0.seen
    c.sync-pass.ensures.nothing c.requires.serving.known

pub returns-in-Ok-clause-answers : goal.returns-in-Ok-clause-answers
returns-in-Ok-clause-answers g c =
    let seen = c.sync-pass.result.0.seen in
    let lawful : IsLawful c.args.service.now.plan.now seen =
    c.sync-pass.ensures.pass.1 c.args.service.now.plan.now
    (c.sync-pass.ensures.pass.0.2 ∙ c.requires.serving.label) in
    let front = at_ok (λ (n : ℕ). (n ≡ front_of seen) × (c.args.progress.own ≤ n)) c.sync-pass.result.1 c.in-Ok.front
    c.in-Ok.is c.sync-pass.ensures.front in
    serve_synced c.args.service.now.plan.now c.args.progress.pass.party (line_view c.args.line.now)
    c.args.answers.now.items c.say_synced-said.new.answers.items c.args.progress.own
    c.args.progress.pass.seen seen
    c.say_synced-said.result c.in-Ok.front lawful c.sync-pass.ensures.nothing c.requires.asks front.0 front.1
    c.say_synced-said.ensures

pub returns-in-Err-clause-answers : goal.returns-in-Err-clause-answers
returns-in-Err-clause-answers g c =
    let seen = c.sync-pass.result.0.seen in
    let lawful : IsLawful c.args.service.now.plan.now seen =
    c.sync-pass.ensures.pass.1 c.args.service.now.plan.now
    (c.sync-pass.ensures.pass.0.2 ∙ c.requires.serving.label) in
    answers_nothing c.args.service.now.plan.now c.args.progress.pass.party (line_view c.args.line.now)
    c.args.answers.now.items c.args.progress.own c.args.progress.pass.seen seen _ lawful
    c.sync-pass.ensures.nothing
