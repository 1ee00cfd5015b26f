use Rattle.std.proofs.Common.{◌∙◌, ap, List, length}
use Rattle.std.specs.Prelude.{◌≡◌}
use Rattle.line_form.specs.Lines.{line_view}
use Rattle.accounts_history.specs.History.{IsLawful, journal}
use Rattle.node_compile.specs.Release.{tables_in}
use Rattle.node_compile.specs.declared.release.Release.{Release}
use Rattle.office.specs.Calls.{ShowsRelease}
use Rattle.office.proofs.Seen.{made_sent}
use Rattle.release_print.specs.Release.{release_text}
use Rattle.compile_workers.specs.Served.{inputs_in, release_block}
use Rattle.compile_workers.proofs.Journals.{known_grows}
use Rattle.compile_workers.proofs.LineAnswers.{release_is, serve_release}
use Rattle.compile_workers.proofs.Shown.{at_ok, length-compilation}
use Rattle.compile_workers.proofs.Waiting.{answers_nothing}
use Rattle.compile_workers.proofs.service.serve_release.Goals as goal

-- the printed release has a table for each item
pub print_release-said-requires : goal.print_release-said-requires
print_release-said-requires g c =
    let shows : ShowsRelease c.read_all-pass.result.0 c.in-Ok.release.front (tables_in c.in-Ok.release) =
    at_ok (λ (r : Release). ShowsRelease c.read_all-pass.result.0 r.front (tables_in r)) c.read_all-pass.result.1
    c.in-Ok.release c.in-Ok.is c.read_all-pass.ensures.release in
    ap (λ (ts : List _). length ts)
    (shows.1 c.args.service.now.plan.now (c.read_all-pass.ensures.pass.0.2 ∙ c.requires.serving.label))
    ∙ length-compilation c.args.service.now.plan.now _

pub returns-in_default-clause-known : goal.returns-in_default-clause-known
returns-in_default-clause-known g c =
    known_grows c.args.progress.pass.party c.args.progress.own c.args.progress.pass.seen c.read_all-pass.result.0.seen
    (made_sent c.args.progress.pass.party c.args.progress.pass.seen c.read_all-pass.result.0.seen
    c.read_all-pass.ensures.nothing)
    c.requires.serving.known

pub returns-in_default-clause-answers : goal.returns-in_default-clause-answers
returns-in_default-clause-answers g c =
    let seen = c.read_all-pass.result.0.seen in
    let lawful : IsLawful c.args.service.now.plan.now seen =
    c.read_all-pass.ensures.pass.1 c.args.service.now.plan.now
    (c.read_all-pass.ensures.pass.0.2 ∙ c.requires.serving.label) in
    answers_nothing c.args.service.now.plan.now c.args.progress.pass.party (line_view c.args.line.now)
    c.args.answers.now.items c.args.progress.own c.args.progress.pass.seen seen _ lawful
    (made_sent c.args.progress.pass.party c.args.progress.pass.seen seen c.read_all-pass.ensures.nothing)

pub returns-clause-known : goal.returns-clause-known
returns-clause-known g c =
    known_grows c.args.progress.pass.party c.args.progress.own c.args.progress.pass.seen c.read_all-pass.result.0.seen
    (made_sent c.args.progress.pass.party c.args.progress.pass.seen c.read_all-pass.result.0.seen
    c.read_all-pass.ensures.nothing)
    c.requires.serving.known

pub returns-clause-answers : goal.returns-clause-answers
returns-clause-answers g c =
    let seen = c.read_all-pass.result.0.seen in
    let lawful : IsLawful c.args.service.now.plan.now seen =
    c.read_all-pass.ensures.pass.1 c.args.service.now.plan.now
    (c.read_all-pass.ensures.pass.0.2 ∙ c.requires.serving.label) in
    let shows : ShowsRelease c.read_all-pass.result.0 c.in-Ok.release.front (tables_in c.in-Ok.release) =
    at_ok (λ (r : Release). ShowsRelease c.read_all-pass.result.0 r.front (tables_in r)) c.read_all-pass.result.1
    c.in-Ok.release c.in-Ok.is c.read_all-pass.ensures.release in
    let label = c.read_all-pass.ensures.pass.0.2 ∙ c.requires.serving.label in
    let text : release_text c.args.service.now.plan.now c.in-Ok.release.front (tables_in c.in-Ok.release)
    ≡ release_block c.args.service.now.plan.now (inputs_in (journal seen)) c.in-Ok.release.front =
    release_is c.args.service.now.plan.now c.read_all-pass.result.0 c.in-Ok.release.front (tables_in c.in-Ok.release)
    label shows in
    serve_release c.args.service.now.plan.now c.args.progress.pass.party (line_view c.args.line.now)
    c.args.answers.now.items c.print_release-said.new.out.items c.args.progress.own c.args.progress.pass.seen seen
    c.print_release-said.result c.in-Ok.release.front lawful c.read_all-pass.ensures.nothing c.requires.asks shows.0
    (rw text at c.print_release-said.ensures)
