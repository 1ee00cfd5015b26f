use Rattle.std.proofs.Common.{◌∙◌, ap, sym}
use Rattle.std.specs.Arc.{arc_value}
use Rattle.std.specs.Prelude.{◌≡◌, None}
use Rattle.line_form.specs.Lines.{line_view}
use Rattle.series_tables.specs.Plan.{item_with_name}
use Rattle.input_rules.specs.declared.lines.Cause.TheVariants.{Unknown}
use Rattle.accounts_history.specs.History.{IsLawful, journal}
use Rattle.node_compile.specs.Table.{Table, table_in}
use Rattle.office.specs.Calls.{ShowsTable}
use Rattle.office.proofs.Seen.{made_sent}
use Rattle.release_print.specs.Release.{node_text}
use Rattle.compile_workers.specs.Served.{inputs_in, item_block}
use Rattle.compile_workers.proofs.Journals.{known_grows}
use Rattle.compile_workers.proofs.LineAnswers.{item_is, serve_item, serve_refusal, refused_item}
use Rattle.compile_workers.proofs.Shown.{at_ok}
use Rattle.compile_workers.proofs.Waiting.{answers_nothing}
use Rattle.compile_workers.proofs.service.serve_item.Goals as goal

-- the name is unknown
pub returns-in_default-clause-answers : goal.returns-in_default-clause-answers
returns-in_default-clause-answers g c =
    let none : item_with_name c.args.service.now.plan.now c.args.name.now ≡ None =
    sym c.find.ensures.item ∙ c.in_default.is in
    serve_refusal c.args.service.now.plan.now c.args.progress.pass.party (line_view c.args.line.now)
    c.args.answers.now.items c.say_refused-said.new.answers.items c.args.progress.own
    c.args.progress.pass.seen c.say_refused-said.result Unknown
    (refused_item c.args.service.now.plan.now (line_view c.args.line.now) c.args.name.now c.requires.asks none)
    c.say_refused-said.ensures

pub returns-in_default-read-clause-known : goal.returns-in_default-read-clause-known
returns-in_default-read-clause-known g c =
    known_grows c.args.progress.pass.party c.args.progress.own c.args.progress.pass.seen c.read-pass.result.0.seen
    (made_sent c.args.progress.pass.party c.args.progress.pass.seen c.read-pass.result.0.seen
    c.read-pass.ensures.nothing)
    c.requires.serving.known

pub returns-in_default-read-clause-answers : goal.returns-in_default-read-clause-answers
returns-in_default-read-clause-answers g c =
    let seen = c.read-pass.result.0.seen in
    let lawful : IsLawful c.args.service.now.plan.now seen =
    c.read-pass.ensures.pass.1 c.args.service.now.plan.now
    (c.read-pass.ensures.pass.0.2 ∙ c.requires.serving.label) in
    answers_nothing c.args.service.now.plan.now c.args.progress.pass.party (line_view c.args.line.now)
    c.args.answers.now.items c.args.progress.own c.args.progress.pass.seen seen _ lawful
    (made_sent c.args.progress.pass.party c.args.progress.pass.seen seen c.read-pass.ensures.nothing)

pub returns-clause-known : goal.returns-clause-known
returns-clause-known g c =
    known_grows c.args.progress.pass.party c.args.progress.own c.args.progress.pass.seen c.read-pass.result.0.seen
    (made_sent c.args.progress.pass.party c.args.progress.pass.seen c.read-pass.result.0.seen
    c.read-pass.ensures.nothing)
    c.requires.serving.known

pub returns-clause-answers : goal.returns-clause-answers
returns-clause-answers g c =
    let seen = c.read-pass.result.0.seen in
    let lawful : IsLawful c.args.service.now.plan.now seen =
    c.read-pass.ensures.pass.1 c.args.service.now.plan.now
    (c.read-pass.ensures.pass.0.2 ∙ c.requires.serving.label) in
    let table : Table = table_in (arc_value c.in-Ok.table) in
    let shows : ShowsTable c.read-pass.result.0 c.in-Some.item c.in-Ok.front table =
    at_ok (λ shown. ShowsTable c.read-pass.result.0 c.in-Some.item shown.0 (table_in (arc_value shown.1)))
    c.read-pass.result.1 (c.in-Ok.front, c.in-Ok.table) c.in-Ok.is c.read-pass.ensures.table in
    let label = c.read-pass.ensures.pass.0.2 ∙ c.requires.serving.label in
    let text : node_text c.args.service.now.plan.now c.in-Ok.front c.in-Some.item (table_in c.deref.result.now)
    ≡ item_block c.args.service.now.plan.now (inputs_in (journal seen)) c.in-Ok.front c.in-Some.item =
    ap (node_text c.args.service.now.plan.now c.in-Ok.front c.in-Some.item) (ap table_in c.deref.ensures)
    ∙ item_is c.args.service.now.plan.now c.read-pass.result.0 c.in-Some.item c.in-Ok.front table label shows in
    serve_item c.args.service.now.plan.now c.args.progress.pass.party (line_view c.args.line.now)
    c.args.answers.now.items c.print_node-said.new.out.items c.args.progress.own c.args.progress.pass.seen seen
    c.print_node-said.result c.args.name.now c.in-Some.item c.in-Ok.front lawful c.read-pass.ensures.nothing
    c.requires.asks (sym c.find.ensures.item ∙ c.in-Some.is) shows.0 (rw text at c.print_node-said.ensures)
