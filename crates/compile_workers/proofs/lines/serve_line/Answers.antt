use Rattle.std.proofs.Common.{◌∙◌, ap}
use Rattle.std.specs.Prelude.{Ok, Err}
use Rattle.line_form.specs.Lines.{line_view}
use Rattle.input_rules.specs.declared.lines.Cause.TheVariants.{Form, Long}
use Rattle.compile_workers.specs.Answering.{reached}
use Rattle.compile_workers.proofs.LineAnswers.{asks_nothing, long_fields, refused_fields}
use Rattle.compile_workers.proofs.Steps.{passed_over}
use Rattle.compile_workers.proofs.Waiting.{answers_idle, answers_over}
use Rattle.compile_workers.proofs.lines.serve_line.Goals as goal

-- a line that is passed over
pub returns-in-Ok-None-clause-answers : goal.returns-in-Ok-None-clause-answers
returns-in-Ok-None-clause-answers g c =
    let line = line_view c.args.line.now in
    answers_over c.args.service.now.plan.now c.args.progress.pass.party line
    (reached c.args.answers.now.items c.args.progress.own c.args.progress.pass.seen)
    (λ lines text s. passed_over c.args.service.now.plan.now c.args.progress.pass.party lines line text
    c.args.progress.own c.args.progress.pass.seen
    (asks_nothing c.args.service.now.plan.now line
    (c.in-Ok-None.ensures.read ∙ ap (λ o. Ok o) c.in-Ok-None.field-0-is))
    s)

pub serve_fields-requires-clause-fields : goal.serve_fields-requires-clause-fields
serve_fields-requires-clause-fields g c κs within =
    c.in-Ok-Some.ensures.read ∙ ap (λ o. Ok o) c.in-Ok-Some.field-0-is

-- a line that is long, or of which no record is read
pub serve_refused-requires-clause-refused : goal.serve_refused-requires-clause-refused
serve_refused-requires-clause-refused g c κs within =
    let line = line_view c.args.line.now in
    refused_fields c.args.service.now.plan.now line Long
    (long_fields line (c.in-Err-Long.ensures.long.0 (ap (λ e. Err e) c.in-Err-Long.field-0-is)))

pub serve_refused-requires-in-Err-Form-clause-refused : goal.serve_refused-requires-in-Err-Form-clause-refused
serve_refused-requires-in-Err-Form-clause-refused g c κs within =
    refused_fields c.args.service.now.plan.now (line_view c.args.line.now) Form
    (c.in-Err-Form.ensures.form.0 (ap (λ e. Err e) c.in-Err-Form.field-0-is))

-- want of memory
pub returns-in-Err-Memory-clause-answers : goal.returns-in-Err-Memory-clause-answers
returns-in-Err-Memory-clause-answers g c =
    answers_idle c.args.service.now.plan.now c.args.progress.pass.party _
    (reached c.args.answers.now.items c.args.progress.own c.args.progress.pass.seen) _
