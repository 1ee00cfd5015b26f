use Rattle.std.proofs.Common.{◌≡◌, ◌∙◌, ap, sym, subst, rules}
use Rattle.std.specs.Prelude.{Some, None, Err}
use Rattle.line_form.specs.Lines.{line_view}
use Rattle.input_rules.specs.Judgement.{judgement}
use Rattle.input_rules.specs.Requests.{input, request_of}
use Rattle.input_rules.specs.Views.{input_view, request_view}
use Rattle.input_rules.specs.declared.lines.Cause.{Cause}
use Rattle.compile_workers.specs.Serving.{IsRefused}
use Rattle.compile_workers.proofs.LineAnswers.{asks_by, refused_input, refused_no_form}
use Rattle.compile_workers.proofs.lines.serve_fields.Goals as goal

-- the fields have none of the forms
pub serve_refused-requires-clause-refused : goal.serve_refused-requires-clause-refused
serve_refused-requires-clause-refused g c κs within =
    let read = c.in-None.ensures in
    let none : request_of c.args.service.now.plan.now.start c.args.fields.now ≡ None = cc
    (read, c.start.ensures.year) in
    refused_no_form c.args.service.now.plan.now (line_view c.args.line.now) c.args.fields.now c.requires.fields none

-- the input is refused
pub serve_refused-requires-in-Err-clause-refused : goal.serve_refused-requires-in-Err-clause-refused
serve_refused-requires-in-Err-clause-refused g c κs within =
    let plan = c.args.service.now.plan.now in
    let line = line_view c.args.line.now in
    let asked = input_view c.in-Some-Input.asked in
    let some : request_of plan.start c.args.fields.now ≡ Some (input asked) =
    ap (λ s. request_of s c.args.fields.now) (sym c.start.ensures.year)
    ∙ (sym c.in-Some-Input.ensures ∙ ap (λ r. Some (request_view r)) c.in-Some-Input.field-0-is) in
    let judged : judgement plan asked.kind asked.name asked.period asked.value ≡ Err c.in-Err.why = search rules in
    subst (λ (cause : Cause). IsRefused plan line cause) (sym c.cause_of.ensures)
    (refused_input plan line asked c.in-Err.why (asks_by plan line c.args.fields.now
    (input asked) c.requires.fields some)
    judged)
