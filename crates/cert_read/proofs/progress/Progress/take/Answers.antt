use Rattle.std.proofs.Common.{◌≡◌, false, Some, option_map, sym, ap, ◌∙◌}
use Rattle.line_form.specs.Lines.{line_view}
use Rattle.cert_read.specs.Cutting.{cut_line}
use Rattle.cert_read.specs.Statement.{entry_view}
use Rattle.line_form.specs.Lines.{is_passed_over}
use Rattle.cert_read.specs.Reading.{said}
use Rattle.cert_read.proofs.Outcomes.{outcome_on, outcome_off}
use Rattle.cert_read.proofs.progress.Progress.take.Goals as goal

pub returns-in-Some-clause-goes_on : goal.returns-in-Some-clause-goes_on
returns-in-Some-clause-goes_on c = λ rest.
    let counts : is_passed_over (line_view c.args.line.now) ≡ false = cc in
    let says : option_map cut_line (said (line_view c.args.line.now)) ≡ Some (entry_view c.in-Some.entry) = sym c.in_ok-entry.ensures ∙ ap (option_map entry_view) c.in-Some.is in
    outcome_on c.with_entry.result c.args.self (line_view c.args.line.now) (entry_view c.in-Some.entry) rest counts says c.with_entry.ensures.taken

pub returns-in-Some-clause-fault : goal.returns-in-Some-clause-fault
returns-in-Some-clause-fault c = λ rest.
    let counts : is_passed_over (line_view c.args.line.now) ≡ false = cc in
    let says : option_map cut_line (said (line_view c.args.line.now)) ≡ Some (entry_view c.in-Some.entry) =
    sym c.in_ok-entry.ensures ∙ ap (option_map entry_view) c.in-Some.is in
    outcome_off c.with_entry.result c.args.self (line_view c.args.line.now) (entry_view c.in-Some.entry) rest counts says
    c.with_entry.ensures.fault
