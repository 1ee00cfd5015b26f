use Rattle.std.proofs.Common.{◌∙◌}
use Rattle.command_words.specs.TrialWords.{trial_view}
use Rattle.qna_trial.specs.Trial.{figures_view}
use Rattle.qna_trial.proofs.Ends.{told_off, told_whole}
use Rattle.qna_trial.proofs.Telling.{report_is}
use Rattle.qna_trial.proofs.trial.trial.Goals as goal

pub returns-in-Ok-write_all : goal.returns-in-Ok-write_all
returns-in-Ok-write_all g c =
    let text = report_is (trial_view c.args.said) (figures_view c.in-Ok.figures) c.in-Ok-print_report.text.items c.in-Ok.ensures c.in-Ok-print_report.ensures in
    told_whole c.in-Ok-write_all.field-0 _ _ (trial_view c.args.said) _ (c.deref.ensures.value ∙ text) c.in-Ok-write_all.ensures

pub returns : goal.returns
returns g c =
    let text = report_is (trial_view c.args.said) (figures_view c.in-Ok.figures) c.in-Ok-print_report.text.items c.in-Ok.ensures c.in-Ok-print_report.ensures in
    told_off c.in-Err.refused c.write_status.result _ _ (trial_view c.args.said) _ (c.deref.ensures.value ∙ text) c.in-Err.ensures c.write_status.ensures.failed c.write_status.ensures.memory
