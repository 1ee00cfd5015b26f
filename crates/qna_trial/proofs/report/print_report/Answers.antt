use Rattle.command_words.specs.TrialWords.{trial_view}
use Rattle.qna_trial.specs.Trial.{figures_view}
use Rattle.qna_trial.proofs.Telling.{lines_are}
use Rattle.qna_trial.proofs.report.print_report.Goals as goal

pub returns : goal.returns
returns c =
    lines_are (trial_view c.args.said) (figures_view c.args.figures.now) _ _ _ _ _ _ c.new-text.ensures.items c.in_ok-push_words.ensures c.in_ok-push_number.ensures
    c.in_ok-push_number-2.ensures c.in_ok-push_level.ensures c.in_ok-push_line.ensures
