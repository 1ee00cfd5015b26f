use Rattle.qna_trial.proofs.Ends.{trials_complete}
use Rattle.qna_trial.proofs.trial.trials_complete.Goals as goal

pub returns : goal.returns
returns c = trials_complete
