use Rattle.qna_trial.proofs.trial.trial.Given as goal

abbrev pub ghosts-figures_of : goal.ghosts-figures_of
ghosts-figures_of g a = record { name = a.blank.name; parts = a.blank.parts }
