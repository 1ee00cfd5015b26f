use Rattle.qna_live.proofs.serving.serve.Given as goal

abbrev pub ghosts-report_journal : goal.ghosts-report_journal
ghosts-report_journal g a = record { name = a.blank.name; parts = a.blank.parts }
