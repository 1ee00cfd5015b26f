use Rattle.qna_cli.proofs.tests.certificates.printed_behind.Given as goal

abbrev pub ghosts-printed : goal.ghosts-printed
ghosts-printed g a = record { name = a.blank.name; parts = a.blank.parts }
