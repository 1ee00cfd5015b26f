use Rattle.numeric_tests.proofs.solving.follow.Given as goal

-- the counter's ledger is the blank's
abbrev pub ghosts-solved : goal.ghosts-solved
ghosts-solved g a = record { name = a.blank.name; parts = a.blank.parts }
