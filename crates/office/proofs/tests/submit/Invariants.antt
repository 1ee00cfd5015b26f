use Rattle.office.proofs.tests.submit.Given as goal

-- the counter's ledger is the blank's
abbrev pub ghosts-counted_submit : goal.ghosts-counted_submit
ghosts-counted_submit g a = record { name = a.blank.name; parts = a.blank.parts }
