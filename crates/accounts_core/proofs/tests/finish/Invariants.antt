use Rattle.accounts_core.proofs.tests.finish.Given as goal

-- the counter's ledger is the blank's
abbrev pub ghosts-counted_finish : goal.ghosts-counted_finish
ghosts-counted_finish a = record { name = a.blank.name; parts = a.blank.parts }
