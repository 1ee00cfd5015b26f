use Rattle.accounts_core.proofs.tests.made_of.Given as goal

-- the counter's ledger is the blank's
abbrev pub ghosts-counted_made : goal.ghosts-counted_made
ghosts-counted_made a = record { name = a.blank.name; parts = a.blank.parts }
