use Rattle.accounts_core.proofs.first.first_board.Given as goal

-- the counter's ledger is the blank's
abbrev pub ghosts-counted_board : goal.ghosts-counted_board
ghosts-counted_board a = record { name = a.blank.name; parts = a.blank.parts }
