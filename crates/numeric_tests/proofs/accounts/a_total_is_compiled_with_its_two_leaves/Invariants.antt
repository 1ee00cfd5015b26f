use Rattle.numeric_tests.proofs.accounts.a_total_is_compiled_with_its_two_leaves.Given as goal

-- the counter's ledger is the blank's
abbrev pub ghosts-compiled : goal.ghosts-compiled
ghosts-compiled g a = record { name = a.blank.name; parts = a.blank.parts }
