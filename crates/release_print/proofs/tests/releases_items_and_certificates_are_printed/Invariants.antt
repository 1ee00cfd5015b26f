use Rattle.release_print.proofs.tests.releases_items_and_certificates_are_printed.Given as goal

-- the counter's ledger is the blank's
abbrev pub ghosts-compiled : goal.ghosts-compiled
ghosts-compiled g a = record { name = a.blank.name; parts = a.blank.parts }
