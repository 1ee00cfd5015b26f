use Rattle.round_works.proofs.tests.two_leaves_make_their_total_and_a_job_that_comes_back_is_handed_out_again.Given as goal

-- the counter's ledger is the blank's
abbrev pub ghosts-driven : goal.ghosts-driven
ghosts-driven g a = record { name = a.blank.name; parts = a.blank.parts }
