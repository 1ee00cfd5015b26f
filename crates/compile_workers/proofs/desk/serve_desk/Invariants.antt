use Rattle.compile_workers.proofs.desk.serve_desk.Given as goal

-- the counter's ledger is the blank's
abbrev pub ghosts-serve_source : goal.ghosts-serve_source
ghosts-serve_source g a = record { name = a.blank.name; parts = a.blank.parts }
