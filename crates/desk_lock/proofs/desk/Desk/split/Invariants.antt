use Rattle.desk_lock.proofs.desk.Desk.split.Given as goal

abbrev pub ghosts-cut : goal.ghosts-cut
ghosts-cut g a = record { party = a.party }
