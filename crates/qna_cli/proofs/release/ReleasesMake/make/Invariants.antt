use Rattle.qna_cli.proofs.release.ReleasesMake.make.Given as goal

abbrev pub ghosts-counted_release : goal.ghosts-counted_release
ghosts-counted_release a = record { name = a.blank.name; parts = a.blank.parts }
