use Rattle.two_mutators.proofs.main.Given as goal

abbrev pub ghosts-run : goal.ghosts-run
ghosts-run g a = record { origin = a.prepared }
