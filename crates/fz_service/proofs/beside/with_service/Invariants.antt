use Rattle.fz_service.proofs.beside.with_service.Given as goal

abbrev pub ghosts-open_and_run : goal.ghosts-open_and_run
ghosts-open_and_run g a = record { origin = a.prepared }
