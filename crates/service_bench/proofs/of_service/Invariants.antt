use Rattle.service_bench.proofs.of_service.Given as goal

abbrev pub ghosts-run : goal.ghosts-run
ghosts-run g a = record { origin = a.prepared }
