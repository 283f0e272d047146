use Rattle.service_bench.proofs.soak_by_workers.Given as goal

abbrev pub ghosts-soak_service : goal.ghosts-soak_service
ghosts-soak_service g a = record { origin = a.prepared }
