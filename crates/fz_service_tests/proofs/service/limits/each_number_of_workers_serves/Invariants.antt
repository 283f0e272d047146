use Rattle.fz_service_tests.proofs.service.limits.each_number_of_workers_serves.Given as goal

abbrev pub ghosts-serves_one_each : goal.ghosts-serves_one_each
ghosts-serves_one_each g a = record { origin = a.prepared }
