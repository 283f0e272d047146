use Rattle.fz_service_tests.proofs.service.stops.counts_are_exact_after_each_step.Given as goal

abbrev pub ghosts-stops_after : goal.ghosts-stops_after
ghosts-stops_after g a = record { origin = a.prepared }
