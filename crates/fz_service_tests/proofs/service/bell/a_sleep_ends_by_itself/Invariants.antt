use Rattle.fz_service_tests.proofs.service.bell.a_sleep_ends_by_itself.Given as goal

abbrev pub ghosts-stops_unwoken : goal.ghosts-stops_unwoken
ghosts-stops_unwoken g a = record { origin = a.prepared }
