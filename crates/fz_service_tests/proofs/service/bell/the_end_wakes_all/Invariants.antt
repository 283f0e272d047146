use Rattle.fz_service_tests.proofs.service.bell.the_end_wakes_all.Given as goal

abbrev pub ghosts-wakes_at_the_end : goal.ghosts-wakes_at_the_end
ghosts-wakes_at_the_end g a = record { origin = a.prepared }
