use Rattle.fz_service_tests.proofs.service.limits.seventy_thousand_go_through_a_service.Given as goal

abbrev pub ghosts-serves_for_long : goal.ghosts-serves_for_long
ghosts-serves_for_long g a = record { origin = a.prepared }
