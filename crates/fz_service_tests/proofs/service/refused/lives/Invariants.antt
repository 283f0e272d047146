use Rattle.fz_service_tests.proofs.service.refused.lives.Given as goal

abbrev pub ghosts-is_opened : goal.ghosts-is_opened
ghosts-is_opened g a = record { origin = a.prepared }
