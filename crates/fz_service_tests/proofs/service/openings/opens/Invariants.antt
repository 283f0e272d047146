use Rattle.fz_service_tests.proofs.service.openings.opens.Given as goal

abbrev pub ghosts-opens_with_seats : goal.ghosts-opens_with_seats
ghosts-opens_with_seats g a = record { origin = a.prepared }
