use Rattle.fz_service_tests.proofs.service.limits.each_of_eight_seats_takes_again.Given as goal

abbrev pub ghosts-takes_again : goal.ghosts-takes_again
ghosts-takes_again g a = record { origin = a.prepared }
