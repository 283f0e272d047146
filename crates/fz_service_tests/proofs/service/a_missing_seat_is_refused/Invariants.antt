use Rattle.fz_service_tests.proofs.service.a_missing_seat_is_refused.Given as goal

abbrev pub ghosts-ends_with_all_seats : goal.ghosts-ends_with_all_seats
ghosts-ends_with_all_seats g a = record { origin = a.prepared }
