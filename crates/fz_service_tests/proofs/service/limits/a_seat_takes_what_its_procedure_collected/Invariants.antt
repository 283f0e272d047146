use Rattle.fz_service_tests.proofs.service.limits.a_seat_takes_what_its_procedure_collected.Given as goal

abbrev pub ghosts-takes_what_was_collected : goal.ghosts-takes_what_was_collected
ghosts-takes_what_was_collected g a = record { origin = a.prepared }
