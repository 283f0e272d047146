use Rattle.fz_service_tests.proofs.service.rows.held_until_finished.Given as goal

abbrev pub ghosts-two_takes : goal.ghosts-two_takes
ghosts-two_takes g a = record { origin = a.prepared }
