use Rattle.fz_service_tests.proofs.service.limits.a_thousand_and_one_are_left.Given as goal

abbrev pub ghosts-leaves_many : goal.ghosts-leaves_many
ghosts-leaves_many g a = record { origin = a.prepared }
