use Rattle.fz_service_tests.proofs.service.eight.eight_workers_have_lists_of_six.Given as goal

abbrev pub ghosts-serves_rounds : goal.ghosts-serves_rounds
ghosts-serves_rounds g a = record { origin = a.prepared }
